use Rattle.store.proofs.Moving.{Moving}
use Rattle.store.proofs.index.move_index.Given as goal

-- The offsets in front are moved, and the others are as they were.
abbrev pub invariant-loop-offset : goal.invariant-loop-offset
invariant-loop-offset l = Moving l.initial.index l.at l.old l.new l.offset-index l.index
