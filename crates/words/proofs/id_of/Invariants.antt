use Rattle.std.proofs.Common.{◌≡◌, map, drop}
use Rattle.words.specs.Words.{lower, look_up, id_of}
use Rattle.words.specs.Table.{entry_of}
use Rattle.words.proofs.id_of.Given as goal

-- the rows before this one do not name the word
abbrev pub invariant-loop-row : goal.invariant-loop-row
invariant-loop-row l = id_of l.w ≡ look_up (map lower l.w) (map entry_of (drop l.row-index l.row-items))
