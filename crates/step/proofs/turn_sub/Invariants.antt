use mathlib.Core.Path.{◌≡◌}
use lib.ListN.{length}
use Rattle.step.proofs.Walk.{Walked}
use Rattle.step.proofs.turn_sub.Given as goal

abbrev pub invariant-loop-passed : goal.invariant-loop-passed
invariant-loop-passed l =
    (Walked l.slot l.pattern l.initial.mem l.mem l._passed-end l.at l._passed) × (length l.buf ≡ 512)
