use Prim.Native.Nat.{◌-◌}
use Rattle.std.specs.Option.{option_copied}
use Rattle.recording.proofs.Turns.{Looked}
use Rattle.recording.proofs.turn.last_write.Given as goal

-- what was found among the rows before `at`
abbrev pub invariant-loop-at : goal.invariant-loop-at
invariant-loop-at l = Looked l.r l.key l.until l.at (option_copied l.found)

abbrev pub decreases-loop-at : goal.decreases-loop-at
decreases-loop-at l = l.until - l.at
