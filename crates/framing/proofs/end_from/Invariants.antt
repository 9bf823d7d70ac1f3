use Rattle.std.proofs.Common.{◌≡◌, ◌+◌, drop}
use Rattle.framing.specs.Framing.{line_end}
use Rattle.framing.proofs.end_from.Given as goal

-- from `at` to i no byte ends a line
abbrev pub invariant-loop-i : goal.invariant-loop-i
invariant-loop-i l = line_end (drop l.at l.s) + l.at ≡ line_end (drop l.i l.s) + l.i
