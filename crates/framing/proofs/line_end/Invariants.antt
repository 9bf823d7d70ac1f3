use Rattle.std.proofs.Common.{◌≡◌, ◌+◌, ◌*◌, drop}
use Rattle.framing.specs.Framing.{line_end}
use Rattle.framing.proofs.line_end.Given as goal

-- no byte of the first k blocks ends a line
abbrev pub invariant-loop-k : goal.invariant-loop-k
invariant-loop-k l = line_end l.s ≡ line_end (drop (32 * l.k) l.s) + 32 * l.k
