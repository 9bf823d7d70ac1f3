use Rattle.std.proofs.Common.{◌≡◌, ◌-◌, take}
use Rattle.octets.proofs.comparison.precedes.Given as goal

-- the bytes before i are equal
abbrev pub invariant-loop-i : goal.invariant-loop-i
invariant-loop-i l = take l.i l.a ≡ take l.i l.b

abbrev pub decreases-loop-i : goal.decreases-loop-i
decreases-loop-i l = l.last - l.i
