-- No LF stands before i.
use mathlib.Core.Path.{◌≡◌}
use Prim.Native.Nat.{◌≤◌, ◌+◌}
use lib.ListN.{length, drop}
use Rattle.client.specs.Reading.{first_lf}
use Rattle.client.proofs.reading.first_lf.Given as goal

abbrev pub invariant-loop-i : goal.invariant-loop-i
invariant-loop-i l = (l.i ≤ length l.s) × (first_lf l.s ≡ first_lf (drop l.i l.s) + l.i)
