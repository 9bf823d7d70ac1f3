use Prim.Native.Nat.{ℕ, ◌<◌}
use Rattle.memory.proofs.Fine.{SlotFine}
use Rattle.memory.proofs.check.slots_fine.Given as goal

abbrev pub invariant-loop-i : goal.invariant-loop-i
invariant-loop-i l = (j : ℕ) → j < l.i → SlotFine l.mem j
