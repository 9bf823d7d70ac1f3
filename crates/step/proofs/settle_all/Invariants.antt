use Rattle.slot.specs.Image.{settled}
use Rattle.step.proofs.Each.{Passed}
use Rattle.step.proofs.settle_all.Given as goal

abbrev pub invariant-loop-i : goal.invariant-loop-i
invariant-loop-i l = Passed settled l.i l.initial.mem l.mem
