use Rattle.subscriptions.specs.Region.{patterns_of}
use Rattle.subscriptions.proofs.Removing.{Sifted}
use Rattle.subscriptions.proofs.remove.Given as goal

abbrev pub invariant-loop-from : goal.invariant-loop-from
invariant-loop-from l = Sifted (patterns_of l.initial.s) l.pattern l.n l.s l.from l.to
