use mathlib.Core.Path.{ap}
use Prim.Native.Nat.{ℕ}
use lib.Dec.{leb}
use borrow.Author.Tests.{eq-eqb, ne_eqb}
use Rattle.subscriptions.specs.Region.{count_of, subscriptions_fine}
use Rattle.subscriptions.proofs.is_fine.Goals as goal

pub returns-then-s-eq4100 : goal.returns-then-s-eq4100
unfolding subscriptions_fine count_of
returns-then-s-eq4100 c = rw (eq-eqb _ _ c.if-s-eq4100.true) (ap (λ (n : ℕ). leb n 16) c.number_at.ensures.value)

pub returns-else-s-eq4100 : goal.returns-else-s-eq4100
unfolding subscriptions_fine
returns-else-s-eq4100 c = rw (ne_eqb _ _ c.if-s-eq4100.false)
