-- `pattern::syntax::check` meets its contract: at the pattern's end every group has closed, or one is left open.
use Rattle.std.proofs.Common.{refl}
use Rattle.pattern.proofs.Checking.{check-end}
use Rattle.pattern.proofs.syntax.+check.Goals as goal

pub returns : goal.returns
returns t c =
    let v = c.loop-i.invariant in
    rw c.then_some.ensures (check-end _ _ _ _ v.on v.within c.loop-i-test.false v.same _ refl)
