-- `pattern::walk::past_group` meets its contract: past a `|` it goes on in the same group.
use Rattle.std.proofs.Common.{◌∙◌, arith}
use Rattle.pattern.proofs.Levels.{above-next}
use Rattle.pattern.proofs.walk.past_group.Goals as goal

pub loop-next-preserved : goal.loop-next-preserved
loop-next-preserved c =
    let v = c.loop-next.invariant in
    let n = c.in-Another.ensures in
    record { on = omega (arith, n.on); within = n.within; same = above-next _ _ _ _ n ∙ v.same }
