use Rattle.std.proofs.Common.{◌∙◌}
use Rattle.octets.proofs.Orders.{pointwise_same}
use Rattle.octets.proofs.comparison.equal.Goals as goal

pub returns : goal.returns
returns c = c.eq.ensures ∙ pointwise_same c.args.a.now c.args.b.now
