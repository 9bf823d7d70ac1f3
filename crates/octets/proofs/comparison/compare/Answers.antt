use Rattle.std.proofs.Common.{◌∙◌}
use Rattle.octets.proofs.Orders.{slice_cmp_order}
use Rattle.octets.proofs.comparison.compare.Goals as goal

pub returns : goal.returns
returns c = c.cmp.ensures ∙ slice_cmp_order c.args.a.now c.args.b.now
