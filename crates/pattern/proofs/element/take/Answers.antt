-- `pattern::element::take` meets its contract: what takes the rest is an element too.
use Rattle.pattern.proofs.Keys.{rest-took}
use Rattle.pattern.proofs.element.take.Goals as goal

pub returns-in-Rest : goal.returns-in-Rest
returns-in-Rest c = rw c.in-Rest.is (rest-took c.args.key.now c.args.k c.requires)
