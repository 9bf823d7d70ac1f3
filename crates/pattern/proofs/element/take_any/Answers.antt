-- `pattern::element::take_any` meets its contract: a byte stands at k, or k is the key's end.
use Rattle.std.proofs.Common.{refl}
use Rattle.pattern.proofs.Keys.{any-took}
use Rattle.pattern.proofs.element.take_any.Goals as goal

pub returns : goal.returns
returns c = rw c.then_some.ensures (any-took _ _ c.requires _ refl)
