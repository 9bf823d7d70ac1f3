-- `pattern::element::take_byte` meets its contract: a byte stands at k, which is c or is not, or k is the key's end.
use borrow.Author.Tests.{le-ltb}
use Rattle.pattern.proofs.Keys.{byte-here, byte-end}
use Rattle.pattern.proofs.element.take_byte.Goals.{then-k-key, else-k-key}
use Rattle.pattern.proofs.element.take_byte.Goals as goal

pub returns : goal.returns
returns c =
    rw c.then_some.ensures (elim c.if-k-key.branch [
      | then-k-key w ↦ byte-here _ _ c.requires _ w.if-k-key.true _ w.then_some-is
      | else-k-key w ↦ rw (w.then_some-is, le-ltb _ _ w.if-k-key.false) (byte-end _ _ c.requires _ w.if-k-key.false)
    ])
