-- `server_text::fields::value_tail`: nothing, or NUL and a value.
use native.Mathlib.Omega.{arith}
use Rattle.server_text.proofs.PayloadLaws.{value_none, value_on}
use Rattle.server_text.proofs.fields.value_tail.Goals as goal

pub returns-then-line-at : goal.returns-then-line-at
returns-then-line-at c = value_none c.args.line.now c.args.at _ _ _ c.if-line-at.true

pub returns : goal.returns
returns c = rw (value_on c.args.line.now c.args.at (omega arith)) c.led_string.ensures
