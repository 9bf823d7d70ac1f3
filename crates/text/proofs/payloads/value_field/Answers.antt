-- `text::payloads::value_field`: nothing, or NUL and a field.
use lib.ListN.{drop}
use Rattle.text.proofs.PayloadLaws.{value_none, value-built}
use Rattle.text.proofs.payloads.value_field.Goals as goal

pub returns-in_default : goal.returns-in_default
returns-in_default c =
    let p = rw c.in_default.is at c.in_ok-value.ensures in
    value_none (drop c.args.at c.args.line.now) _ _ _ _ p.0 p.1

pub returns : goal.returns
returns c = value-built _ (rw c.in-Some.is at c.in_ok-value.ensures) _ c.put.ensures
