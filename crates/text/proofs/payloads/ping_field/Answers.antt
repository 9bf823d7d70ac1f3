-- `text::payloads::ping_field`
use mathlib.Core.List.{[]}
use mathlib.Core.Option.{some}
use Rattle.text.specs.Payload.{ping_payload}
use Rattle.text.specs.PayloadPost.{BuildsLine, has_field}
use Rattle.text.proofs.ScanLaws.{on-err}
use Rattle.text.proofs.PayloadLaws.{one_fails, ping-built}
use Rattle.text.proofs.payloads.ping_field.Goals as goal

pub returns-in_err-last_field : goal.returns-in_err-last_field
returns-in_err-last_field c =
    let A = c.args in
    on-err (λ r. BuildsLine ping_payload has_field A.line.now A.at A.buf.now r c.last_field.new.buf)
    c.from_residual.result
    c.from_residual.ensures.0
    (one_fails A.line.now A.at A.buf.now c.last_field.new.buf (some []) c.in_err-last_field.ensures)

pub returns : goal.returns
returns c =
    let A = c.args in
    rw c.unwrap_or.ensures (ping-built A.line.now A.at A.buf.now c.last_field.new.buf c.in_ok-last_field.field-0
    c.in_ok-last_field.ensures)
