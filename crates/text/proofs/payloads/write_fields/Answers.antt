-- `text::payloads::write_fields`: a key without NUL, then what follows it.
use lib.ListN.{drop}
use Rattle.text.specs.Payload.{write_payload}
use Rattle.text.specs.PayloadPost.{BuildsLine, has_field}
use Rattle.text.proofs.ScanLaws.{on-err}
use Rattle.text.proofs.PayloadLaws.{write-missing, write-faulty, write-nul, write-built, write-bad}
use Rattle.text.proofs.payloads.write_fields.Goals as goal

pub returns-in_err-next_field : goal.returns-in_err-next_field
returns-in_err-next_field c =
    let A = c.args in
    on-err (λ r. BuildsLine write_payload has_field A.line.now A.at A.buf.now r c.next_field.new.buf)
    c.from_residual.result c.from_residual.ensures.0 (write-faulty _ c.in_err-next_field.ensures)

pub returns-in_err-key : goal.returns-in_err-key
returns-in_err-key c =
    let A = c.args in
    let p = rw c.in_err-key.ensures.ok_part at c.in_ok-next_field.ensures in
    on-err (λ r. BuildsLine write_payload has_field A.line.now A.at A.buf.now r c.next_field.new.buf)
    c.from_residual-in_err-key.result c.from_residual-in_err-key.ensures.0
    (write-missing (drop A.at A.line.now) _ _ p.0 p.1)

pub returns-then-key : goal.returns-then-key
returns-then-key c = write-nul (rw c.in_ok-key.ensures.ok_part at c.in_ok-next_field.ensures) c.if-key.true

pub returns-in_err-value : goal.returns-in_err-value
returns-in_err-value c =
    let A = c.args in
    on-err (λ r. BuildsLine write_payload has_field A.line.now A.at A.buf.now r c.value_field.new.buf)
    c.from_residual-in_err-value.result c.from_residual-in_err-value.ensures.0
    (write-bad (rw c.in_ok-key.ensures.ok_part at c.in_ok-next_field.ensures) c.in_err-value.ensures)

pub returns : goal.returns
returns c =
    write-built (rw c.in_ok-key.ensures.ok_part at c.in_ok-next_field.ensures) c.if-key.false c.in_ok-value.ensures
