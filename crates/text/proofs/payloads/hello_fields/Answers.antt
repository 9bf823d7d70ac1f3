-- `text::payloads::hello_fields`: a version, then a text.
use native.Mathlib.Omega.{arith}
use lib.ListN.{drop}
use Rattle.text.specs.Payload.{hello_payload}
use Rattle.text.specs.PayloadPost.{BuildsLine, has_version}
use Rattle.text.proofs.ScanLaws.{on-err}
use Rattle.text.proofs.PayloadLaws.{hello-none, hello-fault, hello-built}
use Rattle.text.proofs.payloads.hello_fields.Goals as goal

pub returns-in_default : goal.returns-in_default
returns-in_default c = hello-none (drop c.args.at c.args.line.now) _ _ _ (omega arith)
    (rw c.in_default.is at c.in_ok-version.ensures) c.put.ensures

pub returns-in_err-text : goal.returns-in_err-text
returns-in_err-text c =
    let A = c.args in
    let w = rw c.in-Some.is at c.in_ok-version.ensures in
    on-err (λ r. BuildsLine hello_payload has_version A.line.now A.at A.buf.now r c.last_field.new.buf)
    c.from_residual-in_err-text.result c.from_residual-in_err-text.ensures.0
    (hello-fault w A.buf.now _ c.put-2.ensures _ c.in_err-text.ensures)

pub returns : goal.returns
returns c =
    let w = rw c.in-Some.is at c.in_ok-version.ensures in
    rw c.unwrap_or.ensures
    (hello-built w c.args.buf.now _ c.put-2.ensures _ c.in_ok-text.text c.in_ok-text.ensures)
