-- `server_text::fields::keyed_fields`: a key without NUL, then what follows it.
use lib.ListN.{length, drop}
use Rattle.text.proofs.ScanLaws.{on-err}
use Rattle.server_text.specs.Fields.{string_in, keyed_in}
use Rattle.server_text.specs.Promises.{Builds}
use Rattle.server_text.proofs.PayloadLaws.{keyed-nul, keyed-built, keyed-bad, keyed-malformed}
use Rattle.server_text.proofs.fields.keyed_fields.Goals as goal

pub returns-in_err-key : goal.returns-in_err-key
returns-in_err-key c =
    let A = c.args in
    on-err
    (λ r. Builds (keyed_in (string_in (drop A.at A.line.now))) (length A.line.now) A.buf.now A.to r
    c.string_field.new.buf) c.from_residual.result c.from_residual.ensures.0
    (keyed-malformed _ c.in_err-key.ensures)

pub returns-then-key : goal.returns-then-key
returns-then-key c = keyed-nul c.in_ok-key.ensures c.if-key.true

pub returns-in_err-value : goal.returns-in_err-value
returns-in_err-value c =
    let A = c.args in
    on-err
    (λ r. Builds (keyed_in (string_in (drop A.at A.line.now))) (length A.line.now) A.buf.now A.to r
    c.value_tail.new.buf) c.from_residual-in_err-value.result c.from_residual-in_err-value.ensures.0
    (keyed-bad c.in_ok-key.ensures c.in_err-value.ensures)

pub returns : goal.returns
returns c = keyed-built c.in_ok-key.ensures (cc) c.in_ok-value.ensures
