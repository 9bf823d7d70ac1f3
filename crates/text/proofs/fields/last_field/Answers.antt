-- `text::fields::last_field`: a field, and nothing behind it.
use native.Mathlib.Omega.{arith}
use Rattle.text.specs.FieldPost.{LastAt}
use Rattle.text.proofs.ScanLaws.{on-err}
use Rattle.text.proofs.PayloadLaws.{bad-field, the-last, one-more}
use Rattle.text.proofs.fields.last_field.Goals as goal

pub returns-in_err-field : goal.returns-in_err-field
returns-in_err-field c =
    let A = c.args in
    on-err (λ r. LastAt A.line.now A.at A.buf.now A.to r c.next_field.new.buf) c.from_residual.result
    c.from_residual.ensures.0 (bad-field _ c.in_err-field.ensures)

pub returns-in_err-ended : goal.returns-in_err-ended
returns-in_err-ended c =
    let A = c.args in
    let w = rw c.in-Some.is at c.in_ok-field.ensures in
    on-err (λ r. LastAt A.line.now A.at A.buf.now A.to r c.next_field.new.buf) c.from_residual-in_err-ended.result
    c.from_residual-in_err-ended.ensures.0 (one-more _ w.is c.in_err-ended.ensures)

pub returns : goal.returns
returns c =
    let w = rw c.in-Some.is at c.in_ok-field.ensures in
    record {
      value = w.value;
      is = the-last _ w.is c.in_ok-ended.ensures;
      count = w.stored.count;
      held = w.stored.held;
      short = omega (arith, w.short, w.within);
    }
