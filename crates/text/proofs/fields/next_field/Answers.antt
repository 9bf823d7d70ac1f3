-- `text::fields::next_field`: spaces, then a quoted or a plain field.
use mathlib.Core.Path.{refl}
use Rattle.text.specs.FieldPost.{FoundAt}
use Rattle.text.proofs.ScanLaws.{on-err}
use Rattle.text.proofs.PayloadLaws.{next-none, found-quoted, found-bad, found_plain}
use Rattle.text.proofs.fields.next_field.Goals as goal

pub returns-in_default : goal.returns-in_default
returns-in_default c = (next-none _ c.in_default.ensures, refl)

pub returns-in_err-quoted_field : goal.returns-in_err-quoted_field
returns-in_err-quoted_field c =
    let A = c.args in
    on-err (λ r. FoundAt A.line.now A.at A.buf.now A.to r c.quoted_field.new.buf) c.from_residual.result
    c.from_residual.ensures.0 (found-bad c.in-Some.ensures c.if-line-i-eq34.true c.in_err-quoted_field.ensures)

pub returns-then-line-i-eq34 : goal.returns-then-line-i-eq34
returns-then-line-i-eq34 c = found-quoted c.in-Some.ensures c.if-line-i-eq34.true c.in_ok-quoted_field.ensures

pub returns : goal.returns
returns c = found_plain c.in-Some.ensures c.if-line-i-eq34.false c.word_end-next.ensures _ _ _ _ c.has_nul.ensures
    c.copy.ensures
