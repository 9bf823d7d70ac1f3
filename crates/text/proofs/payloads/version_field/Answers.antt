-- `text::payloads::version_field`: a plain field of digits.
use mathlib.Core.Path.{sym, ◌∙◌}
use Rattle.text.specs.PayloadPost.{VersionAt}
use Rattle.text.proofs.ScanLaws.{on-err}
use Rattle.text.proofs.PayloadLaws.{next-none, next-quoted, hello-quoted, version-read, version-bad}
use Rattle.text.proofs.payloads.version_field.Goals as goal

pub returns-in_default : goal.returns-in_default
returns-in_default c = next-none _ c.in_default.ensures

pub returns-then-line-i-eq34 : goal.returns-then-line-i-eq34
returns-then-line-i-eq34 c = hello-quoted _ _ (next-quoted c.in-Some.ensures c.if-line-i-eq34.true)

pub returns-in_err-number : goal.returns-in_err-number
returns-in_err-number c =
    let A = c.args in
    on-err (λ r. VersionAt A.line.now A.at r) c.from_residual.result c.from_residual.ensures.0
    (version-bad c.in-Some.ensures c.word_end-next.ensures (sym c.number_of.ensures ∙ c.in_err-number.ensures.ok_part))

pub returns : goal.returns
returns c = version-read c.in-Some.ensures c.word_end-next.ensures _
    (sym c.number_of.ensures ∙ c.in_ok-number.ensures.ok_part)
