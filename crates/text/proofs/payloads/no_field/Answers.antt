-- `text::payloads::no_field`: nothing but spaces.
use mathlib.Core.Bool.{false}
use mathlib.Core.Option.{some}
use mathlib.Core.List.{[]}
use Rattle.text.specs.Payload.{no_payload}
use Rattle.text.specs.PayloadPost.{BuildsLine}
use Rattle.text.proofs.ScanLaws.{on-err}
use Rattle.text.proofs.PayloadLaws.{none-built, none-bad}
use Rattle.text.proofs.payloads.no_field.Goals as goal

pub returns-in_err-ended : goal.returns-in_err-ended
returns-in_err-ended c =
    let A = c.args in
    λ buf. on-err (λ r. BuildsLine no_payload (λ x. false) A.line.now A.at buf r buf) c.from_residual.result
    c.from_residual.ensures.0 (none-bad (some []) _ buf c.in_err-ended.ensures)

pub returns : goal.returns
returns c = λ buf. none-built _ _ _ _ buf c.in_ok-ended.ensures
