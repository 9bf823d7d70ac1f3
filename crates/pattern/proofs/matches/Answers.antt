-- `pattern::matches` by its tests, in their order; the bound on the steps is that of the answer.
use Rattle.pattern.proofs.Answers.{answer-invalid, answer-long, answer-ran}
use Rattle.pattern.proofs.Laws.{matched}
use mathlib.Core.Path.{sym, ◌∙◌}
use Rattle.pattern.proofs.matches.Goals as goal

pub returns-then-not-is_valid : goal.returns-then-not-is_valid
returns-then-not-is_valid c =
    matched _ _ _ (sym (answer-invalid _ _ (sym c.is_valid.ensures ∙ c.if-not-is_valid.true)))

pub returns-then-is_too_long : goal.returns-then-is_too_long
returns-then-is_too_long c =
    let v = sym c.is_valid.ensures ∙ c.if-not-is_valid.false in
    matched _ _ _ (sym (answer-long _ _ v (sym c.is_too_long.ensures ∙ c.if-is_too_long.true)))

pub returns : goal.returns
returns c =
    let v = sym c.is_valid.ensures ∙ c.if-not-is_valid.false in
    matched _ _ _ (sym (answer-ran _ _ (sym c.is_too_long.ensures ∙ c.if-is_too_long.false) _ c.run.ensures v))
