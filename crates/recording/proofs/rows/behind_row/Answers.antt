use mathlib.Core.Path.{sym, ap, ◌∙◌}
use Prim.Native.Nat.{ℕ, ◌+◌}
use Rattle.recording.specs.Encoding.{row_size}
use Rattle.recording.proofs.Checks.{row_fine-short, row_fine-long, behind-row}
use Rattle.recording.proofs.rows.behind_row.Goals as goal

pub returns-then-rows-lt4 : goal.returns-then-rows-lt4
returns-then-rows-lt4 c = row_fine-short c.args.rows.now c.if-rows-lt4.true

pub returns-then-not-is_action : goal.returns-then-not-is_action
returns-then-not-is_action c =
    row_fine-long c.args.rows.now c.if-rows-lt4.false
    ∙ rw (← c.number_at-n.ensures.value, ← c.if-not-is_action.ensures)

pub returns : goal.returns
unfolding row_size
returns c =
    behind-row c.args.rows.now (4 + c.number_at-n.result) c.get.result c.if-rows-lt4.false
    (rw c.number_at-n.ensures.value at (sym c.if-not-is_action.ensures))
    (ap (λ (n : ℕ). 4 + n) c.number_at-n.ensures.value) c.get.ensures.lookup
