-- `store::check::walk_rows` meets its contract.
use mathlib.Core.Path.{◌≡◌, sym, ◌∙◌}
use mathlib.Core.Bool.{true}
use native.Mathlib.Omega.{arith}
use lib.ListN.{drop}
use Rattle.store.specs.Row.{row_fine}
use Rattle.store.proofs.RowLaws.{row_whole, body_at}
use Rattle.store.proofs.Walks.{passed_start, passed-next, failed-none, failed-unordered}
use Rattle.store.proofs.check.walk_rows.Goals as goal
use Rattle.store.proofs.check.walk_rows.Goals.{Else-not-is_row}
use Rattle.store.proofs.check.walk_rows.Goals.{then-not-is_row-via-then-not-is_row}
use Rattle.store.proofs.check.walk_rows.Goals.{then-not-is_row-via-else-not-is_row+then-not-key_follows}

-- a row stands at `at`
here : (c : Else-not-is_row) → row_fine (drop c.loop.at c.args.rows.now) ≡ true
here c = sym c.is_row.ensures ∙ c.if-not-is_row.false

pub loop-init : goal.loop-init
loop-init c = passed_start c.requires

pub returns-then-not-is_row : goal.returns-then-not-is_row
returns-then-not-is_row c =
    let p = c.loop.invariant in
    elim c.then-not-is_row.branch [
      | then-not-is_row-via-then-not-is_row w ↦
          failed-none p c.args.count c.loop-test.true (sym c.is_row.ensures ∙ w.if-not-is_row.true)
      | then-not-is_row-via-else-not-is_row+then-not-key_follows w ↦
          failed-unordered p c.args.count c.loop-test.true (sym c.is_row.ensures ∙ w.if-not-is_row.false)
          (sym w.key_follows.ensures ∙ w.if-not-key_follows.true)
    ]

pub overflow_add-at : goal.overflow_add-at
overflow_add-at c =
    let w = row_whole c.args.rows.now c.loop.at (here (goal.at.overflow_add-at c).Else-not-is_row) in
    let b = body_at c.args.rows.now c.loop.at in
    omega (arith, c.size-at.ensures)

pub loop-preserved : goal.loop-preserved
loop-preserved c =
    rw c.size-at.ensures
    (passed-next c.loop.invariant (here (goal.at.loop-preserved c).Else-not-is_row)
    (sym c.key_follows.ensures ∙ c.if-not-key_follows.false))
