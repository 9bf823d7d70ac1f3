-- `step::owe_match` meets its contract.
use mathlib.Core.Path.{◌≡◌, sym, ◌∙◌}
use native.Mathlib.Omega.{arith}
use Rattle.pattern.specs.Answer.{accepted}
use Rattle.step.specs.TurnParts.{entry_key}
use Rattle.step.proofs.Entries.{row-body}
use Rattle.step.proofs.Walk.{owing-no}
use Rattle.step.proofs.owe_match.Goals as goal
use Rattle.step.proofs.owe_match.Goals.{After-accepts, Else-not-accepts}

-- the test is that of the entry's key
tested : (c : After-accepts)
    → c.accepts.result
    ≡ accepted c.args.pattern.now (entry_key c.args.mem.now c.args.at)
tested c =
    let k = rw c.store_part-store.ensures at c.key_at.ensures in
    rw k at c.accepts.ensures

pub returns-then-not-accepts : goal.returns-then-not-accepts
returns-then-not-accepts c =
    owing-no _ c.args.slot _ (sym (tested (goal.at.returns-then-not-accepts c).After-accepts) ∙ c.if-not-accepts.true)
    c.requires.0.in-open.in-slot.sound

pub owe_entry_with-requires : goal.owe_entry_with-requires
owe_entry_with-requires c =
    let n = rw c.store_part-store.ensures at c.row_size.ensures in
    (c.requires.0, omega (arith, row-body _ c.requires.0.row, n, c.if-row_size-gt519.false, c.requires.1))
