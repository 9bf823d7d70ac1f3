-- `broker::setting::set_up` meets its contract.
use mathlib.Core.Path.{◌≡◌, refl, sym, ◌∙◌}
use mathlib.Core.Bool.{true}
use native.Mathlib.Omega.{arith}
use Rattle.model.specs.State.{in_range}
use Rattle.memory.specs.Layout.{sizes_from}
use Rattle.broker.proofs.Serving.{sets-up-refused, sets-up-short, sets-up-done}
use Rattle.broker.proofs.setting.set_up.Goals as goal
use Rattle.broker.proofs.setting.set_up.Goals.{Else-not-in_range}

ranged : (c : Else-not-in_range)
    → in_range (sizes_from c.args.sizes) ≡ true
ranged c = sym c.in_range.ensures ∙ c.if-not-in_range.false

pub returns-then-not-in_range : goal.returns-then-not-in_range
returns-then-not-in_range c =
    sets-up-refused
    (sym c.in_range.ensures ∙ c.if-not-in_range.true)
    refl refl refl

pub size-requires : goal.size-requires
size-requires c = ranged (goal.at.size-requires c).Else-not-in_range

pub returns-then-mem-size : goal.returns-then-mem-size
returns-then-mem-size c =
    let short = c.if-mem-size.true in
    let size = c.size.ensures in
    sets-up-short (ranged (goal.at.returns-then-mem-size c).Else-not-in_range) (omega (arith, short, size)) refl refl refl

pub set_up-requires : goal.set_up-requires
set_up-requires c =
    let long = c.if-mem-size.false in
    let size = c.size.ensures in
    record { ranged = ranged (goal.at.set_up-requires c).Else-not-in_range; long = omega (arith, long, size) }

pub returns : goal.returns
returns c =
    let long = c.if-mem-size.false in
    let size = c.size.ensures in
    sets-up-done (ranged (goal.at.returns c).Else-not-in_range) (omega (arith, long, size)) refl refl
    c.set_up.ensures
