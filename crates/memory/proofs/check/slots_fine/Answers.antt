-- `memory::check::slots_fine` meets its contract.
use mathlib.Core.Path.{◌≡◌, sym, ap, ◌∙◌}
use native.Mathlib.Omega.{arith}
use Rattle.model.specs.State.{Sizes}
use Rattle.memory.specs.Layout.{sizes_of}
use Rattle.memory.proofs.Fine.{all-slots, slot-broken}
use Rattle.memory.proofs.check.slots_fine.Goals as goal
use Rattle.memory.proofs.check.slots_fine.Goals.{After-read_sizes-z}

-- the slots are the memory's own
count : (c : After-read_sizes-z) → c.read_sizes-z.result.slots ≡ (sizes_of c.args.mem.now).slot_count
count c = ap (λ (z : Sizes). z.slot_count) c.read_sizes-z.ensures

pub returns-then-not-is_fine : goal.returns-then-not-is_fine
returns-then-not-is_fine c =
    let n = count (goal.at.returns-then-not-is_fine c).After-read_sizes-z in
    let l = c.sized_part.ensures in
    slot-broken c.args.mem.now c.loop-i.i (omega (arith, n, c.loop-i-test.true))
    (rw (← l.bytes, ← l.room) (sym c.is_fine.ensures ∙ c.if-not-is_fine.true))

pub returns : goal.returns
returns c =
    let n = count (goal.at.returns c).After-read_sizes-z in
    sym (all-slots c.args.mem.now (λ j l. c.loop-i.invariant j (omega (arith, l, n, c.loop-i-test.false))))
