-- `memory::header::sized_extent` meets its contract.
use mathlib.Core.Path.{◌≡◌, ap}
use Prim.Native.Nat.{ℕ, ◌+◌, ◌*◌, ◌≤◌}
use native.Mathlib.Omega.{arith}
use Rattle.memory.specs.Layout.{sizes_from, stride}
use Rattle.memory.proofs.SizeLaws.{ranges, slots_small}
use Rattle.memory.proofs.header.sized_extent.Goals as goal
use Rattle.memory.proofs.header.sized_extent.Goals.{After-slots_start}

before : (c : After-slots_start) → c.args.i * c.slot_size-step.result ≡ c.args.i * stride (sizes_from c.args.z)
before c = ap (λ (n : ℕ). c.args.i * n) c.slot_size-step.ensures

ends : (c : After-slots_start)
    → c.slots_start.result + c.args.i * c.slot_size-step.result + c.slot_size-step.result ≤ 80000000
ends c =
    let z = sizes_from c.args.z in
    let r = ranges z c.requires.0 in
    let s = slots_small z c.args.i c.requires.0 (omega (arith, c.requires.1)) in
    omega (arith, c.slot_size-step.ensures, c.slots_start.ensures, before c)

pub overflow_mul-start : goal.overflow_mul-start
overflow_mul-start c = omega (arith, ends c)

pub overflow_add-start : goal.overflow_add-start
overflow_add-start c = omega (arith, ends c)

pub overflow_add-result : goal.overflow_add-result
overflow_add-result c = omega (arith, ends c)
