use mathlib.Core.Path.{ap}
use Prim.Native.Nat.{ℕ, ◌*◌}
use native.Mathlib.Omega.{arith}
use Rattle.memory.specs.Layout.{sizes_from}
use Rattle.memory.proofs.SizeLaws.{ranges, slots_small}
use Rattle.memory.proofs.header.size.Goals as goal

pub overflow_mul-result : goal.overflow_mul-result
overflow_mul-result c =
    let s = slots_small (sizes_from c.args.z) c.args.z.slots c.requires (omega arith) in
    omega (arith, ap (λ (n : ℕ). c.args.z.slots * n) c.slot_size.ensures)

pub overflow_add-result : goal.overflow_add-result
overflow_add-result c =
    let r = ranges (sizes_from c.args.z) c.requires in
    let s = slots_small (sizes_from c.args.z) c.args.z.slots c.requires (omega arith) in
    omega (arith, c.slots_start.ensures, ap (λ (n : ℕ). c.args.z.slots * n) c.slot_size.ensures)
