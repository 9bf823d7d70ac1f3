use native.Mathlib.Omega.{arith}
use Rattle.memory.specs.Layout.{sizes_from}
use Rattle.memory.proofs.SizeLaws.{ranges}
use Rattle.memory.proofs.header.slots_start.Goals as goal

pub overflow_add-result : goal.overflow_add-result
overflow_add-result c = let r = ranges (sizes_from c.args.z) c.requires in omega arith
