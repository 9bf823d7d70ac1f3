use native.Mathlib.Omega.{arith}
use Rattle.memory.specs.Layout.{sizes_from}
use Rattle.memory.proofs.SizeLaws.{ranges}
use Rattle.memory.proofs.header.slot_size.Goals as goal

pub overflow_add-result : goal.overflow_add-result
overflow_add-result c = let r = ranges (sizes_from c.args.z) c.requires in omega arith

pub overflow_mul-result : goal.overflow_mul-result
overflow_mul-result c = let r = ranges (sizes_from c.args.z) c.requires in omega arith

pub overflow_add-result-2 : goal.overflow_add-result-2
overflow_add-result-2 c = let r = ranges (sizes_from c.args.z) c.requires in omega arith
