-- `memory::setting::free_slots` meets its contract.
use Rattle.memory.specs.Layout.{sizes_from}
use Rattle.memory.proofs.Fresh.{freeing-next}
use Rattle.memory.proofs.setting.free_slots.Goals as goal

pub loop-i-preserved : goal.loop-i-preserved
loop-i-preserved c =
    freeing-next (sizes_from c.args.z) c.args.mem.now c.loop-i.mem c.loop-i.i _ c.requires c.loop-i-test.true
    c.sized_extent.ensures.start c.loop-i.invariant
