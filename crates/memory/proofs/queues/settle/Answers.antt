use Rattle.slot.specs.Image.{settled}
use Rattle.memory.specs.Promises.{Placed}
use Rattle.memory.proofs.Lent.{placed, numbered, lent_placed, lent-some, lent-rules}
use Rattle.memory.proofs.Returned.{lent-changes-any}
use Rattle.memory.proofs.queues.settle.Goals as goal
use Rattle.memory.proofs.queues.settle.Goals.{After-sized_extent-s}

lies : (c : After-sized_extent-s)
    → Placed c.args.mem.now c.args.i c.sized_extent-s.result.start c.sized_extent-s.result.end c.sized_extent-s.result.room
lies c = placed (numbered c.requires.0 c.requires.1) c.sized_extent-s.ensures

pub settle-requires : goal.settle-requires
settle-requires c =
    let l = lent_placed c.requires.0 (lies (goal.at.settle-requires c).After-sized_extent-s) in
    (lent-some l, lent-rules l)

pub returns : goal.returns
returns c =
    let h = c.requires.0 in
    let p = lies (goal.at.returns c).After-sized_extent-s in
    lent-changes-any h p settled c.settle.ensures
