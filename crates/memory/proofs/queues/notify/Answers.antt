use Rattle.memory.specs.Promises.{Placed}
use Rattle.memory.proofs.Lent.{placed, numbered, lent_placed, lent-some, lent-rules}
use Rattle.memory.proofs.Returned.{lent-notified}
use Rattle.memory.proofs.queues.notify.Goals as goal
use Rattle.memory.proofs.queues.notify.Goals.{After-sized_extent-s}

lies : (c : After-sized_extent-s)
    → Placed c.args.mem.now c.args.i c.sized_extent-s.result.start c.sized_extent-s.result.end c.sized_extent-s.result.room
lies c = placed (numbered c.requires.0.in-slot c.requires.1) c.sized_extent-s.ensures

pub notify-requires : goal.notify-requires
notify-requires c =
    let l = lent_placed c.requires.0.in-slot (lies (goal.at.notify-requires c).After-sized_extent-s) in
    (lent-some l, lent-rules l, c.requires.0.key-within, c.requires.0.short)

pub returns : goal.returns
returns c =
    let h = c.requires.0.in-slot in
    let p = lies (goal.at.returns c).After-sized_extent-s in
    lent-notified h p c.args.body.now c.args.key c.notify.ensures
