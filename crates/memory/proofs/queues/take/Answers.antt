use Rattle.memory.proofs.Lent.{lent-resting, lent-client, lent_placed}
use Rattle.memory.proofs.Returned.{lent-taking}
use Rattle.memory.proofs.queues.take.Goals as goal

pub take-requires : goal.take-requires
take-requires c =
    let h = c.requires.in-resting.in-used.in-slot in
    let p = c.slot_extent-s.ensures in
    let l = lent_placed h p in
    (lent-resting l c.requires.in-resting, rw (lent-client l c.requires.in-resting.in-used.has-client) c.requires.room)

pub returns : goal.returns
returns c =
    let h = c.requires.in-resting.in-used.in-slot in
    let p = c.slot_extent-s.ensures in
    lent-taking h p c.requires.in-resting.in-used.has-client c.take.ensures
