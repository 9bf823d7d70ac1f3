use Rattle.message.specs.Writing.{said}
use Rattle.memory.proofs.Lent.{open-used, lent-open, lent_placed}
use Rattle.memory.proofs.Returned.{lent_owed}
use Rattle.memory.proofs.queues.owe.Goals as goal

pub owe-requires : goal.owe-requires
owe-requires c =
    let h = c.requires.in-open.in-slot in
    let p = c.slot_extent-s.ensures in
    (lent-open (lent_placed h p) c.requires.in-open.has-open, c.requires.short)

pub returns : goal.returns
returns c =
    let h = c.requires.in-open.in-slot in
    let p = c.slot_extent-s.ensures in
    lent_owed h p (said c.args.message c.args.body.now) (open-used _ c.requires.in-open.has-open) c.owe.ensures
