use Rattle.slot.specs.Image.{refused}
use Rattle.memory.proofs.Lent.{open-used, lent-open, lent_placed}
use Rattle.memory.proofs.Returned.{lent-changes}
use Rattle.memory.proofs.queues.refuse.Goals as goal

pub refuse-requires : goal.refuse-requires
refuse-requires c =
    let h = c.requires.in-slot in
    let p = c.slot_extent-s.ensures in
    lent-open (lent_placed h p) c.requires.has-open

pub returns : goal.returns
returns c =
    let h = c.requires.in-slot in
    let p = c.slot_extent-s.ensures in
    lent-changes h p (refused c.args.refusal) (open-used _ c.requires.has-open) c.refuse.ensures
