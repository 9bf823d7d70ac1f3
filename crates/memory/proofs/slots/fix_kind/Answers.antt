use Rattle.model.specs.State.{with_kind}
use Rattle.memory.proofs.Lent.{lent-used, lent_placed}
use Rattle.memory.proofs.Returned.{lent-changes}
use Rattle.memory.proofs.slots.fix_kind.Goals as goal

pub returns : goal.returns
returns c =
    let h = c.requires.in-slot in
    let p = c.slot_extent-s.ensures in
    lent-changes h p (with_kind c.args.kind) c.requires.has-client
    (c.fix_kind.ensures c.slot_extent-s.result.room (lent-used (lent_placed h p) c.requires.has-client))
