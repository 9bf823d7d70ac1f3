use Rattle.slot.proofs.Operations.{lent-recording}
use Rattle.slot.proofs.Lent.{recordable-part, lent-recorded}
use Rattle.slot.proofs.recordings.record.Goals as goal

pub add-requires : goal.add-requires
add-requires c = rw (lent-recording c.args.r c.args.s.now) (recordable-part c.requires)

pub returns : goal.returns
returns c = lent-recorded c.requires (rw (lent-recording c.args.r c.args.s.now) at c.add.ensures)
