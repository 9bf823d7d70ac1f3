use Rattle.protocol.specs.Ids.{id_of}
use Rattle.recording.specs.Encoding.{action_of}
use Rattle.slot.specs.Image.{recorded}
use Rattle.memory.proofs.Lent.{open-used}
use Rattle.memory.proofs.Returned.{lent-recordable, lent-changes}
use Rattle.memory.proofs.recordings.record.Goals as goal

pub record-requires : goal.record-requires
record-requires c =
    let h = c.requires.in-open.in-slot in
    let p = c.slot_extent-s.ensures in
    lent-recordable h p c.requires

pub returns : goal.returns
returns c =
    let h = c.requires.in-open.in-slot in
    let p = c.slot_extent-s.ensures in
    lent-changes h p (recorded (action_of (id_of c.args.id) c.args.payload.now))
    (open-used _ c.requires.in-open.has-open) c.«record».ensures
