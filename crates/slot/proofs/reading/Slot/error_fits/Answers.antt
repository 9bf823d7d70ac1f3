use mathlib.Core.Path.{◌∙◌}
use Rattle.slot.specs.Region.{kind_byte, kind_in, queue_part, client_of}
use Rattle.slot.specs.Promises.{room_of}
use Rattle.slot.proofs.Operations.{room-queue_part, error_fits-queued}
use Rattle.slot.proofs.Resting.{open-rest}
use Rattle.queue.specs.Region.{queue_of}
use Rattle.slot.proofs.reading.Slot.error_fits.Goals as goal

pub error_fits-requires : goal.error_fits-requires
error_fits-requires c = rw c.queue.ensures (open-rest c.requires)

pub returns : goal.returns
unfolding client_of
returns c =
    let r = c.args.self.record_room in
    let s = c.args.self.bytes.now in
    let e = rw (c.queue.ensures, room-queue_part r s, c.kind.ensures) at c.error_fits.ensures in
    e ∙ error_fits-queued (room_of r s) (kind_in (kind_byte s)) c.args.refusal (queue_of (queue_part r s))
