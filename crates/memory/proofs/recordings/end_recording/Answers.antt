use Rattle.model.specs.State.{off, with_transaction}
use Rattle.memory.proofs.Lent.{open-used, lent-open, lent_placed}
use Rattle.memory.proofs.Returned.{lent-changes}
use Rattle.memory.proofs.recordings.end_recording.Goals as goal

pub end_recording-requires : goal.end_recording-requires
end_recording-requires c =
    let h = c.requires.in-slot in
    let p = c.slot_extent-s.ensures in
    lent-open (lent_placed h p) c.requires.has-open

pub returns : goal.returns
returns c =
    let h = c.requires.in-slot in
    let p = c.slot_extent-s.ensures in
    lent-changes h p (with_transaction off) (open-used _ c.requires.has-open) c.end_recording.ensures
