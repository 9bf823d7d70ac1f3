use Rattle.slot.proofs.Lent.{lent-sized, lent-record}
use Rattle.slot.proofs.recordings.end_recording.Goals as goal

pub clear-requires : goal.clear-requires
clear-requires c = lent-sized c.requires.rules

pub returns : goal.returns
returns c = lent-record c.requires c.clear.ensures
