use Rattle.slot.proofs.Lent.{lent-sized, lent-record}
use Rattle.slot.proofs.recordings.begin.Goals as goal

pub begin-requires : goal.begin-requires
begin-requires c = lent-sized c.requires.rules

pub returns : goal.returns
returns c = lent-record c.requires c.begin.ensures
