use Rattle.memory.proofs.Lent.{lent_read, lent-used, lent_fits}
use Rattle.memory.proofs.recordings.record_fits.Goals as goal

pub record_fits-requires : goal.record_fits-requires
record_fits-requires c = let l = lent_read c.requires.in-slot c.slot_part.ensures in lent-used l c.requires.has-client

pub returns : goal.returns
returns c =
    let l = lent_read c.requires.in-slot c.slot_part.ensures in
    lent_fits l c.requires.has-client c.record_fits.ensures
