use Rattle.slot.proofs.Lent.{fits-part}
use Rattle.slot.proofs.reading.Slot.record_fits.Goals as goal

pub returns : goal.returns
returns c = fits-part c.requires (rw c.«recording».ensures at c.fits.ensures)
