use Rattle.slot.specs.Region.{client_of}
use Rattle.slot.proofs.reading.Slot.in_transaction.Goals as goal

pub returns : goal.returns
unfolding client_of
returns c = rw c.«recording».ensures at c.is_on.ensures
