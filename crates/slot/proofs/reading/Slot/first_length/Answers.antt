use Rattle.slot.specs.Region.{client_of}
use Rattle.slot.proofs.Resting.{resting-queue-any}
use Rattle.slot.proofs.reading.Slot.first_length.Goals as goal

pub first_length-requires : goal.first_length-requires
first_length-requires c = rw c.queue.ensures (resting-queue-any c.requires)

pub returns : goal.returns
unfolding client_of
returns c = rw c.queue.ensures at c.first_length.ensures
