use mathlib.Core.Path.{ap}
use mathlib.Core.Bool.{not}
use Rattle.slot.specs.Region.{client_of}
use Rattle.slot.proofs.Resting.{resting-queue-any}
use Rattle.slot.proofs.reading.Slot.has_message.Goals as goal

pub is_empty-requires : goal.is_empty-requires
is_empty-requires c = rw c.queue.ensures (resting-queue-any c.requires)

pub returns : goal.returns
unfolding client_of
returns c = ap not (rw c.queue.ensures at c.is_empty.ensures)
