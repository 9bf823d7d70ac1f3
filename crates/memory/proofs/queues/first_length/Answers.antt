use mathlib.Core.Path.{ap, ◌∙◌}
use Rattle.queue.specs.Rows.{first_length}
use Rattle.slot.specs.Image.{ClientImage}
use Rattle.memory.proofs.Lent.{lent_read, lent-resting, lent-client}
use Rattle.memory.proofs.queues.first_length.Goals as goal

pub first_length-requires : goal.first_length-requires
first_length-requires c = let l = lent_read c.requires.in-used.in-slot c.slot_part.ensures in lent-resting l c.requires

pub returns : goal.returns
returns c =
    let l = lent_read c.requires.in-used.in-slot c.slot_part.ensures in
    c.first_length.ensures ∙ ap (λ (x : ClientImage). first_length x.queue.queued)
    (lent-client l c.requires.in-used.has-client)
