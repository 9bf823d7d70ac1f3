use mathlib.Core.Path.{ap, ◌∙◌}
use mathlib.Core.Bool.{not}
use Rattle.queue.specs.Rows.{is_empty}
use Rattle.slot.specs.Image.{ClientImage}
use Rattle.memory.proofs.Lent.{lent_read, lent-resting, lent-client}
use Rattle.memory.proofs.queues.has_message.Goals as goal

pub has_message-requires : goal.has_message-requires
has_message-requires c = let l = lent_read c.requires.in-used.in-slot c.slot_part.ensures in lent-resting l c.requires

pub returns : goal.returns
returns c =
    let l = lent_read c.requires.in-used.in-slot c.slot_part.ensures in
    c.has_message.ensures ∙ ap (λ (x : ClientImage). not (is_empty x.queue.queued))
    (lent-client l c.requires.in-used.has-client)
