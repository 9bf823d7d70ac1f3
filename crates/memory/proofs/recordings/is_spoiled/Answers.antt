use mathlib.Core.Path.{ap, ◌∙◌}
use Rattle.model.specs.State.{is_spoiled}
use Rattle.slot.specs.Image.{ClientImage}
use Rattle.memory.proofs.Lent.{lent_read, lent-used, lent-client}
use Rattle.memory.proofs.recordings.is_spoiled.Goals as goal

pub is_spoiled-requires : goal.is_spoiled-requires
is_spoiled-requires c = let l = lent_read c.requires.in-slot c.slot_part.ensures in lent-used l c.requires.has-client

pub returns : goal.returns
returns c =
    let l = lent_read c.requires.in-slot c.slot_part.ensures in
    c.is_spoiled.ensures ∙ ap (λ (x : ClientImage). is_spoiled x.transaction) (lent-client l c.requires.has-client)
