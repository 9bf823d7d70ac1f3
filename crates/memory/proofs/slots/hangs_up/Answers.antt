use mathlib.Core.Path.{◌∙◌}
use Rattle.memory.proofs.Lent.{lent_read, lent-form}
use Rattle.memory.proofs.slots.hangs_up.Goals as goal

pub returns : goal.returns
returns c =
    let l = lent_read c.requires.in-slot c.slot_part.ensures in
    c.hangs_up.ensures ∙ lent-form l c.requires.has-client
