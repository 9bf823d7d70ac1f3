use mathlib.Core.Path.{◌∙◌}
use Rattle.memory.proofs.Lent.{lent_read, lent-shut}
use Rattle.memory.proofs.slots.is_shut.Goals as goal

pub returns : goal.returns
returns c =
    let l = lent_read c.requires c.slot_part.ensures in
    c.is_shut.ensures ∙ lent-shut l
