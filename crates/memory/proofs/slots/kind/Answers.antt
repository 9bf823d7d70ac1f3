use mathlib.Core.Path.{◌∙◌}
use Rattle.memory.proofs.Lent.{lent_read, lent-kind}
use Rattle.memory.proofs.slots.kind.Goals as goal

pub returns : goal.returns
returns c =
    let l = lent_read c.requires.in-slot c.slot_part.ensures in
    c.kind.ensures ∙ lent-kind l c.requires.has-client
