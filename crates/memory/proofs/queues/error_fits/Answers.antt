use mathlib.Core.Path.{◌∙◌}
use Rattle.memory.proofs.Lent.{lent_read, lent-open-resting, lent-queue, lent-open-client}
use Rattle.memory.proofs.queues.error_fits.Goals as goal

pub error_fits-requires : goal.error_fits-requires
error_fits-requires c = let l = lent_read c.requires.in-open.in-slot c.slot_part.ensures in lent-open-resting l c.requires

pub returns : goal.returns
returns c =
    let l = lent_read c.requires.in-open.in-slot c.slot_part.ensures in
    c.error_fits.ensures ∙ rw (lent-queue l, lent-open-client l c.requires.in-open.has-open)
