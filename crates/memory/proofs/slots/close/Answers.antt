use mathlib.Core.Path.{refl}
use Rattle.model.specs.State.{free}
use Rattle.memory.proofs.Returned.{lent-becomes}
use Rattle.memory.proofs.slots.close.Goals as goal

pub returns : goal.returns
returns c =
    let h = c.requires in
    let p = c.slot_extent-s.ensures in
    lent-becomes h p (λ x. free) (c.close.ensures c.slot_extent-s.result.room) refl
