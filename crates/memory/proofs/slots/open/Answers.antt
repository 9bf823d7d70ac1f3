use mathlib.Core.Path.{refl}
use Rattle.model.specs.State.{opening_with, used, new_client}
use Rattle.memory.proofs.Lent.{lent_placed, lent-sized}
use Rattle.memory.proofs.Returned.{lent-becomes}
use Rattle.memory.proofs.slots.open.Goals as goal

pub open-requires : goal.open-requires
open-requires c =
    let h = c.requires in
    let p = c.slot_extent-s.ensures in
    lent-sized (lent_placed h p)

pub returns : goal.returns
returns c =
    let h = c.requires in
    let p = c.slot_extent-s.ensures in
    lent-becomes h p (λ x. used (new_client (opening_with c.args.kind c.args.hangs))) c.«open».ensures refl
