use mathlib.Core.List.{[]}
use Rattle.model.specs.State.{begun, with_transaction}
use Rattle.memory.proofs.Lent.{open-used, lent-open, lent_placed}
use Rattle.memory.proofs.Returned.{lent-changes}
use Rattle.memory.proofs.recordings.begin.Goals as goal

pub begin-requires : goal.begin-requires
begin-requires c =
    let h = c.requires.in-slot in
    let p = c.slot_extent-s.ensures in
    lent-open (lent_placed h p) c.requires.has-open

pub returns : goal.returns
returns c =
    let h = c.requires.in-slot in
    let p = c.slot_extent-s.ensures in
    lent-changes h p (with_transaction (begun [])) (open-used _ c.requires.has-open) c.begin.ensures
