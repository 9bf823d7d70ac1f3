use mathlib.Core.Path.{◌≡◌}
use mathlib.Core.Bool.{true}
use Rattle.slot.specs.Region.{regions_fine}
use Rattle.slot.proofs.Tests.{regions-regioned}
use Rattle.slot.proofs.reading.Slot.client_fine.Goals as goal
use Rattle.slot.proofs.reading.Slot.client_fine.Goals.{then-self-le7, else-self-le7}

pub is_bare-requires : goal.is_bare-requires
is_bare-requires c =
    elim c.if-self-le7.branch [
      | then-self-le7 w ↦
          let e : regions_fine c.args.self.record_room c.args.self.bytes.now ≡ true = cc w.regions_fine.ensures in
          regions-regioned c.args.self.sized e
      | else-self-le7 w ↦ cc
    ]
