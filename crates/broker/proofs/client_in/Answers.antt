-- `broker::client_in` meets its contract.
use mathlib.Core.Path.{refl, sym, ap, ◌∙◌}
use native.Mathlib.Omega.{arith}
use lib.ListN.{get_or-eq_default}
use borrow.Author.Tests.{not-true}
use Rattle.model.specs.State.{free, slot_at}
use Rattle.memory.specs.Image.{is_used, image_of}
use Rattle.memory.proofs.Lent.{length-slots}
use Rattle.broker.proofs.client_in.Goals as goal
use Rattle.broker.proofs.client_in.Goals.{then-slot_count-slot-via-then-slot_count-slot, then-slot_count-slot-via-else-slot_count-slot+then-is_free}

pub returns-then-slot_count-slot : goal.returns-then-slot_count-slot
unfolding slot_at is_used
returns-then-slot_count-slot c =
    let m = c.args.mem.now in
    elim c.then-slot_count-slot.branch [
      | then-slot_count-slot-via-then-slot_count-slot w ↦ (
        let h = w.if-slot_count-slot.true in
            ap is_used
            (get_or-eq_default (image_of m).slots free (omega (arith, h, length-slots m, c.slot_count.ensures))),
        refl,
      )
      | then-slot_count-slot-via-else-slot_count-slot+then-is_free w ↦
          (not-true _ (sym w.is_free.ensures ∙ w.if-is_free.true), refl)
    ]
