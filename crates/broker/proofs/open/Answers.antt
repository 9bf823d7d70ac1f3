-- `broker::open` meets its contract.
use mathlib.Core.Path.{◌≡◌, refl, sym, ◌∙◌}
use mathlib.Core.Bool.{true}
use Prim.Native.Nat.{ℕ, ◌<◌}
use native.Mathlib.Omega.{arith}
use borrow.Author.Tests.{not-true, not-false}
use lib.Dec.{eqb}
use Rattle.octets.specs.Octets.{Bytes}
use Rattle.model.specs.State.{opening_with, slot_at}
use Rattle.model.proofs.Decisions.{open-no-slot, open-no-form, open-used, open_free}
use Rattle.memory.specs.Image.{is_used, client_in, image_of}
use Rattle.memory.specs.Rules.{memory_fine}
use Rattle.memory.specs.Promises.{InSlot}
use Rattle.memory.proofs.Lent.{used-is}
use Rattle.memory.proofs.Fine.{fine-sound}
use Rattle.infod3.specs.Infod3.{infod3}
use Rattle.refinement.proofs.Events.{after_event-opened}
use Rattle.refinement.proofs.Ends.{becomes-as}
use Rattle.broker.proofs.Deciding.{not-used}
use Rattle.broker.proofs.Serving.{failed, serves-as, serves-broken, serves-unaltered, serves-done, never-answered}
use Rattle.broker.proofs.Serving.{slot-count-image}
use Rattle.broker.proofs.open.Goals as goal
use Rattle.broker.proofs.open.Goals.{Else-slot_count-slot}

inside : (c : Else-slot_count-slot) → c.args.slot < (image_of c.args.mem.now).sizes.slot_count
inside c =
    omega (
      arith,
      slot-count-image c.args.mem.now,
      c.slot_count.ensures,
      c.if-slot_count-slot.false,
    )

in-slot : {m : Bytes} {i : ℕ} → memory_fine m ≡ true → i < (image_of m).sizes.slot_count → InSlot m i
in-slot {m} f h = record { sound = fine-sound m f; inside = omega (arith, slot-count-image m, h) }

pub returns-in_err-check : goal.returns-in_err-check
returns-in_err-check c =
    let f = c.in_err-check.ensures in
    serves-as (failed c.from_residual.ensures.1 f.1) (serves-broken f.0 refl refl refl)

pub slot_count-requires : goal.slot_count-requires
slot_count-requires c = (fine-sound c.args.mem.now c.in_ok-check.ensures).headed.header

pub returns-then-slot_count-slot : goal.returns-then-slot_count-slot
returns-then-slot_count-slot c =
    let m = c.args.mem.now in
    let h = c.if-slot_count-slot.true in
    serves-unaltered 2 c.in_ok-check.ensures
    (open-no-slot infod3 (image_of m) c.args.slot c.args.form
    (omega (arith, slot-count-image m, c.slot_count.ensures)))
    refl refl refl

pub returns-in_err-kind : goal.returns-in_err-kind
returns-in_err-kind c =
    let f = c.in_err-kind.ensures in
    serves-as (failed c.from_residual-in_err-kind.ensures.1 f.1)
    (serves-unaltered 8 c.in_ok-check.ensures
    (open-no-form infod3 (image_of c.args.mem.now) c.args.slot c.args.form
    (inside (goal.at.returns-in_err-kind c).Else-slot_count-slot) f.0)
    refl refl refl)

pub is_free-requires : goal.is_free-requires
is_free-requires c =
    in-slot c.in_ok-check.ensures (inside (goal.at.is_free-requires c).Else-slot_count-slot)

pub returns-then-not-is_free : goal.returns-then-not-is_free
returns-then-not-is_free c =
    let m = c.args.mem.now in
    let x = slot_at c.args.slot (image_of m) in
    serves-unaltered 4 c.in_ok-check.ensures
    (open-used infod3 (image_of m) c.args.slot c.args.form _ (client_in x)
    (inside (goal.at.returns-then-not-is_free c).Else-slot_count-slot) c.in_ok-kind.ensures
    (used-is x (not-false (is_used x) (sym c.is_free.ensures ∙ c.if-not-is_free.true))))
    refl refl refl

pub open-requires : goal.open-requires
open-requires c =
    in-slot c.in_ok-check.ensures (inside (goal.at.open-requires c).Else-slot_count-slot)

pub returns : goal.returns
returns c =
    let m = c.args.mem.now in
    let i = c.args.slot in
    let x = slot_at i (image_of m) in
    let o = opening_with c.in_ok-kind.kind (eqb c.args.form 2) in
    serves-done _ c.in_ok-check.ensures
    (open_free infod3 (image_of m) i c.args.form o (inside (goal.at.returns c).Else-slot_count-slot)
    c.in_ok-kind.ensures
    (not-used x (not-true (is_used x) (sym c.is_free.ensures ∙ c.if-not-is_free.false))))
    refl refl (λ l h. absurd (never-answered l refl))
    (becomes-as (sym (after_event-opened infod3 (image_of m) i o)) c.«open».ensures)
