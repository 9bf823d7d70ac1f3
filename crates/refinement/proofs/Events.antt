-- What each event makes of the image, as changes of one slot.
use mathlib.Core.Path.{◌≡◌, refl, sym, ap, ◌∙◌}
use mathlib.Core.List.{List, [], ◌∷◌}
use mathlib.Core.Bool.{Bool, true, false, cond}
use Prim.Native.Nat.{ℕ, suc, ◌+◌, ◌≤◌}
use native.Mathlib.Omega.{arith}
use lib.Dec.{eqb, ltb, leb}
use lib.ListN.{length}
use borrow.Author.Tests.{lt-ltb, le-ltb, ltb-true, ltb-false, leb-true, leb-false, eqb-true, eqb-false}
use Rattle.protocol.specs.Terms.{Protocol}
use Rattle.protocol.specs.declared.Kind.{Kind}
use Rattle.protocol.specs.declared.Refusal.{Refusal}
use Rattle.model.specs.Events.{idle, opened, closed, took, consumed, refused, slipped, store_after_event, on_client}
use Rattle.model.specs.Events.{each_slot}
use Rattle.model.specs.Queue.{shut_by, with_error}
use Rattle.message.specs.Forms.{written}
use Rattle.slot.specs.Image as I
use Rattle.model.specs.State.{Opening, Transaction, off, free, used, new_client, with_kind, with_transaction, with_queue}
use Rattle.model.specs.Queue.{after_take}
use Rattle.slot.specs.Image.{SlotImage}
use Rattle.memory.specs.Image.{Image, with_store, with_slots, on_slot, on_slots}
use Rattle.model.specs.Events.{slot_after_event, after_event}
use Rattle.model.proofs.Slots.{each_same}
use Rattle.refinement.proofs.Slots.{only, each-each, each-equal, on_slot-only}
use Rattle.refinement.proofs.Steps.{WritesByMessage}

module _ (protocol : Protocol) (im : Image) where
  pub after_event-idle : after_event protocol idle im ≡ im
  unfolding after_event store_after_event slot_after_event with_store on_slots with_slots
  after_event-idle = ap (λ (l : List SlotImage). with_slots l im) (each_same (λ j x. x) (λ j x. refl) 0 im.slots)

  pub after_event-opened : (i : ℕ) (k : Opening)
      → after_event protocol (opened i k) im ≡ on_slot i (λ x. used (new_client k)) im
  unfolding after_event store_after_event slot_after_event with_store on_slots with_slots
  after_event-opened i k = sym (on_slot-only i (λ x. used (new_client k)) im)

  pub after_event-closed : (i : ℕ) → after_event protocol (closed i) im ≡ on_slot i (λ x. free) im
  unfolding after_event store_after_event slot_after_event with_store on_slots with_slots
  after_event-closed i = sym (on_slot-only i (λ x. free) im)

  pub after_event-took : (i : ℕ) → after_event protocol (took i) im ≡ on_slot i (on_client after_take) im
  unfolding after_event store_after_event slot_after_event with_store on_slots with_slots
  after_event-took i = sym (on_slot-only i (on_client after_take) im)

  pub after_event-consumed : (i : ℕ) (k : Kind) (r : Transaction)
      → after_event protocol (consumed i k r) im ≡ on_slot i (on_client (λ c. with_transaction r (with_kind k c))) im
  unfolding after_event store_after_event slot_after_event with_store on_slots with_slots
  after_event-consumed i k r = sym (on_slot-only i (on_client (λ c. with_transaction r (with_kind k c))) im)

  pub after_event-refused : WritesByMessage protocol → (i : ℕ) (k : Kind) (r : Refusal)
      → after_event protocol (refused i k r) im
      ≡ on_slot i (on_client (λ c. I.refused r (with_transaction off (with_kind k c)))) im
  unfolding after_event store_after_event slot_after_event with_store on_slots with_slots shut_by
  after_event-refused w i k r =
      rw w (sym (on_slot-only i (on_client (λ c. I.refused r (with_transaction off (with_kind k c)))) im))

  pub after_event-slipped : WritesByMessage protocol → (i : ℕ) (k : Kind) (r : Refusal) (t : Transaction)
      → after_event protocol (slipped i k r t) im
      ≡ on_slot i (on_client (λ c. with_error written r (with_transaction t (with_kind k c)))) im
  unfolding after_event store_after_event slot_after_event with_store on_slots with_slots with_error with_queue
  after_event-slipped w i k r t =
      rw w (sym (on_slot-only i (on_client (λ c. with_error written r (with_transaction t (with_kind k c)))) im))

-- ---- all slots, one after the other

-- the slots before i changed by f, the others as they are
abbrev pub up_to : ℕ → (SlotImage → SlotImage) → ℕ → SlotImage → SlotImage
up_to i f j x = cond (ltb j i) (f x) x

apart : (i j : ℕ) → i ≤ j → (j ≡ i → ⊥) → suc i ≤ j
apart i j h n = by (leb (suc i) j) refl
  where
    by : (b : Bool) → leb (suc i) j ≡ b → suc i ≤ j
    by true e = leb-true (suc i) j e
    by false e =
        let q = leb-false (suc i) j e in
        absurd (n (omega arith))

-- a slot other than i is before i just when it is before the next
up_to-other : (i j : ℕ) (f : SlotImage → SlotImage) (x : SlotImage) (b : Bool) → (j ≡ i → ⊥) → ltb j i ≡ b
    → cond b (f x) x ≡ up_to (suc i) f j x
up_to-other i j f x true n t =
    let q = ltb-true j i t in
    rw (lt-ltb j (suc i) (omega arith))
up_to-other i j f x false n t =
    let q = ltb-false j i t in
    let l : suc i ≤ j = apart i j q n in
    rw (le-ltb j (suc i) l)

up_to-next : (i : ℕ) (f : SlotImage → SlotImage) (j : ℕ) (x : SlotImage) → only i f j (up_to i f j x) ≡ up_to (suc i) f j x
up_to-next i f j x = by (eqb j i) refl
  where
    by : (b : Bool) → eqb j i ≡ b → cond b (f (up_to i f j x)) (up_to i f j x) ≡ up_to (suc i) f j x
    by true e =
        let q = eqb-true j i e in
        rw (le-ltb j i (omega arith), lt-ltb j (suc i) (omega arith))
    by false e = up_to-other i j f x (ltb j i) (eqb-false j i e) refl

pub on_slots-start : (f : SlotImage → SlotImage) (im : Image) → on_slots (up_to 0 f) im ≡ im
unfolding on_slots with_slots
on_slots-start f im =
    ap (λ (l : List SlotImage). with_slots l im)
    (each_same (up_to 0 f) (λ j x. rw (le-ltb j 0 (omega arith))) 0 im.slots)

-- the next slot
pub on_slots-next : (i : ℕ) (f : SlotImage → SlotImage) (im : Image)
    → on_slot i f (on_slots (up_to i f) im) ≡ on_slots (up_to (suc i) f) im
unfolding on_slots with_slots
on_slots-next i f im =
    on_slot-only i f (on_slots (up_to i f) im)
    ∙ ap (λ (l : List SlotImage). with_slots l im)
    (each-each (only i f) (up_to i f) 0 im.slots
    ∙ each-equal (λ j x. only i f j (up_to i f j x)) (up_to (suc i) f) (up_to-next i f) 0 im.slots)

-- all of them
each_all : (f : SlotImage → SlotImage) (m n : ℕ) (xs : List SlotImage) → n + length xs ≤ m
    → each_slot (up_to m f) n xs ≡ each_slot (λ j. f) n xs
unfolding each_slot
each_all f m n [] h = refl
each_all f m n (x ∷ xs) h =
    rw (lt-ltb n m (omega arith)) (ap (◌∷◌ (f x)) (each_all f m (suc n) xs (omega arith)))

pub on_slots-all : (n : ℕ) (f : SlotImage → SlotImage) (im : Image) → length im.slots ≤ n
    → on_slots (up_to n f) im ≡ on_slots (λ j. f) im
unfolding on_slots
on_slots-all n f im h = ap (λ (l : List SlotImage). with_slots l im) (each_all f n 0 im.slots (omega arith))
