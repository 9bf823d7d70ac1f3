-- Changes of the client of one slot, one after the other, and what they leave as it was.
use mathlib.Core.Path.{◌≡◌, refl, sym, ap, ◌∙◌}
use mathlib.Core.List.{List}
use mathlib.Core.Bool.{not}
use Prim.Native.Nat.{ℕ, ◌<◌}
use lib.ListN.{length, get_or, set}
use lib.Seq.{get_or-set_same, set-get_or, set-set}
use Rattle.octets.specs.Octets.{Bytes}
use Rattle.model.specs.State.{free, used, slot_at}
use Rattle.model.specs.Events.{on_client}
use Rattle.slot.specs.Image.{ClientImage, SlotImage}
use Rattle.memory.specs.Image.{Image, image_of, is_used, client_in, is_open, with_slots, on_slot}
use Rattle.memory.specs.Rules.{Sound}
use Rattle.memory.specs.Promises.{InSlot, InOpen, Changes}
use Rattle.memory.proofs.Lent.{length-slots}
use Rattle.refinement.proofs.Slots.{on_client-same, on_client-on_client}
use Rattle.refinement.proofs.Ends.{becomes-same, becomes-as, becomes-sizes, becomes-then}
use Rattle.refinement.proofs.Actions.{on_client-equal, on_slot-equal}

-- ---- images

module _ (i : ℕ) (im : Image) where
  on_slot-same : on_slot i (on_client (λ c. c)) im ≡ im
  unfolding on_slot with_slots slot_at
  on_slot-same =
      ap (λ (l : List SlotImage). with_slots l im)
      (ap (set im.slots i) (on_client-same (get_or im.slots i free)) ∙ set-get_or im.slots i free)

  module _ (f : SlotImage → SlotImage) (l : i < length im.slots) where
    slot_at-on_slot : slot_at i (on_slot i f im) ≡ f (slot_at i im)
    unfolding on_slot with_slots slot_at
    slot_at-on_slot = get_or-set_same im.slots i (f (get_or im.slots i free)) free l

    on_slot-on_slot : (g : SlotImage → SlotImage) → on_slot i g (on_slot i f im) ≡ on_slot i (λ x. g (f x)) im
    unfolding on_slot with_slots
    on_slot-on_slot g =
        ap (λ (x : SlotImage). with_slots (set (set im.slots i (f (slot_at i im))) i (g x)) im) slot_at-on_slot
        ∙ ap (λ (xs : List SlotImage). with_slots xs im)
        (set-set im.slots i (f (slot_at i im)) (g (f (slot_at i im))))

is_open-on_client : (f : ClientImage → ClientImage) → ((c : ClientImage) → (f c).shut ≡ c.shut) → (x : SlotImage)
    → is_open (on_client f x) ≡ is_open x
unfolding is_open is_used client_in on_client
is_open-on_client f e free = refl
is_open-on_client f e (used c) = ap not (e c)

-- ---- memories

-- nothing is changed
pub changes-same : (i : ℕ) {m : Bytes} → Sound m → Changes i (λ c. c) m m
changes-same i {m} h = becomes-as (sym (on_slot-same i (image_of m))) (becomes-same h)

pub changes-equal : (i : ℕ) (f g : ClientImage → ClientImage) → ((c : ClientImage) → f c ≡ g c) → {a b : Bytes}
    → Changes i f a b → Changes i g a b
changes-equal i f g e {a} h =
    becomes-as (on_slot-equal i (on_client f) (on_client g) (image_of a) (on_client-equal e (slot_at i (image_of a)))) h

module _ (i : ℕ) (f : ClientImage → ClientImage) {a b : Bytes} (h : Changes i f a b) where
  pub changes-sizes : (image_of b).sizes ≡ (image_of a).sizes
  unfolding on_slot with_slots
  changes-sizes = ap (λ (im : Image). im.sizes) h.means

  pub changes-store : (image_of b).store ≡ (image_of a).store
  unfolding on_slot with_slots
  changes-store = ap (λ (im : Image). im.store) h.means

  inside-slots : InSlot a i → i < length (image_of a).slots
  inside-slots s = rw (length-slots a) s.inside

  -- one change after the other
  pub changes-then : InSlot a i → (g : ClientImage → ClientImage) {c : Bytes} → Changes i g b c
      → Changes i (λ x. g (f x)) a c
  unfolding on_slot with_slots
  changes-then s g k =
      let e : on_slot i (on_client g) (image_of b) ≡ on_slot i (on_client (λ x. g (f x))) (image_of a) =
      ap (on_slot i (on_client g)) h.means
      ∙ on_slot-on_slot i (image_of a) (on_client f) (inside-slots s) (on_client g)
      ∙ on_slot-equal i (λ x. on_client g (on_client f x)) (on_client (λ x. g (f x))) (image_of a)
      (on_client-on_client g f (slot_at i (image_of a))) in
      becomes-as e (becomes-then h refl k)

  -- an open client that is not shut stays open
  pub changes-open : InOpen a i → ((c : ClientImage) → (f c).shut ≡ c.shut) → InOpen b i
  unfolding on_slot with_slots
  changes-open o e =
      record {
        in-slot = record { sound = h.sound; inside = rw (becomes-sizes h refl) o.in-slot.inside };
        has-open =
            ap (λ (im : Image). is_open (slot_at i im)) h.means
            ∙ ap is_open (slot_at-on_slot i (image_of a) (on_client f) (inside-slots o.in-slot))
            ∙ is_open-on_client f e (slot_at i (image_of a))
            ∙ o.has-open;
      }
