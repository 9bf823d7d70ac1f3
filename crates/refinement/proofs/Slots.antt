-- The slots of an image, one by one: a change of one slot, and changes of all of them one after the other.
use mathlib.Core.Path.{◌≡◌, refl, sym, ap, ap₂}
use mathlib.Core.List.{List, [], ◌∷◌}
use mathlib.Core.Bool.{cond}
use Prim.Native.Nat.{ℕ, suc}
use native.Mathlib.Nat.{zero-add}
use lib.Dec.{eqb}
use Rattle.model.specs.State.{free, used, slot_at}
use Rattle.model.specs.Events.{on_client, each_slot}
use Rattle.model.proofs.NextStates.{each-one}
use Rattle.slot.specs.Image.{ClientImage, SlotImage}
use Rattle.memory.specs.Image.{Image, with_slots, on_slot, on_slots}

-- a property of every slot
pub data Each (P : SlotImage → Type 0) : List SlotImage → Type 0 where
  none_left : Each P []
  next : {x : SlotImage} {xs : List SlotImage} → P x → Each P xs → Each P (x ∷ xs)

-- the slot i changed by f, the others as they are
abbrev pub only : ℕ → (SlotImage → SlotImage) → ℕ → SlotImage → SlotImage
only i f j x = cond (eqb j i) (f x) x

pub each-each : (f g : ℕ → SlotImage → SlotImage) (n : ℕ) (xs : List SlotImage)
    → each_slot f n (each_slot g n xs) ≡ each_slot (λ j x. f j (g j x)) n xs
unfolding each_slot
each-each f g n [] = refl
each-each f g n (x ∷ xs) = ap (◌∷◌ (f n (g n x))) (each-each f g (suc n) xs)

-- two changes that agree on every slot with the property
pub each-ext : {P : SlotImage → Type 0} (f g : ℕ → SlotImage → SlotImage)
    → ((j : ℕ) (x : SlotImage) → P x → f j x ≡ g j x)
    → (n : ℕ) {xs : List SlotImage} → Each P xs → each_slot f n xs ≡ each_slot g n xs
unfolding each_slot
each-ext f g h n none_left = refl
each-ext f g h n (next {x} {xs} p r) = ap₂ ◌∷◌ (h n x p) (each-ext f g h (suc n) r)

-- a change of one slot is a change of all of them that leaves the others
pub on_slot-only : (i : ℕ) (f : SlotImage → SlotImage) (im : Image) → on_slot i f im ≡ on_slots (only i f) im
unfolding on_slot on_slots slot_at
on_slot-only i f im =
    ap (λ (xs : List SlotImage). with_slots xs im) (sym (rw (zero-add i) at (each-one f 0 i im.slots)))

-- two changes that agree on every slot
pub each-equal : (f g : ℕ → SlotImage → SlotImage) → ((j : ℕ) (x : SlotImage) → f j x ≡ g j x)
    → (n : ℕ) (xs : List SlotImage) → each_slot f n xs ≡ each_slot g n xs
unfolding each_slot
each-equal f g h n [] = refl
each-equal f g h n (x ∷ xs) = ap₂ ◌∷◌ (h n x) (each-equal f g h (suc n) xs)

pub on_client-same : (x : SlotImage) → on_client (λ c. c) x ≡ x
unfolding on_client
on_client-same free = refl
on_client-same (used c) = refl

pub on_client-on_client : (f g : ClientImage → ClientImage) (x : SlotImage)
    → on_client f (on_client g x) ≡ on_client (λ c. f (g c)) x
unfolding on_client
on_client-on_client f g free = refl
on_client-on_client f g (used c) = refl
