-- A slot after an event, and the state after an event that changes one slot.
use mathlib.Core.Path.{◌≡◌, refl, ap}
use mathlib.Core.List.{List, [], ◌∷◌}
use mathlib.Core.Logic.{◌⊎◌, inl, inr}
use Prim.Native.Nat.{ℕ, zero, suc, ◌+◌}
use native.Mathlib.Nat.{zero-add, add-zero}
use native.Mathlib.Omega.{arith}
use lib.ListN.{length, get_or, replicate}
use Rattle.protocol.specs.Terms.{Protocol}
use Rattle.model.specs.Queueing.{Queueing}
use Rattle.model.specs.State.{Sizes, ClientOf, SlotOf, free, used, StateOf, empty_state, slot_at}
use Rattle.model.specs.Events.{Event, idle}
use Rattle.model.specs.Events.{each_slot, slot_after_event, store_after_event, after_event}

pub each_same : {queueing : Queueing} (f : ℕ → SlotOf queueing → SlotOf queueing)
    → ((j : ℕ) (x : SlotOf queueing) → f j x ≡ x) → (n : ℕ) (l : List (SlotOf queueing)) → each_slot f n l ≡ l
unfolding each_slot
each_same f h n [] = refl
each_same f h n (x ∷ l) = rw (h n x, each_same f h (suc n) l)

pub length-each_slot : {queueing : Queueing} (f : ℕ → SlotOf queueing → SlotOf queueing) (n : ℕ)
    (l : List (SlotOf queueing)) → length (each_slot f n l) ≡ length l
unfolding each_slot
length-each_slot f n [] = refl
length-each_slot f n (x ∷ l) = ap suc (length-each_slot f (suc n) l)

-- a slot inside the list becomes what the function makes of it; outside there is none
pub get_d-each_slot : {queueing : Queueing} (f : ℕ → SlotOf queueing → SlotOf queueing) (n : ℕ)
    (l : List (SlotOf queueing)) (j : ℕ)
    → (get_or (each_slot f n l) j free ≡ f (n + j) (get_or l j free))
    ⊎ ((get_or (each_slot f n l) j free ≡ free) × (get_or l j free ≡ free))
unfolding each_slot
get_d-each_slot f n [] j = inr (refl, refl)
get_d-each_slot f n (x ∷ l) zero = inl (rw add-zero)
get_d-each_slot f n (x ∷ l) (suc j) =
    let e : n + suc j ≡ suc n + j = omega arith in
    rw e (get_d-each_slot f (suc n) l j)

module _ (protocol : Protocol) {queueing : Queueing} (e : Event) (st : StateOf queueing) (j : ℕ) where
  -- the slot j after an event: one of the slots becomes what `slot_after_event` says, outside them there is nothing
  pub data SlotAfter : Type 0 where
    inside : slot_at j (after_event protocol e st)
        ≡ slot_after_event protocol st.sizes.queue_room e st.store j (slot_at j st) → SlotAfter
    outside : slot_at j (after_event protocol e st) ≡ free → slot_at j st ≡ free → SlotAfter

  pub slot-after : SlotAfter
  unfolding slot_at after_event
  slot-after =
      go (rw (zero-add j) at (get_d-each_slot (slot_after_event protocol st.sizes.queue_room e st.store) 0
      st.slots j))
    where
      go : (slot_at j (after_event protocol e st)
          ≡ slot_after_event protocol st.sizes.queue_room e st.store j (slot_at j st))
          ⊎ ((slot_at j (after_event protocol e st) ≡ free) × (slot_at j st ≡ free)) → SlotAfter
      go (inl h) = inside h
      go (inr h) = outside h.0 h.1

  -- a slot that has a client is inside
  pub slot-after-used : (c : ClientOf queueing) → slot_at j st ≡ used c
      → slot_at j (after_event protocol e st) ≡ slot_after_event protocol st.sizes.queue_room e st.store j (used c)
  slot-after-used c w = go slot-after
    where
      go : SlotAfter
          → slot_at j (after_event protocol e st)
          ≡ slot_after_event protocol st.sizes.queue_room e st.store j (used c)
      go (inside h) = rw w at h
      go (outside h f) = let z : ◌≡◌ {A = ℕ} 0 1 = cc in absurd (omega arith)

pub after-idle : (protocol : Protocol) {queueing : Queueing} (st : StateOf queueing) → after_event protocol idle st ≡ st
unfolding after_event store_after_event slot_after_event
after-idle protocol st =
    rw (each_same (slot_after_event protocol st.sizes.queue_room idle st.store) (λ j x. refl) 0 st.slots)

replicate-free : {queueing : Queueing} (n j : ℕ) → get_or {A = SlotOf queueing} (replicate n free) j free ≡ free
replicate-free zero j = refl
replicate-free (suc n) zero = refl
replicate-free (suc n) (suc j) = replicate-free n j

pub slot_at-empty : {queueing : Queueing} (z : Sizes) (j : ℕ)
    → ◌≡◌ {A = SlotOf queueing} (slot_at j (empty_state z)) free
unfolding slot_at empty_state
slot_at-empty z j = replicate-free z.slot_count j
