-- A loop over all slots, each changed by the same function: what the memory means before, between and behind its turns.
use mathlib.Core.Path.{◌≡◌, refl, sym, ap, ◌∙◌}
use Prim.Native.Nat.{ℕ, ◌+◌, ◌≤◌, ◌<◌}
use native.Mathlib.Numerals.{add-one}
use native.Mathlib.Omega.{arith}
use Rattle.octets.specs.Octets.{Bytes}
use Rattle.model.specs.State.{Sizes}
use Rattle.model.specs.Events.{on_client}
use Rattle.slot.specs.Image.{ClientImage}
use Rattle.memory.specs.Layout.{sizes_of, stride, slot_start}
use Rattle.memory.specs.Image.{Image, image_of, with_slots, on_slot, on_slots}
use Rattle.memory.specs.Rules.{Sound, Becomes}
use Rattle.memory.specs.Promises.{InSlot, Changes}
use Rattle.memory.proofs.Lent.{length-slots}
use Rattle.memory.proofs.Bounds.{Bounds}
use Rattle.refinement.proofs.Ends.{becomes-same, becomes-as, becomes-sizes, becomes-then}
use Rattle.refinement.proofs.Events.{up_to, on_slots-start, on_slots-next, on_slots-all}

-- the clients of the slots before i are as f makes them
pub record Passed (f : ClientImage → ClientImage) (i : ℕ) (m m' : Bytes) : Type 0 where
  pub made : Becomes m m' (on_slots (up_to i (on_client f)) (image_of m))

pub passed_start : (f : ClientImage → ClientImage) {m : Bytes} → Sound m → Passed f 0 m m
passed_start f {m} h =
    record { made = becomes-as (sym (on_slots-start (on_client f) (image_of m))) (becomes-same h) }

module _ {f : ClientImage → ClientImage} {i : ℕ} {m m' : Bytes} (h : Passed f i m m') where
  pub passed-room : (image_of m').sizes.queue_room ≡ (image_of m).sizes.queue_room
  unfolding on_slots with_slots
  passed-room = ap (λ (im : Image). im.sizes.queue_room) h.made.means

  pub passed-sizes : {z : Sizes} → z ≡ sizes_of m → z ≡ sizes_of m'
  unfolding on_slots with_slots
  passed-sizes e = rw (becomes-sizes h.made refl) e

  -- behind the last slot
  pub passed-all : (sizes_of m).slot_count ≤ i → Becomes m m' (on_slots (λ j. on_client f) (image_of m))
  passed-all l = becomes-as (on_slots-all i (on_client f) (image_of m) (omega (arith, length-slots m))) h.made

  -- the next slot
  pub passed-slot : i < (sizes_of m).slot_count → InSlot m' i
  unfolding on_slots with_slots
  passed-slot l = record { sound = h.made.sound; inside = rw (becomes-sizes h.made refl) l }

  -- its bounds, where it begins at `at`
  pub passed-bounds : {at step : ℕ} → at ≡ slot_start (sizes_of m) i → i < (sizes_of m).slot_count
      → step ≡ stride (sizes_of m) → {r : ℕ} → r ≡ (sizes_of m).record_room → Bounds m' at (at + step) r
  passed-bounds {at} {step} place l es {r} er =
      let z = passed-sizes refl in
      let start : at ≡ slot_start (sizes_of m') i = rw z at place in
      let e : step ≡ stride (sizes_of m') = rw z at es in
      record {
        index = i;
        lent = record { in-slot = passed-slot l; start = start; end = omega (arith, start, e); room = rw z at er };
      }

  pub passed-next : {m'' : Bytes} → Changes i f m' m'' → Passed f (i + 1) m m''
  unfolding on_slots with_slots
  passed-next k =
      let e = ap (on_slot i (on_client f)) h.made.means ∙ on_slots-next i (on_client f) (image_of m) in
      record { made = rw (add-one i) (becomes-as e (becomes-then h.made refl k)) }
