-- The bounds of a slot as numbers: where its bytes begin and end in the memory, and the record room.
use mathlib.Core.Path.{◌≡◌, sym, ap, ◌∙◌}
use Prim.Native.Nat.{ℕ, ◌+◌, ◌<◌}
use native.Mathlib.Omega.{arith}
use Rattle.octets.specs.Octets.{Bytes}
use Rattle.slot.specs.Image.{ClientImage}
use Rattle.memory.specs.Layout.{sizes_of, stride, slot_start}
use Rattle.memory.specs.Promises.{InSlot, Changes, Placed}
use Rattle.memory.proofs.Updates.{slot-within}

-- the bounds of slot i and the record room
pub record Lent (m : Bytes) (i a b r : ℕ) : Type 0 where
  pub in-slot : InSlot m i
  pub start : a ≡ slot_start (sizes_of m) i
  pub end : b ≡ slot_start (sizes_of m) i + stride (sizes_of m)
  pub room : r ≡ (sizes_of m).record_room

-- the same of some slot
pub record Bounds (m : Bytes) (a b r : ℕ) : Type 0 where
  pub index : ℕ
  pub lent : Lent m index a b r

-- the client of the slot that begins at a is left as f makes it
abbrev pub ChangesAt : ℕ → (ClientImage → ClientImage) → Bytes → Bytes → Type 0
ChangesAt a f m m' = (i : ℕ) → i < (sizes_of m).slot_count → a ≡ slot_start (sizes_of m) i → Changes i f m m'

-- the bounds that code has of a slot are these
pub bounds_placed : {m : Bytes} {i a b r : ℕ} → InSlot m i → Placed m i a b r → Lent m i a b r
bounds_placed h p = record { in-slot = h; start = p.start; end = p.end; room = p.room }

pub placed_bounds : {m : Bytes} {i a b r : ℕ} → Lent m i a b r → Placed m i a b r
placed_bounds {m} {i} l =
    let w = slot-within m i l.in-slot.sound.headed l.in-slot.inside in
    record {
      start = l.start;
      end = l.end;
      room = l.room;
      order = omega (arith, l.start, l.end);
      within = omega (arith, l.end, w);
    }

-- one slot begins at a
pub lent-as : {m : Bytes} {i j a b r : ℕ} → Lent m i a b r → j < (sizes_of m).slot_count → a ≡ slot_start (sizes_of m) j
    → Lent m j a b r
lent-as {m} h l e =
    record {
      in-slot = record { sound = h.in-slot.sound; inside = l };
      start = e;
      end = h.end ∙ ap (λ (n : ℕ). n + stride (sizes_of m)) (sym h.start ∙ e);
      room = h.room;
    }
