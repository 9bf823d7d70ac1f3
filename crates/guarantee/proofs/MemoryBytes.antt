-- A state of the simple server table_bytes as a memory, with any bytes behind it: the memory holds the state.
use mathlib.Core.Path.{◌≡◌, refl, sym, ap, ◌∙◌}
use mathlib.Core.List.{List, [], ◌∷◌, ◌++◌, map}
use mathlib.Core.Bool.{true}
use Prim.Native.Nat.{ℕ, suc, ◌+◌, ◌*◌, ◌<◌}
use native.Mathlib.Omega.{arith}
use lib.ListN.{length, take, drop, get_or, length-append}
use lib.Seq.{take_at, drop_at, drop-drop}
use Rattle.octets.specs.Octets.{Bytes}
use Rattle.octets.specs.Number.{number_at}
use Rattle.octets.specs.Table.{rows}
use Rattle.pattern.specs.Syntax.{valid}
use Rattle.model.specs.State.{Sizes, Slot, free, State, slot_at}
use Rattle.model.specs.Forms.{slot_with, state_with}
use Rattle.model.specs.Invariant.{Each, SlotInvariant, Invariant}
use Rattle.store.proofs.Region as S
use Rattle.store.proofs.Region.{represents-fine, represents-holds}
use Rattle.slot.specs.Region.{slot_of, slot_fine}
use Rattle.memory.specs.Layout.{mark, sizes_of, stride, slots_start, memory_size, store_part}
use Rattle.memory.specs.Image.{slots_of, image_of}
use Rattle.memory.specs.Rules.{Headed, all, slots_fine, memory_fine}
use Rattle.memory.proofs.SizeLaws.{Ranges, ranges}
use Rattle.memory.proofs.Fine.{headed-head_fine}
use Rattle.infod3.specs.Infod3.{infod3}
use Rattle.refinement.specs.Represents.{in_rows, state_image}
use Rattle.refinement.specs.Promises.{Represents}
use Rattle.guarantee.proofs.Filled.{numbers_then, length-numbers_then, number_at-numbers_then, drop-numbers_then}
use Rattle.guarantee.proofs.Filled.{table_bytes, length-table_bytes, rows-table_bytes}
use Rattle.guarantee.proofs.StoreBytes.{store_bytes, length-store_bytes, store_bytes-represents}
use Rattle.guarantee.proofs.SlotBytes.{slot_bytes, length-slot, slot-means, slot-fine}

-- the store region, the slots, and what is behind them
unfoldable pub behind_head : State → Bytes → Bytes
behind_head st t =
    store_bytes st.sizes.store_room st.store ++ (table_bytes (slot_bytes st.sizes) st.slots ++ t)

-- the numbers of the header
abbrev pub head_numbers : Sizes → List ℕ
head_numbers z = mark ∷ z.slot_count ∷ z.store_room ∷ z.queue_room ∷ z.record_room ∷ []

-- the header, then the rest
unfoldable pub memory_bytes : State → Bytes → Bytes
memory_bytes st t = numbers_then (head_numbers st.sizes) (behind_head st t)

-- what holds of every slot number holds of every slot
each-slot : (P : Slot → Type 0) (l : List Slot) → ((j : ℕ) → P (get_or l j free)) → Each P l
each-slot P [] h = tt
each-slot P (x ∷ l) h = (h 0, each-slot P l (λ j. h (suc j)))

all_true : (l : List Slot) → all (map (λ (x : Slot). true) l) ≡ true
unfolding all
all_true [] = refl
all_true (x ∷ l) = all_true l

module _ (st : State) (inv : Invariant infod3 valid st) (t : Bytes) where
  abbrev z : Sizes
  z = st.sizes

  abbrev m : Bytes
  m = memory_bytes st t

  r : Ranges z
  r = ranges z inv.sizes-in-range

  each-valid : Each (SlotInvariant infod3 valid z) st.slots
  unfolding slot_at
  each-valid = each-slot (SlotInvariant infod3 valid z) st.slots inv.clients

  abbrev row-length : (x : Slot) → SlotInvariant infod3 valid z x → length (slot_bytes z x) ≡ stride z
  row-length = length-slot z r.queue r.record-room

  length-store : length (store_bytes z.store_room st.store) ≡ 8 + z.store_room
  length-store =
      length-store_bytes z.store_room st.store r.store inv.store-fits inv.keys-ascend inv.entries-valid

  length-slots : length (table_bytes (slot_bytes z) st.slots) ≡ z.slot_count * stride z
  length-slots =
      length-table_bytes (slot_bytes z) (SlotInvariant infod3 valid z) (stride z) row-length st.slots each-valid
      ∙ ap (λ (n : ℕ). n * stride z) inv.slots-counted

  drop_head : (i : ℕ) → drop (20 + i) m ≡ drop i (behind_head st t)
  unfolding memory_bytes
  drop_head i = sym (drop-drop i 20 m) ∙ ap (drop i) (drop-numbers_then (head_numbers z) (behind_head st t))

  number_is : (i : ℕ) → i < 5 → number_at 4 m (4 * i) ≡ get_or (head_numbers z) i 0
  unfolding memory_bytes
  number_is =
      number_at-numbers_then (head_numbers z) (behind_head st t) (
        omega arith,
        (
          omega (arith, r.slots),
          (omega (arith, r.store), (omega (arith, r.queue), (omega (arith, r.record-room), tt))),
        ),
      )

  sizes-are : sizes_of m ≡ z
  unfolding sizes_of
  sizes-are =
      let n : number_at 4 m 4 ≡ z.slot_count = number_is 1 (omega arith) in
      let s : number_at 4 m 8 ≡ z.store_room = number_is 2 (omega arith) in
      let q : number_at 4 m 12 ≡ z.queue_room = number_is 3 (omega arith) in
      let k : number_at 4 m 16 ≡ z.record_room = number_is 4 (omega arith) in
      rw (n, s, q, k)

  store_is : store_part z m ≡ store_bytes z.store_room st.store
  unfolding behind_head
  store_is =
      ap (take (8 + z.store_room)) (drop_head 0)
      ∙ take_at (store_bytes z.store_room st.store) _ (8 + z.store_room) length-store

  slots-are : drop (slots_start z) m ≡ table_bytes (slot_bytes z) st.slots ++ t
  unfolding behind_head
  slots-are =
      let e : 20 + (8 + z.store_room) ≡ slots_start z = omega arith in
      rw e at (drop_head (8 + z.store_room))
      ∙ drop_at (store_bytes z.store_room st.store) _ (8 + z.store_room) length-store

  -- what is behind the slots
  pub memory_bytes-behind : drop (memory_size z) m ≡ t
  memory_bytes-behind =
      sym (drop-drop (z.slot_count * stride z) (slots_start z) m)
      ∙ ap (drop (z.slot_count * stride z)) slots-are
      ∙ drop_at (table_bytes (slot_bytes z) st.slots) t (z.slot_count * stride z) length-slots

  length-memory : length m ≡ memory_size z + length t
  unfolding memory_bytes behind_head
  length-memory = rw (length-numbers_then, length-append, length-append, length-store, length-slots) (omega arith)

  table : {B : Type 0} (g : Bytes → B) (f : Slot → B)
      → ((x : Slot) → SlotInvariant infod3 valid z x → g (slot_bytes z x) ≡ f x)
      → rows g (stride z) z.slot_count (drop (slots_start z) m) ≡ map f st.slots
  table g f h =
      ap (λ (n : ℕ). rows g (stride z) n (drop (slots_start z) m)) (sym inv.slots-counted)
      ∙ ap (rows g (stride z) (length st.slots)) slots-are
      ∙ rows-table_bytes (slot_bytes z) (SlotInvariant infod3 valid z) (stride z) row-length g f h st.slots t
      each-valid

  headed : Headed m
  headed =
      record {
        header = omega (arith, length-memory);
        marked = number_is 0 (omega arith);
        ranged = rw sizes-are inv.sizes-in-range;
        long = rw sizes-are (omega (arith, length-memory));
      }

  store-represents : S.Represents (store_bytes z.store_room st.store) st.store
  store-represents =
      store_bytes-represents z.store_room st.store r.store inv.store-fits inv.keys-ascend
      inv.entries-valid

  memory-fine : memory_fine m ≡ true
  unfolding memory_fine slots_fine
  memory-fine =
      rw (
        headed-head_fine m headed,
        sizes-are,
        store_is,
        represents-fine store-represents,
        table (slot_fine z.record_room) (λ x. true) (slot-fine z r.queue r.record-room),
      )
      (all_true st.slots)

  memory-means : image_of m ≡ state_image st
  unfolding image_of slots_of state_with
  memory-means =
      rw (
        sizes-are,
        store_is,
        represents-holds store-represents,
        table (slot_of z.record_room) (slot_with in_rows) (slot-means z r.queue r.record-room),
      )

  -- The memory holds the state.
  pub memory_bytes-represents : Represents (memory_bytes st t) st
  memory_bytes-represents = record { fine = memory-fine; means = memory-means }

  pub memory_bytes-sizes : sizes_of (memory_bytes st t) ≡ st.sizes
  memory_bytes-sizes = sizes-are
