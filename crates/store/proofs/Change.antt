-- A WRITE on the region, by the parts of the store around its key: what is found at the key's place, whether the
-- store after it fits, and the region after it.
use mathlib.Core.Path.{◌≡◌, refl, sym, ap, ◌∙◌}
use mathlib.Core.List.{◌∷◌, ◌++◌}
use mathlib.Core.Bool.{true}
use mathlib.Core.Option.{Option, some, none}
use Prim.Native.Nat.{ℕ, ◌+◌, ◌-◌, ◌≤◌, ◌<◌}
use native.Mathlib.Omega.{arith}
use borrow.Author.Tests.{leb-true}
use lib.Dec.{leb}
use lib.ListN.{length, take, drop, length-drop}
use lib.Seq.{sets, length-sets, length-take-le}
use Rattle.octets.specs.Octets.{Bytes}
use Rattle.octets.specs.Part.{part}
use Rattle.octets.proofs.Parts.{drop-part}
use Rattle.model.specs.Store.{Entry, lookup, store_after_write, store_charge, store_fits}
use Rattle.model.specs.Invariant.{Ascending}
use Rattle.model.proofs.Tests.{and_left, and_right}
use Rattle.model.proofs.Stores.{ascending-store_after_write}
use Rattle.store.specs.Row.{key_of, value_of, body_of, entry_of, row_fine, row_bytes}
use Rattle.store.specs.Region.{used_of, count_of, room_of, rows_of, headed, store_fine, store_of}
use Rattle.store.specs.Operation.{lower, charge, body, Found, row_count}
use Rattle.store.specs.Operation.{Payload, put_payload, Writable, Becomes}
use Rattle.store.proofs.RowLaws.{sound-fine, body_of-split}
use Rattle.store.proofs.RowLaws.{length-row_bytes, body-row_bytes, sound-row_bytes, entry_of-row_bytes}
use Rattle.store.proofs.Rows.{Rows, row-front, rows_behind}
use Rattle.store.proofs.Region.{Represents, represents, bounds, ascending-store_of, charge-store_of, length-store_of}
use Rattle.store.proofs.Split.{Split, split, own, entry, charge-own, store_after_write-split, row_count-some}
use Rattle.store.proofs.Split.{charge-whole, length_whole, charge-after, length-after}
use Rattle.store.proofs.Splice.{represents-splice, becomes}

-- ---- the parts around a key

module _ (st k : Bytes) (f : store_fine st ≡ true) where
  pub parts : Split k (store_of st)
  parts = split k (store_of st) (ascending-store_of st f)

  -- what is used and counted, by parts
  pub used-parts : used_of st
      ≡ store_charge (lower k (store_of st)) + (charge k (lookup k (store_of st)) + store_charge parts.upper)
  used-parts = sym (charge-store_of st f) ∙ charge-whole parts

  pub count-parts : count_of st
      ≡ length (lower k (store_of st)) + (row_count (charge k (lookup k (store_of st))) + length parts.upper)
  count-parts = sym (length-store_of st f) ∙ length_whole parts

-- ---- what is found

-- the key's row lies within what is used
pub found_within : {st k : Bytes} {at len : ℕ} → store_fine st ≡ true → Found st k at len → at + len ≤ used_of st
found_within {st} {k} f d = let u = used-parts st k f in omega (arith, d.offset, d.size)

-- a key that is found has its row there
pub found-row : {st k : Bytes} {at len : ℕ} → store_fine st ≡ true → Found st k at len → 0 < len
    → (row_fine (drop (8 + at) st) ≡ true) × (body_of (drop (8 + at) st) ≡ body k (lookup k (store_of st)))
unfolding charge body own Rows rows_of entry_of
found-row {st} {k} {at} {len} f d h = go (lookup k (store_of st)) refl
  where
    go : (v : Option Bytes) → lookup k (store_of st) ≡ v
        → (row_fine (drop (8 + at) st) ≡ true) × (body_of (drop (8 + at) st) ≡ body k v)
    go none e = let z : len ≡ 0 = rw e at d.size in absurd (omega arith)
    go (some v) e =
        let s = parts st k f in
        let w : store_of st ≡ lower k (store_of st) ++ (entry k v ∷ s.upper) = rw e at s.whole in
        let r : Rows (rows_of st) (lower k (store_of st) ++ (entry k v ∷ s.upper)) = rw w at (represents st f).rows in
        let b = rows_behind (rows_of st) (lower k (store_of st)) (entry k v ∷ s.upper) r in
        let q =
        row-front (drop (8 + at) st) (used_of st - at)
        (rw (← d.offset, drop-part st 8 (used_of st) at) at b.0) in
        let ek : key_of (drop (8 + at) st) ≡ k = ap (λ (e : Entry). e.key) q.0.entry in
        let ev : value_of (drop (8 + at) st) ≡ v = ap (λ (e : Entry). e.value) q.0.entry in
        (sound-fine (drop (8 + at) st) q.0.row, rw (← ek, ← ev) (body_of-split (drop (8 + at) st) q.0.row))

-- a key with no row is absent
pub found_none : {st k : Bytes} {at len : ℕ} → Found st k at len → len ≡ 0 → lookup k (store_of st) ≡ none
unfolding charge
found_none {st} {k} {at} {len} d h = go (lookup k (store_of st)) d.size
  where
    go : (v : Option Bytes) → len ≡ charge k v → v ≡ none
    go none e = refl
    go (some v) e = absurd (omega arith)

-- ---- the region after a WRITE

module _ (st k : Bytes) (v : Option Bytes) (at old behind from to used' count' : ℕ) (b : Bytes)
    (f : store_fine st ≡ true) (d : Found st k at old) (w : Rows b (own k v))
    (e-behind : behind ≡ used_of st - (at + old)) (e-from : from ≡ 8 + at + old) (e-to : to ≡ 8 + at + length b)
    (e-used : used' ≡ at + length b + behind) (e-count : count' ≡ length (store_after_write k v (store_of st)))
    (room : 8 + used' ≤ length st) (few : count' ≤ 1024) where
  pub becomes-write
      : Becomes st (headed (sets (sets st to (part st from behind)) (8 + at) b) used' count')
      (store_after_write k v (store_of st))
  becomes-write =
      let s = parts st k f in
      let es = store_of st in
      let after : store_after_write k v es ≡ lower k es ++ (own k v ++ s.upper) = store_after_write-split s v in
      let r : Represents st (lower k es ++ (own k (lookup k es) ++ s.upper)) = rw s.whole at (represents st f) in
      let asc : Ascending (lower k es ++ (own k v ++ s.upper)) =
      rw after at (ascending-store_after_write k v es (ascending-store_of st f)) in
      let len : length (headed (sets (sets st to (part st from behind)) (8 + at) b) used' count') ≡ length st =
      simp length-sets in
      rw after (becomes st len
      (represents-splice st (lower k es) (own k (lookup k es)) (own k v) s.upper b at old behind from to used' count'
      r w asc d.offset (d.size ∙ sym (charge-own k (lookup k es))) e-behind e-from e-to e-used
      (rw after at e-count) room few))

-- ---- a WRITE with a value

-- the row of a payload is that of its entry
pub rows-payload : (p : Bytes) (n : ℕ) → Payload p n → Rows (row_bytes n p) (own (take n p) (some (drop (n + 1) p)))
unfolding own Rows
rows-payload p n h =
    let a = sound-row_bytes n p h.short h.key-within h.nul in
    let w = a.whole in
    let l = length-row_bytes n p in
    let b = body-row_bytes n p h.short h.key-within h.nul in (
      record { row = a; entry = entry_of-row_bytes n p h.short h.key-within h.nul },
      rw length-drop (omega arith),
    )

pub charge-payload : (p : Bytes) (n : ℕ) → Payload p n → charge (take n p) (some (drop (n + 1) p)) ≡ 7 + length p
unfolding charge
charge-payload p n h =
    let k = h.key-within in
    let a = length-take-le n p (omega arith) in
    let b = length-drop (n + 1) p in
    omega arith

-- what the steps of a WRITE need to know
pub record Ready (st p : Bytes) (n at old : ℕ) : Type 0 where
  pub head : 8 + used_of st ≤ length st
  pub within : at + old ≤ used_of st
  pub room : 8 + (at + (7 + length p) + (used_of st - (at + old))) ≤ length st
  pub count : count_of st + 1 - row_count old ≡ length (put_payload p n (store_of st))
  pub few : count_of st + 1 - row_count old ≤ 1024

pub ready : (st p : Bytes) (n at old : ℕ) → Writable st p n → Found st (take n p) at old → Ready st p n at old
unfolding store_fits put_payload store_after_write
ready st p n at old w d =
    let k = take n p in
    let v = drop (n + 1) p in
    let f = w.fine in
    let u = used-parts st k f in
    let c = count-parts st k f in
    let a = charge-after (parts st k f) (some v) in
    let l = length-after (parts st k f) (some v) in
    let q = charge-payload p n w.payload in
    let one : row_count (charge k (some v)) ≡ 1 = row_count-some (charge k (some v)) (omega arith) in
    let t = leb (store_charge (store_after_write k (some v) (store_of st))) (room_of st) in
    let x : store_charge (store_after_write k (some v) (store_of st)) ≤ room_of st = leb-true _ _ (and_left t _ w.fits) in
    let y : length (store_after_write k (some v) (store_of st)) ≤ 1024 = leb-true _ _ (and_right t _ w.fits) in
    let r = (represents st f).long in
    let z : row_count old ≡ row_count (charge k (lookup k (store_of st))) = ap row_count d.size in
    let i = d.offset in
    let j = d.size in
    record { head = r; within = omega arith; room = omega arith; count = omega arith; few = omega arith }

-- ---- a WRITE without a value

pub record Gone (st k : Bytes) (at old : ℕ) : Type 0 where
  pub head : 8 + used_of st ≤ length st
  pub within : at + old ≤ used_of st
  pub some-entry : 1 ≤ count_of st
  pub count : count_of st - 1 ≡ length (store_after_write k none (store_of st))
  pub few : count_of st ≤ 1024

pub gone : {st k : Bytes} {at old : ℕ} → store_fine st ≡ true → Found st k at old → 0 < old → Gone st k at old
unfolding charge
gone {st} {k} {at} {old} f d h =
    let c = count-parts st k f in
    let l = length-after (parts st k f) none in
    let r = represents st f in
    let z : row_count (charge k (lookup k (store_of st))) ≡ 1 = rw (← d.size) (row_count-some old h) in
    let w = found_within f d in
    record {
      head = r.long;
      within = w;
      some-entry = omega arith;
      count = omega arith;
      few = omega (arith, r.few, r.count);
    }

-- ---- what the steps of both may rest on

module _ (st k : Bytes) where
  abbrev place : ℕ
  place = store_charge (lower k (store_of st))

  abbrev size : ℕ
  size = charge k (lookup k (store_of st))

module _ (st k : Bytes) (f : store_fine st ≡ true) where
  pub found_room : place st k + size st k ≤ used_of st
  found_room = found_within f (record { offset = refl; size = refl })

  pub delete_count : 0 < size st k → (size st k ≡ size st k) × (1 ≤ count_of st)
  delete_count h = (refl, (gone f (record { offset = refl; size = refl }) h).some-entry)

pub write_room : (st p : Bytes) (n : ℕ) → Writable st p n
    → 8 + (place st (take n p) + (7 + length p) + (used_of st - (place st (take n p) + size st (take n p)))) ≤ length st
write_room st p n w = (ready st p n _ _ w (record { offset = refl; size = refl })).room

pub ruleset changes = (bounds, found_room, delete_count, write_room)
