-- The store region as a relation: what a region that passes the test represents, and what a walk over its rows has
-- before it.
use mathlib.Core.Path.{◌≡◌, refl, sym, ap, ◌∙◌}
use mathlib.Core.List.{[], ◌∷◌, ◌++◌}
use mathlib.Core.Bool.{true}
use mathlib.Core.Option.{none}
use Prim.Native.Nat.{ℕ, zero, suc, ◌+◌, ◌-◌, ◌≤◌, ◌<◌}
use native.Mathlib.Nat.{sub-zero, add-zero, zero-add}
use native.Mathlib.Omega.{arith}
use borrow.Author.Tests.{leb-true, le-leb}
use lib.Dec.{leb}
use lib.ListN.{length, drop}
use Rattle.octets.specs.Octets.{Bytes}
use Rattle.octets.specs.Part.{part}
use Rattle.octets.proofs.Parts.{length_part, drop-part}
use Rattle.model.specs.Store.{Entry, Store, store_charge}
use Rattle.model.specs.Invariant.{Ascending}
use Rattle.model.proofs.Tests.{and_left, and_right}
use Rattle.store.specs.Row.{row_size}
use Rattle.store.specs.Region.{used_of, count_of, rows_of, store_fine, entries, store_of}
use Rattle.store.proofs.Rows.{Row, Rows, row-size, row-front, row-alike, length-rows}
use Rattle.store.proofs.Rows.{Above, ordered, ordered-fine, entries-rows}

-- ---- what a region represents

pub record Represents (st : Bytes) (es : Store) : Type 0 where
  pub long : 8 + used_of st ≤ length st
  pub few : length es ≤ 1024
  pub count : count_of st ≡ length es
  pub rows : Rows (rows_of st) es
  pub ascending : Ascending es

length-entries : (n : ℕ) (s : Bytes) → length (entries n s) ≡ n
unfolding entries
length-entries zero s = refl
length-entries (suc n) s = ap suc (length-entries n (drop (row_size s) s))

-- a region that passes the test represents its meaning
pub represents : (st : Bytes) → store_fine st ≡ true → Represents st (store_of st)
unfolding store_fine store_of
represents st e =
    let e₁ = and_right (leb 8 (length st)) _ e in
    let e₂ = and_right (leb (8 + used_of st) (length st)) _ e₁ in
    let few = leb-true (count_of st) 1024 (and_left (leb (count_of st) 1024) _ e₂) in
    let o = ordered none (count_of st) (rows_of st) (and_right (leb (count_of st) 1024) _ e₂) in
    let l = length-entries (count_of st) (rows_of st) in
    record {
      long = leb-true _ _ (and_left (leb (8 + used_of st) (length st)) _ e₁);
      few = omega arith;
      count = sym l;
      rows = o.rows;
      ascending = o.ascending;
    }

module _ {st : Bytes} {es : Store} (r : Represents st es) where
  pub represents-fine : store_fine st ≡ true
  unfolding store_fine Above
  represents-fine =
      let l = r.long in
      let f = r.few in
      let c = r.count in
      let o = ordered-fine none (rows_of st) es (record { rows = r.rows; above = tt; ascending = r.ascending }) in
      let h : 8 ≤ length st = omega arith in
      let n : count_of st ≤ 1024 = omega arith in
      rw (le-leb 8 (length st) h, le-leb _ _ l, le-leb _ _ n, c) o

  pub represents-holds : store_of st ≡ es
  unfolding store_of
  represents-holds = rw r.count (entries-rows (rows_of st) es r.rows)

  -- what the entries charge is what is used
  pub used-charge : used_of st ≡ store_charge es
  unfolding rows_of
  used-charge = sym (length_part st 8 (used_of st) r.long) ∙ length-rows (rows_of st) es r.rows

module _ (st : Bytes) (f : store_fine st ≡ true) where
  pub ascending-store_of : Ascending (store_of st)
  ascending-store_of = (represents st f).ascending

  pub charge-store_of : store_charge (store_of st) ≡ used_of st
  charge-store_of = sym (used-charge (represents st f))

  pub length-store_of : length (store_of st) ≡ count_of st
  length-store_of = sym (represents st f).count

-- the bounds that a store keeps
pub bounds : (st : Bytes) → store_fine st ≡ true
    → (store_fine st ≡ true) × (8 + used_of st ≤ length st) × (count_of st ≤ 1024)
bounds st f = let r = represents st f in (f, r.long, omega (arith, r.few, r.count))

-- ---- a walk over the rows

-- From offset `at` of the room on, the rows are those of the entries es.
pub record Remains (st : Bytes) (at : ℕ) (es : Store) : Type 0 where
  pub long : 8 + used_of st ≤ length st
  pub within : at ≤ used_of st
  pub rows : Rows (part st (8 + at) (used_of st - at)) es
  pub ascending : Ascending es

-- at the start all entries remain
pub remains-start : (st : Bytes) → store_fine st ≡ true → Remains st 0 (store_of st)
unfolding rows_of
remains-start st f =
    let r = represents st f in
    record {
      long = r.long;
      within = omega arith;
      rows = rw (sub-zero (used_of st)) r.rows;
      ascending = r.ascending;
    }

module _ {st : Bytes} {at : ℕ} where
  -- nothing remains: the offset is what is used
  pub remains-end : Remains st at [] → at ≡ used_of st
  unfolding Rows
  remains-end r =
      let l = length_part st (8 + at) (used_of st - at) in
      let w = r.within in
      let g = r.long in
      omega (arith, r.rows, l (omega arith))

  -- the row at the offset is that of the first entry, and within what is used
  pub remains-row : {e : Entry} {es : Store} → Remains st at (e ∷ es)
      → Row (drop (8 + at) st) e × (at + row_size (drop (8 + at) st) ≤ used_of st)
  unfolding Rows
  remains-row {e} {es} r =
      let w = r.within in
      let f = row-front (drop (8 + at) st) (used_of st - at) r.rows.0 in
      (f.0, omega (arith, f.1))

  -- behind it the others remain
  pub remains-next : {e : Entry} {es : Store} → Remains st at (e ∷ es) → Remains st (at + row_size (drop (8 + at) st)) es
  unfolding Rows Ascending
  remains-next {e} {es} r =
      let f = remains-row r in
      let n = used_of st - at in
      let k = row_size (drop (8 + at) st) in
      let i : 8 + at + k ≡ 8 + (at + k) = omega arith in
      let j : n - k ≡ used_of st - (at + k) = omega arith in
      let d : drop k (part st (8 + at) n) ≡ part st (8 + (at + k)) (used_of st - (at + k)) =
      rw (i, j) at (drop-part st (8 + at) n k) in
      let a : row_size (part st (8 + at) n) ≡ k = row-alike f.0 r.rows.0 in
      record { long = r.long; within = f.1; rows = rw (a, d) at r.rows.1; ascending = r.ascending.1 }

-- before the end of what is used an entry remains
pub record First (es : Store) : Type 0 where
  pub first : Entry
  pub rest : Store
  pub cons : es ≡ first ∷ rest

pub remains-more : {st : Bytes} {at : ℕ} (es : Store) → Remains st at es → at < used_of st → First es
remains-more [] r h = absurd (omega (arith, remains-end r))
remains-more (e ∷ es) r h = record { first = e; rest = es; cons = refl }

module _ {st : Bytes} where
  remains-from : (es fs : Store) {at : ℕ} → Remains st at (es ++ fs) → Remains st (at + store_charge es) fs
  unfolding store_charge
  remains-from [] fs {at} r = rw (add-zero at) r
  remains-from (e ∷ es) fs {at} r =
      let z = row-size (remains-row r).0 in
      let n : at + row_size (drop (8 + at) st) + store_charge es
      ≡ at + (8 + length e.key + length e.value + store_charge es) = omega arith in
      rw n at (remains-from es fs (remains-next r))

  -- behind the rows of the first entries stand those of the others
  pub remains-behind : (es fs : Store) → store_fine st ≡ true → store_of st ≡ es ++ fs → Remains st (store_charge es) fs
  remains-behind es fs f e = rw (zero-add (store_charge es)) at (remains-from es fs (rw e at (remains-start st f)))
