-- The search for a key along the rows, on plain values.
use Rattle.std.specs.Ordering.{is_lt}
use Rattle.octets.specs.Order.{same}
use mathlib.Core.Path.{◌≡◌, refl, sym, ap, ◌∙◌}
use mathlib.Core.List.{[], ◌∷◌, ◌++◌}
use mathlib.Core.Bool.{Bool, true, false, cond}
use Prim.Native.Nat.{ℕ, ◌+◌, ◌≤◌, ◌<◌}
use native.Mathlib.Nat.{add-zero}
use native.Mathlib.Omega.{arith}
use borrow.Author.Tests.{ltb-true}
use lib.Dec.{ltb}
use lib.ListN.{length, drop}
use Rattle.octets.specs.Octets.{Bytes}
use Rattle.octets.specs.Order.{before, order}
use Rattle.std.proofs.Common.{Less, Equal, Greater}
use Rattle.octets.proofs.Orders.{order-less, order-equal, order-greater, before-trans}
use Rattle.model.specs.Store.{Entry, Store, lookup, store_charge}
use Rattle.model.specs.Invariant.{After, Ascending}
use Rattle.model.proofs.Tests.{and_left, and_right}
use Rattle.model.proofs.Stores.{lookup-after}
use Rattle.store.specs.Row.{row_size, key_of, entry_of, row_fine}
use Rattle.store.specs.Region.{used_of, store_fine, store_of}
use Rattle.store.specs.Operation.{lower, charge, Found}
use Rattle.store.specs.Index.{Boundary, row_before, AllBefore, Start}
use Rattle.store.proofs.RowLaws.{sound-fine}
use Rattle.store.proofs.Rows.{row-size}
use Rattle.store.proofs.Region.{ascending-store_of, Remains, remains-row, remains-next, remains-more}
use Rattle.store.proofs.Region.{remains-behind}
use Rattle.store.proofs.Split.{lower-before, lookup-before, lower-same, lookup-same, lower-behind, after-behind}
use Rattle.store.proofs.Split.{charge-append}
use Rattle.store.proofs.Laws.{RowOf, row_first}

-- The keys of all rows up to offset `at` come before k. What is found in the whole is what is found in the rest.
pub record Searched (st k : Bytes) (at : ℕ) : Type 0 where
  pub rest : Store
  pub remains : Remains st at rest
  pub same-lower : store_charge (lower k (store_of st)) ≡ at + store_charge (lower k rest)
  pub same-lookup : lookup k (store_of st) ≡ lookup k rest

-- entries in front whose keys come before k
module _ (k : Bytes) (fs : Store) where
  lower-behind-front : (es : Store) → AllBefore k es → lower k (es ++ fs) ≡ es ++ lower k fs
  unfolding AllBefore
  lower-behind-front [] a = refl
  lower-behind-front (e ∷ es) a =
      lower-before k e (es ++ fs) a.0 ∙ ap (λ (l : Store). e ∷ l) (lower-behind-front es a.1)

  lookup-behind-front : (es : Store) → AllBefore k es → lookup k (es ++ fs) ≡ lookup k fs
  unfolding AllBefore
  lookup-behind-front [] a = refl
  lookup-behind-front (e ∷ es) a = lookup-before k e (es ++ fs) a.0 ∙ lookup-behind-front es a.1

-- a search begins where the keys in front come before k
pub searched-start : {st k : Bytes} {at : ℕ} → store_fine st ≡ true → Start st k at → Searched st k at
searched-start {st} {k} {at} f s =
    let b = s.boundary in
    record {
      rest = b.rest;
      remains = rw b.place (remains-behind b.front b.rest f b.whole);
      same-lower =
          ap (λ (l : Store). store_charge (lower k l)) b.whole
          ∙ ap store_charge (lower-behind-front k b.rest b.front s.in-front)
          ∙ charge-append b.front (lower k b.rest)
          ∙ ap (λ (n : ℕ). n + store_charge (lower k b.rest)) (sym b.place);
      same-lookup =
          ap (lookup k) b.whole ∙ lookup-behind-front k b.rest b.front s.in-front;
    }

-- the first of the rest
record Ahead (st k : Bytes) (at : ℕ) : Type 0 where
  pub first : Entry
  pub others : Store
  pub remains : Remains st at (first ∷ others)
  pub same-lower : store_charge (lower k (store_of st)) ≡ at + store_charge (lower k (first ∷ others))
  pub same-lookup : lookup k (store_of st) ≡ lookup k (first ∷ others)

ahead : {st k : Bytes} {at : ℕ} → Searched st k at → at < used_of st → Ahead st k at
ahead {st} {k} {at} c h =
    let m = remains-more c.rest c.remains h in
    record {
      first = m.first;
      others = m.rest;
      remains = rw m.cons at c.remains;
      same-lower = rw m.cons at c.same-lower;
      same-lookup = rw m.cons at c.same-lookup;
    }

module _ {st k : Bytes} {at : ℕ} (c : Searched st k at) where
  -- a row stands here, and it ends within what is used
  pub searched-row : at < used_of st → row_fine (drop (8 + at) st) ≡ true
  searched-row h = sound-fine (drop (8 + at) st) (remains-row (ahead c h).remains).0.row

  pub searched-within : at < used_of st → at + row_size (drop (8 + at) st) ≤ used_of st
  searched-within h = (remains-row (ahead c h).remains).1

  key_here : (h : at < used_of st) → key_of (drop (8 + at) st) ≡ (ahead c h).first.key
  unfolding entry_of
  key_here h = ap (λ (e : Entry). e.key) (remains-row (ahead c h).remains).0.entry

  pub searched-less : at < used_of st → order (key_of (drop (8 + at) st)) k ≡ Less
      → Searched st k (at + row_size (drop (8 + at) st))
  unfolding store_charge
  searched-less h o =
      let a = ahead c h in
      let b : before a.first.key k ≡ true = rw (key_here h) at (order-less (key_of (drop (8 + at) st)) k o) in
      let z = row-size (remains-row a.remains).0 in
      let l : store_charge (lower k (store_of st)) ≡ at + store_charge (a.first ∷ lower k a.others) =
      rw (lower-before k a.first a.others b) at a.same-lower in
      record {
        rest = a.others;
        remains = remains-next a.remains;
        same-lower = omega arith;
        same-lookup = a.same-lookup ∙ lookup-before k a.first a.others b;
      }

  pub searched-equal : at < used_of st → order (key_of (drop (8 + at) st)) k ≡ Equal
      → Found st k at (row_size (drop (8 + at) st))
  unfolding store_charge charge
  searched-equal h o =
      let a = ahead c h in
      let q : a.first.key ≡ k = sym (key_here h) ∙ order-equal (key_of (drop (8 + at) st)) k o in
      let l : length a.first.key ≡ length k = ap length q in
      let z = row-size (remains-row a.remains).0 in
      record {
        offset = sym (rw (lower-same k a.first a.others q, add-zero at) at a.same-lower);
        size = rw (a.same-lookup, lookup-same k a.first a.others q) (omega arith);
      }

  pub searched-greater : at < used_of st → order (key_of (drop (8 + at) st)) k ≡ Greater → Found st k at 0
  unfolding store_charge charge
  searched-greater h o =
      let a = ahead c h in
      let b : before k a.first.key ≡ true = rw (key_here h) at (order-greater (key_of (drop (8 + at) st)) k o) in
      let f = after-behind k a.first a.others a.remains.ascending b in
      record {
        offset = sym (rw (lower-behind k a.first a.others b, add-zero at) at a.same-lower);
        size = rw (a.same-lookup, lookup-after k (a.first ∷ a.others) f);
      }

  pub searched-end : used_of st ≤ at → Found st k at 0
  unfolding store_charge charge lower lookup
  searched-end h = go c.rest c.remains c.same-lower c.same-lookup
    where
      go : (es : Store) → Remains st at es → store_charge (lower k (store_of st)) ≡ at + store_charge (lower k es)
          → lookup k (store_of st) ≡ lookup k es → Found st k at 0
      go [] r l e = record { offset = sym (rw (add-zero at) at l); size = rw e }
      go (e ∷ es) r l q = absurd (omega (arith, (remains-row r).1, r.within))

-- ---- where a search begins

-- at the front
pub start-front : (st k : Bytes) → Start st k 0
unfolding AllBefore store_charge
start-front st k =
    record { boundary = record { front = []; rest = store_of st; whole = refl; place = refl }; in-front = tt }

after-within : (j : Bytes) (es : Store) (e : Entry) (fs : Store) → After j (es ++ (e ∷ fs)) → before j e.key ≡ true
unfolding After
after-within j [] e fs a = a.0
after-within j (x ∷ es) e fs a = after-within j es e fs a.1

all-before : (k : Bytes) (es : Store) (e : Entry) (fs : Store) → Ascending (es ++ (e ∷ fs))
    → before e.key k ≡ true → AllBefore k es
unfolding AllBefore Ascending
all-before k [] e fs a b = tt
all-before k (x ∷ es) e fs a b =
    (before-trans x.key e.key k (after-within x.key es e fs a.0) b, all-before k es e fs a.1 b)

-- a row begins at a boundary before the end of what is used
record RowHere (st : Bytes) (at : ℕ) (b : Boundary (store_of st) at) : Type 0 where
  pub first : Entry
  pub others : Store
  pub cons : b.rest ≡ first ∷ others
  pub row : RowOf st at first

row_here : (st : Bytes) {at : ℕ} → store_fine st ≡ true → (b : Boundary (store_of st) at) → at < used_of st
    → RowHere st at b
row_here st {at} f b h =
    let r : Remains st at b.rest = rw b.place (remains-behind b.front b.rest f b.whole) in
    let m = remains-more b.rest r h in
    record { first = m.first; others = m.rest; cons = m.cons; row = row_first (rw m.cons at r) }

module _ (st : Bytes) {at : ℕ} (f : store_fine st ≡ true) (b : Boundary (store_of st) at) where
  pub row_at : at < used_of st → row_fine (drop (8 + at) st) ≡ true
  row_at h = (row_here st f b h).row.fine

  -- at a row whose key comes before k
  pub start-at : {k : Bytes} → row_before st k at ≡ true → Start st k at
  unfolding row_before
  start-at {k} e =
      let h = ltb-true at (used_of st) (and_left (ltb at (used_of st)) _ e) in
      let r = row_here st f b h in
      let q : before r.first.key k ≡ true = rw r.row.key at (and_right (ltb at (used_of st)) _ e) in
      let w : store_of st ≡ b.front ++ (r.first ∷ r.others) = rw r.cons at b.whole in
      let a : Ascending (b.front ++ (r.first ∷ r.others)) = rw w at (ascending-store_of st f) in
      record { boundary = b; in-front = all-before k b.front r.first r.others a q }

-- ---- an order that is Less

less-cond : (b c : Bool) → is_lt (cond b Less (cond c Equal Greater)) ≡ b
less-cond true c = refl
less-cond false true = refl
less-cond false false = refl

pub is_lt_order : (s t : Bytes) → is_lt (order s t) ≡ before s t
unfolding order
is_lt_order s t = less-cond (before s t) (same s t)
