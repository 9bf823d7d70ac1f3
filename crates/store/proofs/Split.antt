-- An ascending store around a key: the entries before it, its own entry or none, and those after it. So what `put`
-- and `remove` make of the store is told by its parts.
use mathlib.Core.Path.{◌≡◌, refl, sym, ap, ◌∙◌}
use mathlib.Core.List.{[], ◌∷◌, ◌++◌}
use mathlib.Core.Bool.{true, false}
use mathlib.Core.Option.{Option, some, none}
use Prim.Native.Nat.{ℕ, zero, suc, ◌+◌, ◌≤◌, ◌<◌}
use native.Mathlib.Nat.{zero-add}
use native.Mathlib.Omega.{arith}
use borrow.Author.Tests.{leb-true, leb-false, le-leb, lt-leb}
use lib.Dec.{leb}
use lib.ListN.{length, length-append}
use Rattle.octets.specs.Octets.{Bytes}
use Rattle.octets.specs.Order.{same, before, order}
use Rattle.std.proofs.Common.{Ordering}
use Rattle.std.proofs.Common.{Less, Equal, Greater}
use Rattle.octets.proofs.Orders.{Ordered, less, equal, greater, ordered, same_refl, ne_same, before-irrefl, before-asym}
use Rattle.model.specs.Store.{Entry, Store, lookup, put, remove, store_after_write, store_charge, store_fits}
use Rattle.model.specs.Invariant.{After, Ascending}
use Rattle.model.proofs.Tests.{either, never}
use Rattle.model.proofs.Stores.{after-trans, lookup-after}
use Rattle.store.specs.Operation.{lower, charge, row_count, fits_with}

abbrev pub entry : Bytes → Bytes → Entry
entry k v = record { key = k; value = v }

-- a row that is there is one
pub row_count-some : (n : ℕ) → 0 < n → row_count n ≡ 1
row_count-some zero h = absurd (omega arith)
row_count-some (suc n) h = refl

pub same-before : (k l : Bytes) → before k l ≡ true → same k l ≡ false
same-before k l b = ne_same k l (λ e. never (sym b ∙ rw e (before-irrefl l)))

pub same-behind : (k l : Bytes) → before k l ≡ true → same l k ≡ false
same-behind k l b = ne_same l k (λ e. never (sym b ∙ rw e (before-irrefl k)))

pub remove-after : (k : Bytes) (es : Store) → After k es → remove k es ≡ es
unfolding After remove
remove-after k [] a = refl
remove-after k (e ∷ es) a = rw (same-before k e.key a.0, remove-after k es a.1)

-- ---- by the first entry

module _ (k : Bytes) (e : Entry) (es : Store) where
  pub lower-before : before e.key k ≡ true → lower k (e ∷ es) ≡ e ∷ lower k es
  unfolding lower
  lower-before b = rw b

  pub lookup-before : before e.key k ≡ true → lookup k (e ∷ es) ≡ lookup k es
  unfolding lookup
  lookup-before b = rw (same-behind e.key k b)

  pub lower-same : e.key ≡ k → lower k (e ∷ es) ≡ []
  unfolding lower
  lower-same q = rw (q, before-irrefl k)

  pub lookup-same : e.key ≡ k → lookup k (e ∷ es) ≡ some e.value
  unfolding lookup
  lookup-same q = rw (q, same_refl k)

  pub lower-behind : before k e.key ≡ true → lower k (e ∷ es) ≡ []
  unfolding lower
  lower-behind b = rw (before-asym k e.key b)

  pub after-behind : Ascending (e ∷ es) → before k e.key ≡ true → After k (e ∷ es)
  unfolding After Ascending
  after-behind a b = (b, after-trans k e.key es b a.0)

-- ---- the parts

-- the key's own entry with this value, or nothing
unfoldable pub own : Bytes → Option Bytes → Store
own k none = []
own k (some v) = entry k v ∷ []

pub charge-own : (k : Bytes) (v : Option Bytes) → store_charge (own k v) ≡ charge k v
unfolding own store_charge charge
charge-own k none = refl
charge-own k (some v) = omega arith

pub length-own : (k : Bytes) (v : Option Bytes) → length (own k v) ≡ row_count (charge k v)
unfolding own charge
length-own k none = refl
length-own k (some v) = sym (row_count-some (8 + length k + length v) (omega arith))

-- the store is the entries before the key, its own entry or none, and those behind; a WRITE changes only the own entry
pub record Split (k : Bytes) (es : Store) : Type 0 where
  pub upper : Store
  pub whole : es ≡ lower k es ++ (own k (lookup k es) ++ upper)
  pub put-split : (v : Bytes) → put k v es ≡ lower k es ++ (entry k v ∷ upper)
  pub remove-split : remove k es ≡ lower k es ++ upper

split-before : (k : Bytes) (e : Entry) (es : Store) → before e.key k ≡ true → Split k es → Split k (e ∷ es)
unfolding put remove
split-before k e es b s =
    let n : before k e.key ≡ false = before-asym e.key k b in
    let d : same k e.key ≡ false = same-behind e.key k b in
    record {
      upper = s.upper;
      whole = rw (lookup-before k e es b, lower-before k e es b) (ap (λ (l : Store). e ∷ l) s.whole);
      put-split = λ v. rw (lower-before k e es b, n, d, s.put-split v);
      remove-split = rw (lower-before k e es b, d, s.remove-split);
    }

split-same : (k : Bytes) (e : Entry) (es : Store) → Ascending (e ∷ es) → e.key ≡ k → Split k (e ∷ es)
unfolding put remove own Ascending
split-same k e es a q =
    let n : before k e.key ≡ false = rw q (before-irrefl k) in
    let d : same k e.key ≡ true = rw q (same_refl k) in
    record {
      upper = es;
      whole = rw (lower-same k e es q, lookup-same k e es q) (ap (λ (x : Bytes). entry x e.value ∷ es) q);
      put-split = λ v. rw (lower-same k e es q, n, d);
      remove-split = rw (lower-same k e es q, d) (remove-after k es (rw q at a.0));
    }

split-behind : (k : Bytes) (e : Entry) (es : Store) → Ascending (e ∷ es) → before k e.key ≡ true → Split k (e ∷ es)
unfolding put remove own
split-behind k e es a b =
    let f = after-behind k e es a b in
    record {
      upper = e ∷ es;
      whole = rw (lower-behind k e es b, lookup-after k (e ∷ es) f);
      put-split = λ v. rw (lower-behind k e es b, b);
      remove-split = rw (lower-behind k e es b) (remove-after k (e ∷ es) f);
    }

pub split : (k : Bytes) (es : Store) → Ascending es → Split k es
unfolding lower lookup put remove own Ascending
split k [] a = record { upper = []; whole = refl; put-split = λ v. refl; remove-split = refl }
split k (e ∷ es) a = go (split k es a.1) (order e.key k) (ordered e.key k)
  where
    go : Split k es → (o : Ordering) → Ordered e.key k o → Split k (e ∷ es)
    go s Less (less b) = split-before k e es b s
    go s Equal (equal q) = split-same k e es a q
    go s Greater (greater b) = split-behind k e es a b

-- what a WRITE makes of the store, told by its parts
pub store_after_write-split : {k : Bytes} {es : Store} (s : Split k es) (v : Option Bytes)
    → store_after_write k v es ≡ lower k es ++ (own k v ++ s.upper)
unfolding store_after_write own
store_after_write-split s none = s.remove-split
store_after_write-split s (some v) = s.put-split v

pub charge-append : (es fs : Store) → store_charge (es ++ fs) ≡ store_charge es + store_charge fs
unfolding store_charge
charge-append [] fs = sym (zero-add (store_charge fs))
charge-append (e ∷ es) fs = let h = charge-append es fs in omega arith

-- what a store and the store after a WRITE charge and count, by parts
module _ (k : Bytes) (es us : Store) (v : Option Bytes) where
  pub charge-parts
      : store_charge (lower k es ++ (own k v ++ us)) ≡ store_charge (lower k es) + (charge k v + store_charge us)
  charge-parts = rw (charge-append (lower k es) (own k v ++ us), charge-append (own k v) us, charge-own k v)

  pub length-parts : length (lower k es ++ (own k v ++ us)) ≡ length (lower k es) + (row_count (charge k v) + length us)
  length-parts = rw (length-append (lower k es) (own k v ++ us), length-append (own k v) us, length-own k v)

module _ {k : Bytes} {es : Store} (s : Split k es) where
  pub charge-whole : store_charge es ≡ store_charge (lower k es) + (charge k (lookup k es) + store_charge s.upper)
  charge-whole = ap store_charge s.whole ∙ charge-parts k es s.upper (lookup k es)

  pub length_whole : length es ≡ length (lower k es) + (row_count (charge k (lookup k es)) + length s.upper)
  length_whole = ap length s.whole ∙ length-parts k es s.upper (lookup k es)

  pub charge-after : (v : Option Bytes)
      → store_charge (store_after_write k v es) ≡ store_charge (lower k es) + (charge k v + store_charge s.upper)
  charge-after v = ap store_charge (store_after_write-split s v) ∙ charge-parts k es s.upper v

  pub length-after : (v : Option Bytes)
      → length (store_after_write k v es) ≡ length (lower k es) + (row_count (charge k v) + length s.upper)
  length-after v = ap length (store_after_write-split s v) ∙ length-parts k es s.upper v

-- ---- whether it fits

leb-alike : (a b c d : ℕ) → (a ≤ b → c ≤ d) → (c ≤ d → a ≤ b) → leb a b ≡ leb c d
leb-alike a b c d f g =
    either (leb a b)
    (λ e. rw (e, le-leb c d (f (leb-true a b e))))
    (λ e. rw (e, lt-leb c d (over e)))
  where
    over : leb a b ≡ false → d < c
    over e =
        either (leb c d)
        (λ q. let h = leb-false a b e in absurd (omega (arith, g (leb-true c d q))))
        (λ q. leb-false c d q)

-- The test on numbers is the simple server's test of the store after the WRITE, for the sizes of the old and the new
-- row.
pub fits_with-store_fits : (S : ℕ) (k : Bytes) (v : Option Bytes) (es : Store) → Ascending es
    → fits_with S (store_charge es) (length es) (charge k (lookup k es)) (charge k v)
    ≡ store_fits S (store_after_write k v es)
unfolding fits_with store_fits
fits_with-store_fits S k v es a =
    let s = split k es a in
    let u = charge-whole s in
    let n = length_whole s in
    let c = charge-after s v in
    let l = length-after s v in
    let old = charge k (lookup k es) in
    let after = store_after_write k v es in
    let room =
    leb-alike (store_charge es + charge k v) (S + old) (store_charge after) S (λ h. omega arith) (λ h. omega arith) in
    let few =
    leb-alike (length es + row_count (charge k v)) (1024 + row_count old) (length after) 1024
    (λ h. omega arith) (λ h. omega arith) in
    rw (room, few)

-- what a store charges and counts after a WRITE: the old row for the new one
pub charge-exchange : (k : Bytes) (v : Option Bytes) (es : Store) → Ascending es
    → store_charge (store_after_write k v es) + charge k (lookup k es) ≡ store_charge es + charge k v
charge-exchange k v es a =
    let s = split k es a in
    omega (arith, charge-whole s, charge-after s v)

pub length-exchange : (k : Bytes) (v : Option Bytes) (es : Store) → Ascending es
    → length (store_after_write k v es) + row_count (charge k (lookup k es)) ≡ length es + row_count (charge k v)
length-exchange k v es a =
    let s = split k es a in
    omega (arith, length_whole s, length-after s v)
