-- Laws of an index of the store: an index of zeros is one of every store, and what becomes of an index where a row is
-- changed.
use mathlib.Core.Path.{◌≡◌, refl, sym, ap, ◌∙◌}
use mathlib.Core.List.{List, [], ◌∷◌, ◌++◌, append_assoc}
use mathlib.Core.Bool.{true}
use mathlib.Core.Option.{Option, some, none}
use Prim.Native.Nat.{ℕ, ◌+◌, ◌-◌, ◌≤◌, ◌<◌}
use native.Mathlib.Omega.{arith}
use borrow.Author.Tests.{leb-true, leb-false, eqb-true, eqb-false}
use lib.Dec.{leb, eqb}
use lib.ListN.{length, drop, get_or, set, length-set, replicate, length-replicate, get_or-replicate}
use lib.Seq.{get_or-set_same, get_or-set_other}
use Rattle.octets.specs.Octets.{Bytes}
use Rattle.model.specs.Store.{Entry, Store, lookup, store_after_write, store_charge}
use Rattle.model.proofs.Tests.{either}
use Rattle.store.specs.Region.{store_fine, store_of}
use Rattle.store.specs.Operation.{lower, charge, Found}
use Rattle.store.specs.Index.{Boundary, Indexes, moved, Movable, Moved}
use Rattle.store.proofs.Region.{represents, ascending-store_of, charge-store_of}
use Rattle.store.proofs.Split.{entry, own, charge-own, Split, split, store_after_write-split}
use Rattle.store.proofs.Split.{charge-append, charge-parts, charge-whole}

-- ---- an index of zeros

zero-boundary : (es : Store) {at : ℕ} → Boundary [] at → Boundary es at
unfolding store_charge
zero-boundary es b = go b.front b.whole b.place
  where
    go : (front : Store) {at : ℕ} → [] ≡ front ++ b.rest → at ≡ store_charge front → Boundary es at
    go [] w p = record { front = []; rest = es; whole = refl; place = p }
    go (e ∷ front) w p = absurd (omega (arith, ap length w))

pub zeros-indexed : (n : ℕ) → Indexes [] (replicate n 0)
unfolding store_charge
zeros-indexed n =
    record {
      each = λ i h.
          let l = length-replicate {A = ℕ} n 0 in
          record { front = []; rest = []; whole = refl; place = get_or-replicate n i 0 0 (omega arith) };
    }

pub unindexed : (es : Store) (index : List ℕ) → Indexes [] index → Indexes es index
unindexed es index x = record { each = λ i h. zero-boundary es (x.each i h) }

-- one offset more
pub indexes-set : {es : Store} {index : List ℕ} {at : ℕ} (n : ℕ) → Indexes es index → Boundary es at
    → Indexes es (set index n at)
indexes-set {es} {index} {at} n x b =
    record {
      each = λ i h.
          let l : i < length index = omega (arith, length-set index n at) in
          either (eqb i n)
          (λ e. let q : i ≡ n = eqb-true i n e in
          rw (q, get_or-set_same index n at 0 (omega arith)) b)
          (λ e. rw (get_or-set_other index n i at 0 (eqb-false i n e)) (x.each i l));
    }

-- ---- two fronts of one store

-- the longer of two fronts is the shorter and what is between them
record Between (short back long rest : Store) : Type 0 where
  pub middle : Store
  pub longer : long ≡ short ++ middle
  pub behind : back ≡ middle ++ rest

after_first : {short back long rest : Store} (x : Entry) {y : Entry} → y ≡ x → Between short back long rest
    → Between (x ∷ short) back (y ∷ long) rest
after_first x q b =
    record { middle = b.middle; longer = rw q (ap (λ (l : Store). x ∷ l) b.longer); behind = b.behind }

fronts : (short back long rest : Store) → short ++ back ≡ long ++ rest → store_charge short ≤ store_charge long
    → Between short back long rest
unfolding store_charge
fronts [] back long rest e h = record { middle = long; longer = refl; behind = e }
fronts (x ∷ short) back [] rest e h = absurd (omega arith)
fronts (x ∷ short) back (y ∷ long) rest e h =
    let q : x ≡ y = ap (λ (l : Store). get_or l 0 x) e in
    let k : length x.key ≡ length y.key = ap (λ (z : Entry). length z.key) q in
    let v : length x.value ≡ length y.value = ap (λ (z : Entry). length z.value) q in
    after_first x (sym q) (fronts short back long rest (ap (drop 1) e) (omega arith))

-- what charges less than the key's own entry, and stands where that does, is nothing
none_inside : (k : Bytes) (o : Option Bytes) (upper middle rest : Store) → own k o ++ upper ≡ middle ++ rest
    → store_charge middle < charge k o → store_charge middle ≡ 0
unfolding own charge store_charge
none_inside k o upper [] rest e h = refl
none_inside k none upper (m ∷ middle) rest e h = absurd (omega arith)
none_inside k (some v) upper (m ∷ middle) rest e h =
    let q : entry k v ≡ m = ap (λ (l : Store). get_or l 0 m) e in
    let a : length k ≡ length m.key = ap (λ (z : Entry). length z.key) q in
    let b : length v ≡ length m.value = ap (λ (z : Entry). length z.value) q in
    absurd (omega arith)

-- ---- an index after a WRITE

module _ (k : Bytes) (v : Option Bytes) {es : Store} (s : Split k es) {a : ℕ} (b : Boundary es a) where
  abbrev here : ℕ
  here = store_charge (lower k es)

  abbrev old : ℕ
  old = charge k (lookup k es)

  abbrev former : Store
  former = lower k es ++ own k (lookup k es)

  -- an offset behind the key's row
  boundary-behind : here + old ≤ a → Boundary (store_after_write k v es) (a - old + charge k v)
  boundary-behind h =
      let c : store_charge former ≡ here + old =
      charge-append (lower k es) (own k (lookup k es)) ∙ ap (λ (n : ℕ). here + n) (charge-own k (lookup k es)) in
      let p = b.place in
      let w : former ++ s.upper ≡ b.front ++ b.rest =
      append_assoc (lower k es) (own k (lookup k es)) s.upper ∙ sym s.whole ∙ b.whole in
      let m = fronts former s.upper b.front b.rest w (omega arith) in
      let f : store_charge b.front ≡ here + old + store_charge m.middle =
      ap store_charge m.longer ∙ charge-append former m.middle ∙ ap (λ (n : ℕ). n + store_charge m.middle) c in
      let g : store_charge (lower k es ++ (own k v ++ m.middle)) ≡ here + (charge k v + store_charge m.middle) =
      charge-parts k es m.middle v in
      record {
        front = lower k es ++ (own k v ++ m.middle);
        rest = b.rest;
        whole =
            store_after_write-split s v
            ∙ ap (λ (l : Store). lower k es ++ (own k v ++ l)) m.behind
            ∙ ap (λ (l : Store). lower k es ++ l) (sym (append_assoc (own k v) m.middle b.rest))
            ∙ sym (append_assoc (lower k es) (own k v ++ m.middle) b.rest);
        place = omega arith;
      }

  -- an offset at the key's row or before it
  boundary-before : a ≤ here → Boundary (store_after_write k v es) a
  boundary-before h =
      let p = b.place in
      let w : b.front ++ b.rest ≡ lower k es ++ (own k (lookup k es) ++ s.upper) = sym b.whole ∙ s.whole in
      let m = fronts b.front b.rest (lower k es) (own k (lookup k es) ++ s.upper) w (omega arith) in
      record {
        front = b.front;
        rest = m.middle ++ (own k v ++ s.upper);
        whole =
            store_after_write-split s v
            ∙ ap (λ (l : Store). l ++ (own k v ++ s.upper)) m.longer
            ∙ append_assoc b.front m.middle (own k v ++ s.upper);
        place = p;
      }

  -- no offset is within it
  boundary-apart : a < here + old → a ≤ here
  boundary-apart h =
      either (leb a here)
      (λ e. leb-true a here e)
      (λ e.
      let l = leb-false a here e in
      let p = b.place in
      let w : lower k es ++ (own k (lookup k es) ++ s.upper) ≡ b.front ++ b.rest = sym s.whole ∙ b.whole in
      let m = fronts (lower k es) (own k (lookup k es) ++ s.upper) b.front b.rest w (omega arith) in
      let f : store_charge b.front ≡ here + store_charge m.middle =
      ap store_charge m.longer ∙ charge-append (lower k es) m.middle in
      let z = none_inside k (lookup k es) s.upper m.middle b.rest m.behind (omega arith) in
      omega arith)

  boundary-moved : Boundary (store_after_write k v es) (moved here old (charge k v) a)
  unfolding moved
  boundary-moved =
      either (leb (here + old) a)
      (λ e. rw e (boundary-behind (leb-true (here + old) a e)))
      (λ e. rw e (boundary-before (boundary-apart (leb-false (here + old) a e))))

-- A WRITE of the key whose row is at a place leaves an index of the store that it makes, once the offsets are moved.
pub indexes-moved : {st k : Bytes} {at old : ℕ} {index index' : List ℕ} (v : Option Bytes) → store_fine st ≡ true
    → Found st k at old → Indexes (store_of st) index → Moved index at old (charge k v) index'
    → Indexes (store_after_write k v (store_of st)) index'
indexes-moved {st} {k} {at} {old} {index} {index'} v f d x m =
    let s = split k (store_of st) (ascending-store_of st f) in
    record {
      each = λ i h.
          let l : i < length index = omega (arith, m.size) in
          rw (m.each i l, d.offset, d.size) (boundary-moved k v s (x.each i l));
    }

-- The numbers of an index and of a key's row are small enough to add.
pub indexes-movable : {st k : Bytes} {at old new : ℕ} {index : List ℕ} → store_fine st ≡ true → Found st k at old
    → Indexes (store_of st) index → length st < 9223372036854775808 → new < 9223372036854775808
    → Movable index at old new
indexes-movable {st} {k} {at} {old} {new} {index} f d x l n =
    let r = (represents st f).long in
    let s = split k (store_of st) (ascending-store_of st f) in
    let w = charge-whole s in
    let u = charge-store_of st f in
    record {
      end-small = omega (arith, d.offset, d.size);
      new-small = n;
      offsets-small = λ i h.
          let b = x.each i h in
          let c : store_charge (store_of st) ≡ store_charge b.front + store_charge b.rest =
          ap store_charge b.whole ∙ charge-append b.front b.rest in
          omega (arith, b.place);
    }
