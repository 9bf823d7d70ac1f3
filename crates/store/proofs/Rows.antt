-- Rows in a list of bytes, one behind the other, as a relation with no count: rows behind rows, rows taken apart, and
-- the two bridges to the test and the meaning.
use mathlib.Core.Path.{◌≡◌, refl, sym, ap, ◌∙◌}
use mathlib.Core.List.{[], ◌∷◌, ◌++◌}
use mathlib.Core.Bool.{true}
use mathlib.Core.Option.{Option, some, none}
use Prim.Native.Nat.{ℕ, zero, suc, ◌+◌, ◌-◌, ◌≤◌}
use native.Mathlib.Omega.{arith}
use borrow.Author.Tests.{eqb-true, eq-eqb}
use lib.ListN.{length, take, drop, length-drop}
use lib.Seq.{take-append_seam, drop-append-le, drop-drop}
use Rattle.octets.specs.Octets.{Bytes}
use Rattle.octets.proofs.Parts.{drop-part}
use Rattle.model.specs.Store.{Entry, Store, store_charge}
use Rattle.model.specs.Invariant.{After, Ascending}
use Rattle.model.proofs.Tests.{and_left, and_right}
use Rattle.model.proofs.Stores.{after-trans}
use Rattle.store.specs.Row.{row_size, key_of, entry_of, row_fine}
use Rattle.store.specs.Region.{follows, rows_fine, entries}
use Rattle.store.proofs.RowLaws.{Sound, sound, sound-fine, row_size-charge, sound-take, entry_of-take, sound-front}

-- s has a row at its front, and the row is that of e
pub record Row (s : Bytes) (e : Entry) : Type 0 where
  pub row : Sound s
  pub entry : entry_of s ≡ e

-- s is the rows of the entries and nothing else
unfoldable pub Rows : Bytes → Store → Type 0
Rows s [] = length s ≡ 0
Rows s (e ∷ es) = Row s e × Rows (drop (row_size s) s) es

pub row-size : {s : Bytes} {e : Entry} → Row s e → row_size s ≡ 8 + length e.key + length e.value
row-size {s} {e} r = rw r.entry at (row_size-charge s r.row)

-- ---- through the front of a list

pub row-take : {s : Bytes} {e : Entry} (n : ℕ) → Row s e → row_size s ≤ n → Row (take n s) e
row-take {s} {e} n r w = record { row = sound-take s n r.row w; entry = entry_of-take s n r.row w ∙ r.entry }

pub row-front : (s : Bytes) {e : Entry} (n : ℕ) → Row (take n s) e → Row s e × (row_size s ≤ n)
row-front s n r =
    let f = sound-front s n r.row in
    (record { row = f.0; entry = sym (entry_of-take s n f.0 f.1) ∙ r.entry }, f.1)

pub row-append : {s : Bytes} {e : Entry} (t : Bytes) → Row s e → Row (s ++ t) e
row-append {s} {e} t r = (row-front (s ++ t) {e = e} (length s) (rw (take-append_seam s t) r)).0

-- the size of a row does not change with what is behind it
pub row-alike : {s t : Bytes} {e : Entry} → Row s e → Row t e → row_size t ≡ row_size s
row-alike {s} {t} r q = omega (arith, row-size r, row-size q)

-- ---- length

length-zero : (s : Bytes) → length s ≡ 0 → s ≡ []
length-zero [] e = refl
length-zero (b ∷ s) e = absurd (omega arith)

pub length-rows : (s : Bytes) (es : Store) → Rows s es → length s ≡ store_charge es
unfolding Rows store_charge
length-rows s [] r = r
length-rows s (e ∷ es) r =
    let l = length-rows (drop (row_size s) s) es r.1 in
    let d = length-drop (row_size s) s in
    omega (arith, row-size r.0, r.0.row.whole)

-- ---- rows behind rows, and rows taken apart

pub rows_append : (s t : Bytes) (es fs : Store) → Rows s es → Rows t fs → Rows (s ++ t) (es ++ fs)
unfolding Rows
rows_append s t [] fs r q = rw (length-zero s r) q
rows_append s t (e ∷ es) fs r q =
    let a = row-append t r.0 in
    let w = r.0.row.whole in
    (a, rw (row-alike r.0 a, drop-append-le (row_size s) s t w) (rows_append (drop (row_size s) s) t es fs r.1 q))

-- the rows at the front
pub rows-front : (s : Bytes) (es fs : Store) → Rows s (es ++ fs) → Rows (take (store_charge es) s) es
unfolding Rows store_charge
rows-front s [] fs r = refl
rows-front s (e ∷ es) fs r =
    let c = store_charge es in
    let k : row_size s + c ≡ 8 + length e.key + length e.value + c = ap (λ (x : ℕ). x + c) (row-size r.0) in
    let a : Row (take (row_size s + c) s) e = row-take (row_size s + c) r.0 (omega arith) in
    let i : 0 + row_size s ≡ row_size s = omega arith in
    let j : row_size s + c - row_size s ≡ c = omega arith in
    let d : drop (row_size s) (take (row_size s + c) s) ≡ take c (drop (row_size s) s) =
    rw (i, j) at (drop-part s 0 (row_size s + c) (row_size s)) in
    rw (← k) (a, rw (row-alike r.0 a, d) (rows-front (drop (row_size s) s) es fs r.1))

-- the rows behind them
pub rows_behind : (s : Bytes) (es fs : Store) → Rows s (es ++ fs) → Rows (drop (store_charge es) s) fs
unfolding Rows store_charge
rows_behind s [] fs r = r
rows_behind s (e ∷ es) fs r =
    let c = store_charge es in
    let k : row_size s + c ≡ 8 + length e.key + length e.value + c = ap (λ (x : ℕ). x + c) (row-size r.0) in
    rw (← k, ← (drop-drop c (row_size s) s)) (rows_behind (drop (row_size s) s) es fs r.1)

-- ---- the bridges

-- all keys come after this one, where there is one
unfoldable pub Above : Option Bytes → Store → Type 0
Above none es = Unit {0}
Above (some j) es = After j es

pub record Ordered (p : Option Bytes) (s : Bytes) (es : Store) : Type 0 where
  pub rows : Rows s es
  pub above : Above p es
  pub ascending : Ascending es

above-nil : (p : Option Bytes) → Above p []
unfolding Above After
above-nil none = tt
above-nil (some j) = tt

above-cons : (p : Option Bytes) (e : Entry) (es : Store) → follows p e.key ≡ true → After e.key es
    → Above p (e ∷ es)
unfolding Above After follows
above-cons none e es f a = tt
above-cons (some j) e es f a = (f, after-trans j e.key es f a)

above-follows : (p : Option Bytes) (e : Entry) (es : Store) → Above p (e ∷ es) → follows p e.key ≡ true
unfolding Above After follows
above-follows none e es a = refl
above-follows (some j) e es a = a.0

-- what the test finds
pub ordered : (p : Option Bytes) (n : ℕ) (s : Bytes) → rows_fine p n s ≡ true → Ordered p s (entries n s)
unfolding rows_fine entries Rows Ascending Above entry_of
ordered p zero s e = record { rows = eqb-true (length s) 0 e; above = above-nil p; ascending = tt }
ordered p (suc n) s e =
    let f = and_left (row_fine s) _ e in
    let g = and_right (row_fine s) _ e in
    let o = ordered (some (key_of s)) n (drop (row_size s) s) (and_right (follows p (key_of s)) _ g) in
    record {
      rows = (record { row = sound s f; entry = refl }, o.rows);
      above = above-cons p (entry_of s) (entries n (drop (row_size s) s)) (and_left (follows p (key_of s)) _ g) o.above;
      ascending = (o.above, o.ascending);
    }

-- what passes the test
pub ordered-fine : (p : Option Bytes) (s : Bytes) (es : Store) → Ordered p s es → rows_fine p (length es) s ≡ true
unfolding rows_fine Rows Ascending Above entry_of
ordered-fine p s [] o = eq-eqb _ _ o.rows
ordered-fine p s (e ∷ es) o =
    let r = o.rows.0 in
    let k : key_of s ≡ e.key = ap (λ (x : Entry). x.key) r.entry in
    let rest = ordered-fine (some e.key) (drop (row_size s) s) es
    (record { rows = o.rows.1; above = o.ascending.0; ascending = o.ascending.1 }) in
    rw (sound-fine s r.row, k, above-follows p e es o.above) rest

pub entries-rows : (s : Bytes) (es : Store) → Rows s es → entries (length es) s ≡ es
unfolding Rows entries
entries-rows s [] r = refl
entries-rows s (e ∷ es) r = rw (r.0.entry, entries-rows (drop (row_size s) s) es r.1)
