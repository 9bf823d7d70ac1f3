-- Bytes part by part: numbers of four bytes in front, a part filled up with zeros, rows of one size one behind the
-- other; and what is read back from them.
use mathlib.Core.Path.{◌≡◌, refl, sym, ◌∙◌}
use mathlib.Core.List.{List, [], ◌∷◌, ◌++◌, map, append_assoc}
use Prim.Native.Nat.{ℕ, zero, suc, ◌+◌, ◌-◌, ◌*◌, ◌≤◌, ◌<◌}
use native.Mathlib.Nat.{suc-mul, zero-mul}
use native.Mathlib.Omega.{arith}
use lib.ListN.{length, take, drop, get_or, replicate, length-append, length-replicate}
use lib.Seq.{take_at, drop_at, drop-append-add, take-append_seam}
use Rattle.octets.specs.Octets.{Bytes}
use Rattle.octets.specs.Number.{number_at, big_endian}
use Rattle.octets.specs.Table.{rows}
use Rattle.octets.proofs.Numbers.{length-big_endian, number_at-back, number_at-big_endian-append}
use Rattle.model.specs.Invariant.{Each}

-- ---- numbers in front

-- the numbers of four bytes each, then s
unfoldable pub numbers_then : List ℕ → Bytes → Bytes
numbers_then [] s = s
numbers_then (v ∷ vs) s = big_endian 4 v ++ numbers_then vs s

pub length-numbers_then : (vs : List ℕ) (s : Bytes) → length (numbers_then vs s) ≡ 4 * length vs + length s
unfolding numbers_then
length-numbers_then [] s = omega arith
length-numbers_then (v ∷ vs) s = rw (length-append, length-big_endian 4 v, length-numbers_then vs s) (omega arith)

-- number i is read back where four bytes hold each
pub number_at-numbers_then : (vs : List ℕ) (s : Bytes) → Each (λ v. v < 4294967296) vs → (i : ℕ) → i < length vs
    → number_at 4 (numbers_then vs s) (4 * i) ≡ get_or vs i 0
unfolding numbers_then
number_at-numbers_then [] s h i l = absurd (omega arith)
number_at-numbers_then (v ∷ vs) s h zero l = number_at-big_endian-append 4 v (numbers_then vs s) h.0
number_at-numbers_then (v ∷ vs) s h (suc i) l =
    let e : 4 * suc i ≡ 4 + 4 * i = omega arith in
    rw e ((rw (length-big_endian 4 v) at (number_at-back 4 (big_endian 4 v) (numbers_then vs s) (4 * i)))
    ∙ number_at-numbers_then vs s h.1 i (omega arith))

pub drop-numbers_then : (vs : List ℕ) (s : Bytes) → drop (4 * length vs) (numbers_then vs s) ≡ s
unfolding numbers_then
drop-numbers_then [] s = refl
drop-numbers_then (v ∷ vs) s =
    let e : 4 * suc (length vs) ≡ 4 + 4 * length vs = omega arith in
    rw e ((rw (length-big_endian 4 v) at (drop-append-add (big_endian 4 v) (numbers_then vs s) (4 * length vs)))
    ∙ drop-numbers_then vs s)

-- ---- a part filled up

-- s, then zeros up to n bytes
unfoldable pub filled : ℕ → Bytes → Bytes
filled n s = s ++ replicate (n - length s) 0

pub length-filled : (n : ℕ) (s : Bytes) → length s ≤ n → length (filled n s) ≡ n
unfolding filled
length-filled n s h = rw (length-append, length-replicate) (omega arith)

pub take-filled : (n : ℕ) (s : Bytes) → take (length s) (filled n s) ≡ s
unfolding filled
take-filled n s = take-append_seam s _

-- ---- rows of one size

module _ {A : Type 0} (f : A → Bytes) where
  -- what f writes of each, one behind the other
  unfoldable pub table_bytes : List A → Bytes
  table_bytes [] = []
  table_bytes (a ∷ l) = f a ++ table_bytes l

module _ {A : Type 0} (f : A → Bytes) (P : A → Type 0) (size : ℕ) (sized : (a : A) → P a → length (f a) ≡ size) where
  pub length-table_bytes : (l : List A) → Each P l → length (table_bytes f l) ≡ length l * size
  unfolding table_bytes
  length-table_bytes [] h = sym (zero-mul size)
  length-table_bytes (a ∷ l) h =
      rw (length-append, sized a h.0, length-table_bytes l h.1, suc-mul (length l) size) (omega arith)

  -- what g reads of each row
  pub rows-table_bytes : {B : Type 0} (g : Bytes → B) (r : A → B) → ((a : A) → P a → g (f a) ≡ r a)
      → (l : List A) (t : Bytes) → Each P l → rows g size (length l) (table_bytes f l ++ t) ≡ map r l
  unfolding table_bytes rows
  rows-table_bytes g r reads [] t h = refl
  rows-table_bytes g r reads (a ∷ l) t h =
      let s : Bytes = f a in
      let e : (s ++ table_bytes f l) ++ t ≡ s ++ (table_bytes f l ++ t) = append_assoc s (table_bytes f l) t in
      let front : take size ((s ++ table_bytes f l) ++ t) ≡ s =
      rw e (take_at s (table_bytes f l ++ t) size (sized a h.0)) in
      let back : drop size ((s ++ table_bytes f l) ++ t) ≡ table_bytes f l ++ t =
      rw e (drop_at s (table_bytes f l ++ t) size (sized a h.0)) in
      rw (front, back, reads a h.0, rows-table_bytes g r reads l t h.1)
