-- The laws of the region: its rules, a cell, one cell more.
use mathlib.Core.Path.{◌≡◌, refl, sym, ap, ◌∙◌}
use mathlib.Core.List.{List, [], ◌∷◌, ◌++◌}
use mathlib.Core.Bool.{Bool, true, false, ◌&&◌, true≢false}
use Prim.Native.Nat.{ℕ, zero, suc, ◌+◌, ◌*◌, ◌≤◌, ◌<◌}
use native.Mathlib.Nat.{add-zero}
use native.Mathlib.Omega.{arith}
use lib.Dec.{eqb, leb}
use lib.ListN.{length, drop, get_or}
use lib.Seq.{sets, sets-eq, drop-drop, take-append_seam}
use borrow.Author.Tests.{eqb-true, eq-eqb, leb-true, le-leb}
use Rattle.octets.specs.Octets.{Bytes}
use Rattle.octets.specs.Part.{part}
use Rattle.octets.specs.Number.{number_at}
use Rattle.octets.specs.Table.{rows}
use Rattle.octets.proofs.Parts.{part-part, get_d_part}
use Rattle.octets.proofs.Tables.{length-rows}
use Rattle.subscriptions.specs.Promises.{CellOf}
use Rattle.subscriptions.specs.Region.{cell, cell_at, count_of, patterns_of, subscriptions_fine}

-- ---- the rules

pub record Rules (s : Bytes) : Type 0 where
  pub size : length s ≡ 4100
  pub few : count_of s ≤ 16

and_both : (a b : Bool) → a && b ≡ true → (a ≡ true) × (b ≡ true)
and_both true b e = (refl, e)
and_both false b e = absurd (true≢false (sym e))

pub fine-rules : {s : Bytes} → subscriptions_fine s ≡ true → Rules s
unfolding subscriptions_fine
fine-rules {s} h =
    let p = and_both (eqb (length s) 4100) (leb (count_of s) 16) h in
    record { size = eqb-true (length s) 4100 p.0; few = leb-true (count_of s) 16 p.1 }

pub rules-fine : {s : Bytes} → Rules s → subscriptions_fine s ≡ true
unfolding subscriptions_fine
rules-fine {s} w = rw (eq-eqb (length s) 4100 w.size, le-leb (count_of s) 16 w.few)

pub length-patterns_of : (s : Bytes) → length (patterns_of s) ≡ count_of s
unfolding patterns_of
length-patterns_of s = length-rows cell 256 (count_of s) (drop 4 s)

pub fine-size : (s : Bytes) → subscriptions_fine s ≡ true → length s ≡ 4100
fine-size s h = (fine-rules h).size

pub few-patterns : (s : Bytes) → subscriptions_fine s ≡ true → length (patterns_of s) ≤ 16
few-patterns s h = omega (arith, length-patterns_of s, (fine-rules h).few)

pub number-patterns : (s : Bytes) (n : ℕ) → n ≡ number_at 4 s 0 → n ≡ length (patterns_of s)
unfolding count_of
number-patterns s n e = e ∙ sym (length-patterns_of s)

-- what the readers of the number of patterns rest on
pub ruleset sizes = (fine-size, few-patterns, number-patterns)

-- ---- one cell

pub cell_of : (s : Bytes) (i : ℕ) → subscriptions_fine s ≡ true → i < length (patterns_of s) → CellOf s i
cell_of s i h l =
    let w = fine-rules h in
    record { size = w.size; index = omega (arith, w.few, length-patterns_of s) }

-- the cell by its length byte, found in the list
pub cell_at-part : (s : Bytes) (i : ℕ) → get_or s (4 + i * 256) 0 < 256
    → cell_at s i ≡ part s (4 + i * 256 + 1) (get_or s (4 + i * 256) 0)
unfolding cell_at cell
cell_at-part s i h =
    let at : ℕ = 4 + i * 256 in
    let e : get_or (part s at 256) 0 0 ≡ get_or s at 0 = rw (add-zero at) at (get_d_part s at 256 0 (omega arith)) in
    rw e (part-part s at 256 1 (get_or s at 0) (omega arith))

-- a length byte and a pattern, whatever stands behind
pub cell-sets : (c p : Bytes) → length p + 1 ≤ length c → cell (sets c 0 (length p ∷ p)) ≡ p
unfolding cell
cell-sets c p h =
    let l : 0 + length (length p ∷ p) ≤ length c = omega arith in
    rw (sets-eq (length p ∷ p) c 0 l) (take-append_seam p _)

-- ---- the cells in a row

module _ (s : Bytes) where
  pub rows-cons : (n i : ℕ)
      → rows cell 256 (suc n) (drop (4 + i * 256) s) ≡ cell_at s i ∷ rows cell 256 n (drop (4 + (i + 1) * 256) s)
  unfolding rows cell_at
  rows-cons n i =
      let e : 4 + i * 256 + 256 ≡ 4 + (i + 1) * 256 = omega arith in
      ap (λ (t : Bytes). cell (part s (4 + i * 256) 256) ∷ rows cell 256 n t)
      (drop-drop 256 (4 + i * 256) s ∙ ap (λ (k : ℕ). drop k s) e)

  pub rows_snoc : (n i : ℕ)
      → rows cell 256 (suc n) (drop (4 + i * 256) s) ≡ rows cell 256 n (drop (4 + i * 256) s) ++ (cell_at s (i + n) ∷ [])
  unfolding rows
  rows_snoc zero i = rows-cons zero i ∙ rw (add-zero i)
  rows_snoc (suc n) i =
      let e : i + suc n ≡ i + 1 + n = omega arith in
      rows-cons (suc n) i
      ∙ ap (λ (t : List Bytes). cell_at s i ∷ t) (rows_snoc n (i + 1))
      ∙ rw e (ap (λ (t : List Bytes). t ++ (cell_at s (i + 1 + n) ∷ [])) (sym (rows-cons n i)))
