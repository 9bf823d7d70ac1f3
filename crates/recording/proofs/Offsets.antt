-- The laws of offsets: where each row begins, which action it is, and which actions lie before it.
use mathlib.Core.Path.{◌≡◌, refl, sym, ap}
use mathlib.Core.List.{List, ◌∷◌}
use mathlib.Core.Bool.{true}
use Prim.Native.Nat.{ℕ, zero, suc, ◌+◌, ◌-◌, ◌≤◌, ◌<◌}
use native.Mathlib.Nat.{sub-zero, add-sub_cancel_left}
use native.Mathlib.Omega.{arith}
use lib.ListN.{length, take, drop, get_or, length-drop}
use lib.Seq.{drop-drop}
use borrow.Author.Tests.{ne_eqb}
use Rattle.octets.specs.Octets.{Bytes}
use Rattle.protocol.specs.Terms.{Action}
use Rattle.recording.specs.Encoding.{row_size, action_at}
use Rattle.recording.specs.Encoding.{actions_from, offset_of, rows_fine}
use Rattle.recording.specs.Turn.{actions_before}
use Rattle.recording.proofs.Packed.{row_fine-whole, first-row, other-rows, no_rows}

-- past the first i rows come the others
pub rows-from : (n i : ℕ) (s : Bytes) → i ≤ n → rows_fine n s ≡ true → rows_fine (n - i) (drop (offset_of i s) s) ≡ true
unfolding offset_of
rows-from n zero s l h = rw (sub-zero n) h
rows-from zero (suc i) s l h = absurd (omega arith)
rows-from (suc n) (suc i) s l h =
    let e : suc n - suc i ≡ n - i = omega arith in
    let k : rows_fine (n - i) (drop (offset_of i (drop (row_size s) s)) (drop (row_size s) s)) ≡ true =
    rows-from n i (drop (row_size s) s) (omega arith) (other-rows n s h) in
    rw e (rw (drop-drop (offset_of i (drop (row_size s) s)) (row_size s) s) at k)

-- row i is the i-th action
pub get_d-actions_from : (n i : ℕ) (s : Bytes) (d : Action) → i < n
    → get_or (actions_from n s) i d ≡ action_at (drop (offset_of i s) s)
unfolding offset_of actions_from
get_d-actions_from zero i s d l = absurd (omega arith)
get_d-actions_from (suc n) zero s d l = refl
get_d-actions_from (suc n) (suc i) s d l =
    rw (← (drop-drop (offset_of i (drop (row_size s) s)) (row_size s) s))
    (get_d-actions_from n i (drop (row_size s) s) d (omega arith))

pub offset_of-within : (n i : ℕ) (s : Bytes) → i ≤ n → rows_fine n s ≡ true → offset_of i s ≤ length s
unfolding offset_of
offset_of-within n zero s l h = omega arith
offset_of-within zero (suc i) s l h = absurd (omega arith)
offset_of-within (suc n) (suc i) s l h =
    let w = row_fine-whole s (first-row n s h) in
    let k : offset_of i (drop (row_size s) s) ≤ length s - row_size s =
    rw length-drop at (offset_of-within n i (drop (row_size s) s) (omega arith) (other-rows n s h)) in
    omega (arith, w.fits)

pub offset_of-suc : (i : ℕ) (s : Bytes) → offset_of (suc i) s ≡ offset_of i s + row_size (drop (offset_of i s) s)
unfolding offset_of
offset_of-suc zero s = omega arith
offset_of-suc (suc i) s =
    let t : Bytes = drop (row_size s) s in
    rw (← (drop-drop (offset_of i t) (row_size s) s)) (omega (arith, offset_of-suc i t))

pub offset_of-all : (n : ℕ) (s : Bytes) → rows_fine n s ≡ true → offset_of n s ≡ length s
unfolding offset_of
offset_of-all zero s h = sym (no_rows s h)
offset_of-all (suc n) s h =
    let w = row_fine-whole s (first-row n s h) in
    rw (offset_of-all n (drop (row_size s) s) (other-rows n s h), length-drop (row_size s) s) (omega (arith, w.fits))

row_size-positive : (s : Bytes) → 0 < row_size s
unfolding row_size
row_size-positive s = omega arith

-- the actions before an offset of a row
pub actions_before-offset : (n i : ℕ) (s : Bytes) → i ≤ n → actions_before n (offset_of i s) s ≡ take i (actions_from n s)
unfolding actions_before actions_from offset_of
actions_before-offset zero zero s l = refl
actions_before-offset (suc n) zero s l = refl
actions_before-offset zero (suc i) s l = absurd (omega arith)
actions_before-offset (suc n) (suc i) s l =
    let t : Bytes = drop (row_size s) s in
    let ne : row_size s + offset_of i t ≡ 0 → ⊥ = λ e. omega (arith, row_size-positive s) in
    rw (ne_eqb (row_size s + offset_of i t) 0 ne, add-sub_cancel_left (row_size s) (offset_of i t))
    (ap (λ (l : List Action). action_at s ∷ l) (actions_before-offset n i t (omega arith)))
