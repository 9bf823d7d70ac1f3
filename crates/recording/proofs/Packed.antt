-- The laws of rows: the row in front, a row as it is written, rows behind rows, and what their actions charge.
use mathlib.Core.Path.{◌≡◌, refl, sym, ap, ◌∙◌}
use mathlib.Core.List.{List, [], ◌∷◌, ◌++◌}
use mathlib.Core.Bool.{true, false, ◌&&◌, ◌||◌, true≢false}
use Prim.Native.Nat.{ℕ, zero, suc, ◌+◌, ◌^◌, ◌≤◌, ◌<◌}
use native.Mathlib.Nat.{zero-add, suc-add, add_comm, sub_self}
use native.Mathlib.Omega.{arith}
use lib.Dec.{eqb, leb}
use lib.ListN.{length, take, drop, get_or, length-append, length-drop, get_or-append}
use lib.Seq.{drop-append-le, drop_at, take-length}
use borrow.Author.Tests.{eqb-true, leb-true, leb-false, le-leb, lt-leb, ne_eqb}
use Rattle.octets.specs.Octets.{Bytes}
use Rattle.octets.specs.Part.{part}
use Rattle.octets.specs.Number.{number_at, big_endian}
use Rattle.octets.proofs.Parts.{part-append-front, length_part}
use Rattle.octets.proofs.Numbers.{number_at-front, length-big_endian, number_at-big_endian-append, number_at-drop}
use Rattle.protocol.specs.Terms.{Action, payload}
use Rattle.model.specs.State.{recording_charge}
use Rattle.recording.specs.Encoding.{action_of, action_fine, row_of, row_size, row_payload, action_at, row_fine}
use Rattle.recording.specs.Encoding.{actions_from, rows_fine}
use Rattle.recording.proofs.Tests.{either, and_both, and-true-true}
use Rattle.recording.proofs.Encodings.{payload-action_of}

-- ---- a row in front

pub record Whole (s : Bytes) : Type 0 where
  pub head : 4 ≤ length s
  pub known : action_fine (get_or s 0 0) (number_at 3 s 1) ≡ true
  pub fits : row_size s ≤ length s

pub row_fine-whole : (s : Bytes) → row_fine s ≡ true → Whole s
unfolding row_fine
row_fine-whole s h =
    let p = and_both (leb 4 (length s)) (action_fine (get_or s 0 0) (number_at 3 s 1) && leb (row_size s) (length s)) h in
    let q = and_both (action_fine (get_or s 0 0) (number_at 3 s 1)) (leb (row_size s) (length s)) p.1 in
    record { head = leb-true 4 (length s) p.0; known = q.0; fits = leb-true (row_size s) (length s) q.1 }

pub whole-row_fine : (s : Bytes) → Whole s → row_fine s ≡ true
unfolding row_fine
whole-row_fine s w =
    and-true-true (le-leb 4 (length s) w.head) (and-true-true w.known (le-leb (row_size s) (length s) w.fits))

pub length-payload : (s : Bytes) → row_fine s ≡ true → length (payload (action_at s)) + 4 ≡ row_size s
unfolding action_at row_payload row_size
length-payload s h =
    let w = row_fine-whole s h in
    let f : 4 + number_at 3 s 1 ≤ length s = w.fits in
    rw (payload-action_of (get_or s 0 0) (part s 4 (number_at 3 s 1)), length_part s 4 (number_at 3 s 1) f)
    (add_comm (number_at 3 s 1) 4)

-- the front of a row does not see what follows
module _ (s t : Bytes) where
  number_at-append : 4 ≤ length s → number_at 3 (s ++ t) 1 ≡ number_at 3 s 1
  number_at-append h = number_at-front 3 s t 1 h

  row_size-append : 4 ≤ length s → row_size (s ++ t) ≡ row_size s
  unfolding row_size
  row_size-append h = ap (λ (n : ℕ). 4 + n) (number_at-append h)

  action_at-append : row_fine s ≡ true → action_at (s ++ t) ≡ action_at s
  unfolding action_at row_payload row_size
  action_at-append h =
      let w = row_fine-whole s h in
      let f : 4 + number_at 3 s 1 ≤ length s = w.fits in
      rw (
        get_or-append s t 0 0 (omega (arith, w.head)),
        number_at-append w.head,
        part-append-front s t 4
            (number_at 3 s 1) f,
      )

  row_fine-append : row_fine s ≡ true → row_fine (s ++ t) ≡ true
  row_fine-append h =
      let w = row_fine-whole s h in
      whole-row_fine (s ++ t)
      (record {
        head = rw length-append (omega (arith, w.head));
        known = rw (get_or-append s t 0 0 (omega (arith, w.head)), number_at-append w.head) w.known;
        fits = rw (row_size-append w.head, length-append s t) (omega (arith, w.fits));
      })

  drop-row-append : row_fine s ≡ true → drop (row_size (s ++ t)) (s ++ t) ≡ drop (row_size s) s ++ t
  drop-row-append h =
      let w = row_fine-whole s h in
      rw (row_size-append w.head) (drop-append-le (row_size s) s t w.fits)

-- ---- rows

module _ (n : ℕ) (s : Bytes) (h : rows_fine (suc n) s ≡ true) where
  pub first-row : row_fine s ≡ true
  unfolding rows_fine
  first-row = (and_both (row_fine s) (rows_fine n (drop (row_size s) s)) h).0

  pub other-rows : rows_fine n (drop (row_size s) s) ≡ true
  unfolding rows_fine
  other-rows = (and_both (row_fine s) (rows_fine n (drop (row_size s) s)) h).1

pub no_rows : (s : Bytes) → rows_fine 0 s ≡ true → length s ≡ 0
unfolding rows_fine
no_rows s h = eqb-true (length s) 0 h

no_bytes : (s : Bytes) → length s ≡ 0 → s ≡ []
no_bytes [] e = refl
no_bytes (x ∷ s) e = absurd (omega arith)

pub length-actions_from : (n : ℕ) (s : Bytes) → length (actions_from n s) ≡ n
unfolding actions_from
length-actions_from zero s = refl
length-actions_from (suc n) s = ap suc (length-actions_from n (drop (row_size s) s))

pub rows_fine-append : (n m : ℕ) (s t : Bytes) → rows_fine n s ≡ true → rows_fine m t ≡ true
    → rows_fine (n + m) (s ++ t) ≡ true
unfolding rows_fine
rows_fine-append zero m s t h k = rw (no_bytes s (no_rows s h), zero-add m) k
rows_fine-append (suc n) m s t h k =
    rw (suc-add n m)
    (and-true-true (row_fine-append s t (first-row n s h))
    (rw (drop-row-append s t (first-row n s h)) (rows_fine-append n m (drop (row_size s) s) t (other-rows n s h) k)))

pub actions_from-append : (n m : ℕ) (s t : Bytes) → rows_fine n s ≡ true
    → actions_from (n + m) (s ++ t) ≡ actions_from n s ++ actions_from m t
unfolding actions_from
actions_from-append zero m s t h = rw (no_bytes s (no_rows s h), zero-add m)
actions_from-append (suc n) m s t h =
    rw (suc-add n m, action_at-append s t (first-row n s h), drop-row-append s t (first-row n s h))
    (ap (λ (l : List Action). action_at s ∷ l) (actions_from-append n m (drop (row_size s) s) t (other-rows n s h)))

-- a row is as long as its action charges
pub recording_charge-actions_from : (n : ℕ) (s : Bytes) → rows_fine n s ≡ true → recording_charge (actions_from n s) ≡ length s
unfolding actions_from recording_charge
recording_charge-actions_from zero s h = sym (no_rows s h)
recording_charge-actions_from (suc n) s h =
    let w = row_fine-whole s (first-row n s h) in
    rw (
      length-payload s (first-row n s h),
      recording_charge-actions_from n (drop (row_size s) s) (other-rows n s h),
      length-drop (row_size s) s,
    )
    (omega (arith, w.fits))

-- ---- a row as it is written

pub action_fine-short : (id n : ℕ) → action_fine id n ≡ true → n ≤ 65535
unfolding action_fine
action_fine-short id n h =
    either (eqb id 1 || eqb id 2)
    (λ t. let k : n ≤ 255 = leb-true n 255 (rw t at h) in omega arith)
    (λ t. leb-true n 65535 (and_both (leb id 4 || eqb id 7) (leb n 65535) (rw t at h)).1)

pub action_fine-unknown : (id n : ℕ) → 8 ≤ id → action_fine id n ≡ false
unfolding action_fine
action_fine-unknown id n h =
    let l : 4 < id = omega arith in
    rw (
      ne_eqb id 1 (λ e. omega arith),
      ne_eqb id 2 (λ e. omega arith),
      lt-leb id 4 l,
      ne_eqb id 7 (λ e. omega arith),
    )

pub action_fine-known : (id n : ℕ) → action_fine id n ≡ true → id ≤ 7
action_fine-known id n h =
    either (leb id 7)
    (λ t. leb-true id 7 t)
    (λ t. absurd (true≢false (sym h ∙ action_fine-unknown id n (leb-false id 7 t))))

module _ (id : ℕ) (p : Bytes) (h : action_fine id (length p) ≡ true) where
  pub length-row_of : length (row_of id p) ≡ 4 + length p
  unfolding row_of
  length-row_of = rw (length-append (big_endian 3 (length p)) p, length-big_endian 3 (length p)) (omega arith)

  head-row_of : get_or (row_of id p) 0 0 ≡ id
  unfolding row_of
  head-row_of = refl

  number_at-row_of : number_at 3 (row_of id p) 1 ≡ length p
  unfolding row_of
  number_at-row_of =
      let k : length p < 256 ^ 3 = omega (arith, action_fine-short id (length p) h) in
      sym (number_at-drop 3 (row_of id p) 1 0) ∙ number_at-big_endian-append 3 (length p) p k

  row_size-row_of : row_size (row_of id p) ≡ 4 + length p
  unfolding row_size
  row_size-row_of = ap (λ (n : ℕ). 4 + n) number_at-row_of

  row_payload-row_of : row_payload (row_of id p) ≡ p
  unfolding row_payload row_of
  row_payload-row_of =
      rw number_at-row_of
      (ap (take (length p)) (drop_at (big_endian 3 (length p)) p 3 (length-big_endian 3 (length p))) ∙ take-length p)

  action_at-row_of : action_at (row_of id p) ≡ action_of id p
  unfolding action_at
  action_at-row_of = rw (row_payload-row_of, head-row_of)

  row_fine-row_of : row_fine (row_of id p) ≡ true
  row_fine-row_of =
      whole-row_fine (row_of id p)
      (record {
        head = rw length-row_of (omega arith);
        known = rw (head-row_of, number_at-row_of) h;
        fits =
            rw (row_size-row_of, length-row_of) (omega arith);
      })

  pub rows_fine-row_of : rows_fine 1 (row_of id p) ≡ true
  unfolding rows_fine
  rows_fine-row_of =
      and-true-true row_fine-row_of
      (rw (length-drop (row_size (row_of id p)) (row_of id p), row_size-row_of, length-row_of, sub_self (4 + length p)) refl)

  pub actions_from-row_of : actions_from 1 (row_of id p) ≡ action_of id p ∷ []
  unfolding actions_from
  actions_from-row_of = rw action_at-row_of
