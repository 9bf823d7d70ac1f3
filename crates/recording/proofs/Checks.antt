-- The tests of rows and of the region as code makes them: step by step, each refusal by itself.
use mathlib.Core.Path.{◌≡◌, ◌∙◌}
use mathlib.Core.Bool.{true, false, ◌&&◌}
use Prim.Native.Nat.{ℕ, suc, ◌+◌, ◌-◌, ◌≤◌, ◌<◌}
use native.Mathlib.Nat.{sub-zero}
use native.Mathlib.Omega.{arith}
use lib.Dec.{eqb, leb}
use lib.ListN.{length, drop, get_or, length-drop}
use lib.Seq.{take-length}
use borrow.Author.Tests.{leb-true, le-leb, lt-leb}
use denote.Bor.{Bor}
use Rattle.std.specs.Prelude.{Option, None, Some, MatchOption}
use Rattle.std.specs.Slice.{IsGetRangeResult}
use Rattle.octets.specs.Octets.{Bytes}
use Rattle.octets.specs.Number.{number_at}
use Rattle.recording.specs.Encoding.{action_fine, row_size, row_fine, rows_fine}
use Rattle.recording.specs.Promises.{Passed}
use Rattle.recording.proofs.Tests.{either}
use Rattle.recording.specs.Region.{state_of, used_of, count_of, room_of, rows_of, sized, state_fine, recording_fine}

-- ---- rows

module _ (s : Bytes) where
  pub row_fine-short : length s < 4 → row_fine s ≡ false
  unfolding row_fine
  row_fine-short h = rw (lt-leb 4 (length s) h)

  pub row_fine-long : 4 ≤ length s → row_fine s ≡ action_fine (get_or s 0 0) (number_at 3 s 1) && leb (row_size s) (length s)
  unfolding row_fine
  row_fine-long h = rw (le-leb 4 (length s) h)

-- what a slice from the row's end on is
pub behind-row : (s : Bytes) (n : ℕ) (o : Option (Bor Bytes)) → 4 ≤ length s
    → action_fine (get_or s 0 0) (number_at 3 s 1) ≡ true → n ≡ row_size s
    → IsGetRangeResult s n (length s) o → MatchOption o (row_fine s ≡ false) (λ x. Passed s x.now)
behind-row s n None l k e g =
    let h : length s < row_size s = omega (arith, g.0) in
    row_fine-long s l ∙ rw (k, lt-leb (row_size s) (length s) h)
behind-row s n (Some x) l k e g =
    let h : row_size s ≤ length s = omega (arith, g.0.0) in
    record {
      fine = row_fine-long s l ∙ rw (k, le-leb (row_size s) (length s) h);
      rest = rw e at g.0.2 ∙ rw (← (length-drop (row_size s) s)) (take-length (drop (row_size s) s));
    }

-- the rows left after i of n decide
pub record Checked (s : Bytes) (n i : ℕ) (rest : Bytes) : Type 0 where
  pub step : i ≤ n
  pub value : rows_fine n s ≡ rows_fine (n - i) rest

pub check-start : (s : Bytes) (n : ℕ) → Checked s n 0 s
check-start s n = record { step = omega arith; value = rw (sub-zero n) }

module _ (s : Bytes) (n i : ℕ) (rest : Bytes) (w : Checked s n i rest) where
  check-turn : i < n → rows_fine n s ≡ row_fine rest && rows_fine (n - (i + 1)) (drop (row_size rest) rest)
  unfolding rows_fine
  check-turn l =
      let e : n - i ≡ suc (n - (i + 1)) = omega arith in
      rw e at w.value

  pub check-broken : i < n → row_fine rest ≡ false → rows_fine n s ≡ false
  check-broken l h = check-turn l ∙ rw h

  pub check-next : i < n → (behind : Bytes) → Passed rest behind → Checked s n (i + 1) behind
  check-next l behind p = record { step = omega arith; value = check-turn l ∙ rw (p.fine, ← p.rest) }

  pub check-end : n ≤ i → rows_fine n s ≡ eqb (length rest) 0
  unfolding rows_fine
  check-end l =
      let e : n - i ≡ 0 = omega arith in
      rw e at w.value

-- ---- the region

not-le : (a b : ℕ) → (a ≤ b → ⊥) → b < a
not-le a b h = omega arith

module _ (r : Bytes) where
  pub fine-unsized : (12 ≤ length r → length r ≤ 262156 → ⊥) → recording_fine r ≡ false
  unfolding recording_fine sized
  fine-unsized h =
      either (leb 12 (length r))
      (λ t. rw (
        t,
        lt-leb (length r) 262156 (let k : 12 ≤ length r = leb-true 12 (length r) t in
            not-le (length r) 262156 (h k)),
      ))
      (λ t. rw t)

  module _ (low : 12 ≤ length r) (high : length r ≤ 262156) where
    pub fine-over : length r - 12 < used_of r → recording_fine r ≡ false
    unfolding recording_fine sized
    fine-over h = rw (le-leb 12 (length r) low, le-leb (length r) 262156 high, lt-leb (used_of r) (room_of r) h)

    pub fine-many : used_of r ≤ length r - 12 → 64 < count_of r → recording_fine r ≡ false
    unfolding recording_fine sized
    fine-many u h =
        rw (
          le-leb 12 (length r) low,
          le-leb (length r) 262156 high,
          le-leb (used_of r) (room_of r) u,
          lt-leb
              (count_of r) 64 h,
        )

    pub fine-rest : used_of r ≤ length r - 12 → count_of r ≤ 64
        → recording_fine r ≡ state_fine (state_of r) (count_of r) && rows_fine (count_of r) (rows_of r)
    unfolding recording_fine sized
    fine-rest u h =
        rw (
          le-leb 12 (length r) low,
          le-leb (length r) 262156 high,
          le-leb (used_of r) (room_of r) u,
          le-leb
              (count_of r) 64 h,
        )
