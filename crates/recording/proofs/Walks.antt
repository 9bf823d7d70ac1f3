-- Walking: what a row at an offset is in the region, and the offsets of the rows one after the other. A walk starts at
-- offset 0, goes on by the size of each row, and ends at the used bytes; the row at step i is the i-th action.
use mathlib.Core.Path.{◌≡◌, refl, sym, ap, ◌∙◌}
use mathlib.Core.Bool.{true}
use Prim.Native.Nat.{ℕ, suc, ◌+◌, ◌-◌, ◌≤◌, ◌<◌}
use native.Mathlib.Numerals.{add-one}
use native.Mathlib.Omega.{arith}
use lib.ListN.{length, take, drop, get_or, length-drop}
use Rattle.octets.specs.Octets.{Bytes}
use Rattle.octets.specs.Part.{part}
use Rattle.octets.specs.Number.{number_at}
use Rattle.octets.proofs.Parts.{drop-part, get_d_part, part-part}
use Rattle.octets.proofs.Numbers.{number_at-part}
use Rattle.protocol.specs.Terms.{Action, action_id, payload}
use Rattle.recording.specs.Encoding.{action_of, row_size, row_payload, action_at, offset_of}
use Rattle.recording.specs.Encoding.{rows_fine}
use Rattle.recording.specs.Region.{used_of, count_of, rows_of, recorded, recording_fine}
use Rattle.recording.specs.Turn.{earlier}
use Rattle.recording.specs.Promises.{RowAt, Until}
use Rattle.recording.proofs.Encodings.{payload-action_of, action_id-action_of, action_of-payload, reads_back-action_of}
use Rattle.recording.proofs.Packed.{row_fine-whole, first-row, action_fine-known}
use Rattle.recording.proofs.Offsets.{rows-from, get_d-actions_from, offset_of-within, offset_of-suc, offset_of-all}
use Rattle.recording.proofs.Offsets.{actions_before-offset}
use Rattle.recording.proofs.Regions.{fine-rules, length-rows_of, count-recorded}

-- ---- a row in the region

pub record Here (r : Bytes) (at : ℕ) : Type 0 where
  pub within : at + row_size (drop at (rows_of r)) ≤ used_of r
  pub bound : 16 + at + number_at 3 r (13 + at) ≤ length r
  pub size : 4 + number_at 3 r (13 + at) ≡ row_size (drop at (rows_of r))
  pub command : action_at (drop at (rows_of r))
      ≡ action_of (get_or r (12 + at) 0) (part r (16 + at) (number_at 3 r (13 + at)))
  pub id : get_or r (12 + at) 0 ≡ action_id (action_at (drop at (rows_of r)))
  pub known : get_or r (12 + at) 0 ≤ 7
  pub body : part r (16 + at) (number_at 3 r (13 + at)) ≡ payload (action_at (drop at (rows_of r)))

pub row_here : (r : Bytes) (at : ℕ) → RowAt r at → Here r at
unfolding rows_of row_size row_payload action_at
row_here r at h =
    let m = fine-rules h.fine in
    let w = row_fine-whole (drop at (rows_of r)) h.here in
    let u : ℕ = used_of r in
    let d : drop at (rows_of r) ≡ part r (12 + at) (u - at) = drop-part r 12 u at in
    let l : length (drop at (rows_of r)) ≡ u - at =
    length-drop at (rows_of r) ∙ ap (λ (n : ℕ). n - at) (length-rows_of m) in
    let f : 1 + 3 ≤ u - at = omega (arith, w.head) in
    let n₁ : number_at 3 (drop at (rows_of r)) 1 ≡ number_at 3 r (12 + at + 1) =
    ap (λ (s : Bytes). number_at 3 s 1) d ∙ number_at-part 3 r (12 + at) (u - at) 1 f in
    let e₁ : 12 + at + 1 ≡ 13 + at = omega arith in
    let n : number_at 3 (drop at (rows_of r)) 1 ≡ number_at 3 r (13 + at) = n₁ ∙ ap (number_at 3 r) e₁ in
    let g : 4 + number_at 3 (drop at (rows_of r)) 1 ≤ u - at = omega (arith, w.fits) in
    let e₀ : 12 + at + 0 ≡ 12 + at = omega arith in
    let i : get_or (drop at (rows_of r)) 0 0 ≡ get_or r (12 + at) 0 =
    ap (λ (s : Bytes). get_or s 0 0) d ∙ get_d_part r (12 + at) (u - at) 0 (omega arith) ∙ ap (λ (j : ℕ). get_or r j 0) e₀ in
    let e₄ : 12 + at + 4 ≡ 16 + at = omega arith in
    let p : part (drop at (rows_of r)) 4 (number_at 3 (drop at (rows_of r)) 1)
    ≡ part r (16 + at) (number_at 3 r (13 + at)) =
    ap (λ (s : Bytes). part s 4 (number_at 3 (drop at (rows_of r)) 1)) d
    ∙ part-part r (12 + at) (u - at) 4 (number_at 3 (drop at (rows_of r)) 1) g
    ∙ ap (λ (j : ℕ). part r j (number_at 3 (drop at (rows_of r)) 1)) e₄
    ∙ ap (part r (16 + at)) n in
    record {
      within = omega (arith, g);
      bound = omega (arith, m.head, m.used, g, n);
      size = ap (λ (k : ℕ). 4 + k) (sym n);
      command = rw (i, p);
      id = sym (action_id-action_of (get_or (drop at (rows_of r)) 0 0)
          (part (drop at (rows_of r)) 4 (number_at 3 (drop at (rows_of r)) 1)) _ w.known ∙ i);
      known = rw i at (action_fine-known (get_or (drop at (rows_of r)) 0 0) _ w.known);
      body = sym (payload-action_of (get_or (drop at (rows_of r)) 0 0)
          (part (drop at (rows_of r)) 4 (number_at 3 (drop at (rows_of r)) 1)) ∙ p);
    }

-- what the readers of a row rest on
module _ (r : Bytes) (at : ℕ) (h : RowAt r at) where
  pub row-bound : 16 + at + number_at 3 r (13 + at) ≤ length r
  row-bound = (row_here r at h).bound

  pub row-known : get_or r (12 + at) 0 ≤ 7
  row-known = (row_here r at h).known

  pub row-id : get_or r (12 + at) 0 ≡ action_id (action_at (drop at (rows_of r)))
  row-id = (row_here r at h).id

  pub row-length : 4 + number_at 3 r (13 + at) ≡ row_size (drop at (rows_of r))
  row-length = (row_here r at h).size

  pub row-head : 16 + at ≤ length r
  row-head = omega (arith, (row_here r at h).bound)

  pub row-body : (n : ℕ) → n ≡ number_at 3 r (13 + at)
      → part r (16 + at) (16 + at + n - (16 + at)) ≡ payload (action_at (drop at (rows_of r)))
  row-body n e =
      let k : 16 + at + n - (16 + at) ≡ number_at 3 r (13 + at) = omega arith in
      rw k (row_here r at h).body

pub ruleset row_rules = (row-bound, row-head, row-known, row-id, row-length, row-body)

-- the ID and the payload of a row are all of its action
pub action_of-action_at : (s : Bytes)
    → action_of (action_id (action_at s)) (payload (action_at s)) ≡ action_at s
unfolding action_at
action_of-action_at s = action_of-payload (action_at s) (reads_back-action_of (get_or s 0 0) (row_payload s))

-- ---- from row to row

-- a walk has gone by i rows and stands at the offset
pub record Walk (r : Bytes) (at i : ℕ) : Type 0 where
  pub fine : recording_fine r ≡ true
  pub step : i ≤ length (recorded r)
  pub place : at ≡ offset_of i (rows_of r)

pub walk_start : (r : Bytes) → recording_fine r ≡ true → Walk r 0 0
unfolding offset_of
walk_start r h = record { fine = h; step = omega arith; place = refl }

module _ (r : Bytes) (at i : ℕ) (w : Walk r at i) where
  pub walk-within : Until r at
  walk-within =
      let m = fine-rules w.fine in
      let k : offset_of i (rows_of r) ≤ length (rows_of r) =
      offset_of-within (count_of r) i (rows_of r) (omega (arith, w.step, count-recorded r)) m.rows in
      record { fine = w.fine; within = omega (arith, w.place, length-rows_of m) }

  -- the actions gone by are those before the offset
  pub walk-earlier : earlier r at ≡ take i (recorded r)
  unfolding earlier recorded
  walk-earlier =
      rw w.place (actions_before-offset (count_of r) i (rows_of r) (omega (arith, w.step, count-recorded r)))

  pub walk-row : i < length (recorded r) → RowAt r at
  walk-row l =
      let m = fine-rules w.fine in
      let k : i < count_of r = omega (arith, count-recorded r) in
      let e : count_of r - i ≡ suc (count_of r - suc i) = omega arith in
      let f : rows_fine (suc (count_of r - suc i)) (drop (offset_of i (rows_of r)) (rows_of r)) ≡ true =
      rw e at (rows-from (count_of r) i (rows_of r) (omega arith) m.rows) in
      record {
        fine = w.fine;
        here =
            rw w.place (first-row (count_of r - suc i) (drop (offset_of i (rows_of r)) (rows_of r)) f);
      }

  -- the row at the offset is the i-th action
  pub walk-action : (d : Action) → i < length (recorded r) → get_or (recorded r) i d ≡ action_at (drop at (rows_of r))
  unfolding recorded
  walk-action d l = rw w.place (get_d-actions_from (count_of r) i (rows_of r) d (omega (arith, count-recorded r)))

  pub walk-next : i < length (recorded r) → Walk r (at + row_size (drop at (rows_of r))) (i + 1)
  walk-next l =
      record { fine = w.fine; step = omega arith; place = rw (add-one i, w.place) (sym (offset_of-suc i (rows_of r))) }

  pub walk_end : i ≡ length (recorded r) → at ≡ used_of r
  walk_end e =
      let m = fine-rules w.fine in
      let f : i ≡ count_of r = omega (arith, count-recorded r) in
      w.place ∙ rw f (offset_of-all (count_of r) (rows_of r) m.rows) ∙ length-rows_of m
