-- A message more behind what is pending, on plain lists: the room is gathered to its front, and a row is written.
use mathlib.Core.Path.{◌≡◌, sym, ap, ap₂, ◌∙◌}
use mathlib.Core.List.{◌++◌}
use Prim.Native.Nat.{ℕ, ◌+◌, ◌-◌, ◌≤◌, ◌<◌}
use native.Mathlib.Omega.{arith}
use lib.ListN.{length}
use lib.Seq.{sets, length-sets}
use Rattle.octets.specs.Octets.{Bytes}
use Rattle.octets.specs.Part.{part}
use Rattle.octets.specs.Number.{big_endian}
use Rattle.octets.proofs.Parts.{part-part, part-sets-part, part-sets-before, part-sets-end}
use Rattle.octets.proofs.Numbers.{number_at-sets-before}
use Rattle.queue.specs.Meaning.{kept, queue_with, kept_rows}
use Rattle.queue.specs.Region.{head, tail, pending_end, flag, room, queued_of, pending_of, InStep}
use Rattle.queue.specs.Post.{Outcome}
use Rattle.queue.specs.Parts.{Gathering, pushed}
use Rattle.queue.proofs.Regions.{pending_of-kept, part-number}
use Rattle.queue.proofs.Operations.{number-written, number-other}

-- ---- gathering

-- what is moved to the front of the room, seen there
part_moved : (q : Bytes) (h n i k : ℕ) → 16 + h + n ≤ length q → i + k ≤ n
    → part (sets q 16 (part q (16 + h) n)) (16 + i) k ≡ part q (16 + h + i) k
part_moved q h n i k f m =
    sym (part-part (sets q 16 (part q (16 + h) n)) 16 n i k m)
    ∙ ap (λ (l : Bytes). part l i k) (part-sets-part q 16 (16 + h) n (omega arith) f)
    ∙ part-part q (16 + h) n i k m

queued-front : (h t e : ℕ) → t ≤ e → 0 + (t - h - 0) ≤ e - h
queued-front h t e a = omega arith

pending-behind : (h t e : ℕ) → t ≤ e → h ≤ t → t - h + (e - h - (t - h)) ≤ e - h
pending-behind h t e a b = omega arith

in-step-front : {k : ℕ} {q q' : Bytes} → InStep k q → length q' ≡ length q → head q' ≡ 0 → tail q' + head q ≡ tail q
    → pending_end q' + head q ≡ pending_end q → flag q' ≡ flag q → InStep k q'
in-step-front r l eh et ee ef = omega arith

-- the writes of a gathering
abbrev pub gathered : ℕ → ℕ → ℕ → Bytes → Bytes
gathered h t e q =
    sets (sets (sets (sets q 16 (part q (16 + h) (e - h))) 0 (big_endian 4 0)) 4 (big_endian 4 (t - h))) 8
    (big_endian 4 (e - h))

pub gathering : (q : Bytes) (h t e : ℕ) → InStep 0 q → h ≡ head q → t ≡ tail q → e ≡ pending_end q
    → Gathering q (gathered h t e q)
unfolding pending_of
gathering q h t e r p₁ p₂ p₃ =
    let b₁ : t ≤ e = omega arith in
    let b₂ : h ≤ t = omega arith in
    let w : Bytes = part q (16 + h) (e - h) in
    let q₁ : Bytes = sets q 16 w in
    let q₂ : Bytes = sets q₁ 0 (big_endian 4 0) in
    let q₃ : Bytes = sets q₂ 4 (big_endian 4 (t - h)) in
    let q₄ : Bytes = sets q₃ 8 (big_endian 4 (e - h)) in
    let l₁ : length q₁ ≡ length q = length-sets q 16 w in
    let l₂ : length q₂ ≡ length q₁ = length-sets q₁ 0 (big_endian 4 0) in
    let l₃ : length q₃ ≡ length q₂ = length-sets q₂ 4 (big_endian 4 (t - h)) in
    let l₄ : length q₄ ≡ length q₃ = length-sets q₃ 8 (big_endian 4 (e - h)) in
    let eh : head q₄ ≡ 0 =
    number-other q₃ 8 (e - h) 0 tt ∙ number-other q₂ 4 (t - h) 0 tt
    ∙ number-written q₁ 0 0 (omega arith) (omega arith) in
    let et : tail q₄ ≡ t - h =
    number-other q₃ 8 (e - h) 4 tt ∙ number-written q₂ 4 (t - h) (omega arith) (omega arith) in
    let ee : pending_end q₄ ≡ e - h = number-written q₃ 8 (e - h) (omega arith) (omega arith) in
    let ef : flag q₄ ≡ flag q =
    number-other q₃ 8 (e - h) 12 tt ∙ number-other q₂ 4 (t - h) 12 tt ∙ number-other q₁ 0 0 12 tt
    ∙ number_at-sets-before 4 q 16 w 12 (omega arith) in
    let l : length q₄ ≡ length q = l₄ ∙ l₃ ∙ l₂ ∙ l₁ in
    let et' : tail q₄ + head q ≡ tail q = omega arith in
    let ee' : pending_end q₄ + head q ≡ pending_end q = omega arith in
    let at : (i k : ℕ) → i + k ≤ e - h → part q₄ (16 + i) k ≡ part q (16 + h + i) k =
    λ i k m. part-number q₃ 8 (e - h) i k (omega arith) ∙ part-number q₂ 4 (t - h) i k (omega arith)
    ∙ part-number q₁ 0 0 i k (omega arith) ∙ part_moved q h (e - h) i k (omega arith) m in
    let s₁ : 16 + h + 0 ≡ 16 + head q = omega arith in
    let s₂ : t - h - 0 ≡ tail q - head q = omega arith in
    let s₃ : 16 + h + (t - h) ≡ 16 + tail q = omega arith in
    let s₄ : e - h - (t - h) ≡ pending_end q - tail q = omega arith in
    let g₁ : part q₄ (16 + 0) (t - h - 0) ≡ queued_of q = at 0 (t - h - 0) (queued-front h t e b₁) ∙ rw (s₁, s₂) in
    let g₂ : part q₄ (16 + (t - h)) (e - h - (t - h)) ≡ part q (16 + tail q) (pending_end q - tail q) =
    at (t - h) (e - h - (t - h)) (pending-behind h t e b₁ b₂) ∙ rw (s₃, s₄) in
    record {
      moved =
          record {
            left =
                record {
                  size = l;
                  fine = λ k m. in-step-front m l eh et' ee' ef;
                  meaning = ap₂ queue_with (rw (eh, et) g₁) (rw (ef, et, ee, g₂));
                };
            span = omega arith;
            same_flag = ef;
          };
      front = eh;
    }

-- The room is gathered only after more than Q bytes have gone by: only there does a message that fits in Q pass the
-- room's end.
pub gathered-late : (q : Bytes) (n : ℕ) → 16 ≤ length q → pending_end q + n ≤ head q + room q
    → length q < 16 + pending_end q + n → room q < head q
gathered-late q n l h k = omega arith

-- ---- a row behind what is pending

pub pushing : (q r : Bytes) → InStep 0 q → flag q ≡ 0 → 16 + pending_end q + length r ≤ length q
    → Outcome ((k : ℕ) → pending_end q + length r + k ≤ head q + room q → InStep k (pushed r q)) q (pushed r q)
    (queue_with (queued_of q) (kept (kept_rows (pending_of q) ++ r)))
unfolding pushed kept_rows
pushing q r s f m =
    let h : ℕ = head q in
    let t : ℕ = tail q in
    let e : ℕ = pending_end q in
    let q₁ : Bytes = sets q (16 + e) r in
    let q₂ : Bytes = sets q₁ 8 (big_endian 4 (e + length r)) in
    let l₁ : length q₁ ≡ length q = length-sets q (16 + e) r in
    let l₂ : length q₂ ≡ length q₁ = length-sets q₁ 8 (big_endian 4 (e + length r)) in
    let eh : head q₂ ≡ h =
    number-other q₁ 8 (e + length r) 0 tt ∙ number_at-sets-before 4 q (16 + e) r 0 (omega arith) in
    let et : tail q₂ ≡ t =
    number-other q₁ 8 (e + length r) 4 tt ∙ number_at-sets-before 4 q (16 + e) r 4 (omega arith) in
    let ee : pending_end q₂ ≡ e + length r = number-written q₁ 8 (e + length r) (omega arith) (omega arith) in
    let ef : flag q₂ ≡ flag q =
    number-other q₁ 8 (e + length r) 12 tt ∙ number_at-sets-before 4 q (16 + e) r 12 (omega arith) in
    let g₁ : part q₂ (16 + h) (t - h) ≡ queued_of q =
    part-number q₁ 8 (e + length r) h (t - h) (omega arith)
    ∙ part-sets-before q (16 + e) r (16 + h) (t - h) (omega arith) in
    let s₁ : 16 + t + (e - t) ≡ 16 + e = omega arith in
    let s₂ : e + length r - t ≡ e - t + length r = omega arith in
    let g₂ : part q₂ (16 + t) (e + length r - t) ≡ part q (16 + t) (e - t) ++ r =
    part-number q₁ 8 (e + length r) t (e + length r - t) (omega arith)
    ∙ rw s₂ (rw s₁ at (part-sets-end q (16 + t) (e - t) r (omega arith))) in
    record {
      size = omega arith;
      fine = λ k b. omega arith;
      meaning =
          ap₂ queue_with (rw (eh, et) g₁)
          (pending_of-kept q₂ (omega arith) ∙ ap kept (rw (et, ee, pending_of-kept q f) g₂));
    }
