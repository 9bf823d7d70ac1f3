-- What each operation's writes make of a region, on plain lists.
use mathlib.Core.Path.{◌≡◌, sym, ap₂, ◌∙◌}
use mathlib.Core.List.{◌++◌}
use mathlib.Core.Bool.{Bool, true, false}
use Prim.Native.Nat.{ℕ, ◌+◌, ◌-◌, ◌≤◌, ◌<◌}
use native.Mathlib.Omega.{arith}
use lib.Dec.{T}
use lib.ListN.{length, drop}
use lib.Seq.{sets, length-sets}
use Rattle.std.specs.Int.{from_bool}
use Rattle.octets.specs.Octets.{Bytes}
use Rattle.octets.specs.Part.{part, apart}
use Rattle.octets.specs.Number.{number_at, big_endian}
use Rattle.octets.proofs.Parts.{drop-part, part-add}
use Rattle.octets.proofs.Numbers.{number_at-sets-apart, number_at-sets-same}
use Rattle.queue.specs.Meaning.{queue_with, kept_rows}
use Rattle.queue.specs.Region.{head, tail, pending_end, flag, room, queued_of, pending_of, InStep, AtRest}
use Rattle.queue.specs.Post.{Outcome, Clearing, Settling}
use Rattle.queue.specs.Parts.{Dropping}
use Rattle.queue.proofs.Regions.{pending_of-kept, pending_of-rest, part-number}

-- ---- one number written

-- a number written is read back
pub number-written : (q : Bytes) (i v : ℕ) → i + 4 ≤ length q → v < 4294967296
    → number_at 4 (sets q i (big_endian 4 v)) i ≡ v
number-written q i v h k = number_at-sets-same 4 q i v h k

-- another number is as it was: `apart` computes at literal places
pub number-other : (q : Bytes) (i v j : ℕ) → T (apart j 4 i 4)
    → number_at 4 (sets q i (big_endian 4 v)) j ≡ number_at 4 q j
number-other q i v j t = number_at-sets-apart 4 q i 4 v j t

-- ---- clearing

pub clearing : (q : Bytes) → 16 ≤ length q → length q < 4294967296
    → Clearing q (sets (sets (sets (sets q 0 (big_endian 4 0)) 4 (big_endian 4 0)) 8 (big_endian 4 0)) 12 (big_endian 4 0))
clearing q h l =
    let z : Bytes = big_endian 4 0 in
    let q₁ : Bytes = sets q 0 z in
    let q₂ : Bytes = sets q₁ 4 z in
    let q₃ : Bytes = sets q₂ 8 z in
    let q₄ : Bytes = sets q₃ 12 z in
    let l₁ : length q₁ ≡ length q = length-sets q 0 z in
    let l₂ : length q₂ ≡ length q₁ = length-sets q₁ 4 z in
    let l₃ : length q₃ ≡ length q₂ = length-sets q₂ 8 z in
    let l₄ : length q₄ ≡ length q₃ = length-sets q₃ 12 z in
    let eh : head q₄ ≡ 0 =
    number-other q₃ 12 0 0 tt ∙ number-other q₂ 8 0 0 tt ∙ number-other q₁ 4 0 0 tt
    ∙ number-written q 0 0 (omega arith) (omega arith) in
    let et : tail q₄ ≡ 0 =
    number-other q₃ 12 0 4 tt ∙ number-other q₂ 8 0 4 tt ∙ number-written q₁ 4 0 (omega arith) (omega arith) in
    let ee : pending_end q₄ ≡ 0 = number-other q₃ 12 0 8 tt ∙ number-written q₂ 8 0 (omega arith) (omega arith) in
    let ef : flag q₄ ≡ 0 = number-written q₃ 12 0 (omega arith) (omega arith) in
    let rest : (k : ℕ) → k ≤ room q → AtRest k q₄ = λ k m. omega arith in
    record {
      size = omega arith;
      fine = rest;
      meaning = ap₂ queue_with (rw (eh, et)) (pending_of-rest (rest 0 (omega arith)));
    }

-- ---- taking

-- the head moves to h
pub head-moved : (q : Bytes) (h : ℕ) → AtRest 0 q → head q ≤ h → h ≤ tail q
    → Outcome ((k : ℕ) → AtRest k q → AtRest k (sets q 0 (big_endian 4 h))) q (sets q 0 (big_endian 4 h))
    (queue_with (drop (h - head q) (queued_of q)) (pending_of q))
head-moved q h r a b =
    let q' : Bytes = sets q 0 (big_endian 4 h) in
    let l : length q' ≡ length q = length-sets q 0 (big_endian 4 h) in
    let eh : head q' ≡ h = number-written q 0 h (omega arith) (omega arith) in
    let et : tail q' ≡ tail q = number-other q 0 h 4 tt in
    let ee : pending_end q' ≡ pending_end q = number-other q 0 h 8 tt in
    let ef : flag q' ≡ flag q = number-other q 0 h 12 tt in
    let rest : (k : ℕ) → AtRest k q → AtRest k q' = λ k m. omega arith in
    let m₁ : 16 + head q + (h - head q) ≡ 16 + h = omega arith in
    let m₂ : tail q - head q - (h - head q) ≡ tail q - h = omega arith in
    let d : drop (h - head q) (queued_of q) ≡ part q (16 + h) (tail q - h) =
    rw (m₁, m₂) at (drop-part q (16 + head q) (tail q - head q) (h - head q)) in
    record {
      size = l;
      fine = rest;
      meaning =
          ap₂ queue_with (rw (eh, et, d) (part-number q 0 h h (tail q - h) (omega arith)))
          (pending_of-rest (rest 0 r) ∙ sym (pending_of-rest r));
    }

-- ---- the end of a step

pub settling : (q : Bytes) → InStep 0 q → flag q ≡ 0
    → Settling q (sets q 4 (big_endian 4 (pending_end q)))
unfolding kept_rows
settling q r f =
    let e : ℕ = pending_end q in
    let q' : Bytes = sets q 4 (big_endian 4 e) in
    let l : length q' ≡ length q = length-sets q 4 (big_endian 4 e) in
    let eh : head q' ≡ head q = number-other q 4 e 0 tt in
    let et : tail q' ≡ e = number-written q 4 e (omega arith) (omega arith) in
    let ee : pending_end q' ≡ e = number-other q 4 e 8 tt in
    let ef : flag q' ≡ flag q = number-other q 4 e 12 tt in
    let rest : (k : ℕ) → InStep k q → AtRest k q' = λ k m. omega arith in
    let s₁ : e - head q ≡ tail q - head q + (e - tail q) = omega arith in
    let s₂ : 16 + head q + (tail q - head q) ≡ 16 + tail q = omega arith in
    let d : part q (16 + head q) (e - head q) ≡ queued_of q ++ part q (16 + tail q) (e - tail q) =
    rw s₁ (rw s₂ at (part-add q (16 + head q) (tail q - head q) (e - tail q))) in
    record {
      size = l;
      fine = rest;
      meaning =
          ap₂ queue_with (rw (eh, et, pending_of-kept q f) (part-number q 4 e (head q) (e - head q) (omega arith) ∙ d))
          (pending_of-rest (rest 0 r));
    }

-- ---- dropping what is pending

from_bool-bit : (b : Bool) → from_bool b ≤ 1
from_bool-bit true = omega arith
from_bool-bit false = omega arith

pub dropping : (q : Bytes) (b : Bool) (t : ℕ) → t ≡ tail q → InStep 0 q
    → Dropping (from_bool b) q (sets (sets q 8 (big_endian 4 t)) 12 (big_endian 4 (from_bool b)))
dropping q b t e r =
    let f : ℕ = from_bool b in
    let g : f ≤ 1 = from_bool-bit b in
    let q₁ : Bytes = sets q 8 (big_endian 4 t) in
    let q₂ : Bytes = sets q₁ 12 (big_endian 4 f) in
    let l₁ : length q₁ ≡ length q = length-sets q 8 (big_endian 4 t) in
    let l₂ : length q₂ ≡ length q₁ = length-sets q₁ 12 (big_endian 4 f) in
    let eh : head q₂ ≡ head q = number-other q₁ 12 f 0 tt ∙ number-other q 8 t 0 tt in
    let et : tail q₂ ≡ t = number-other q₁ 12 f 4 tt ∙ number-other q 8 t 4 tt ∙ sym e in
    let ee : pending_end q₂ ≡ t = number-other q₁ 12 f 8 tt ∙ number-written q 8 t (omega arith) (omega arith) in
    let ef : flag q₂ ≡ f = number-written q₁ 12 f (omega arith) (omega arith) in
    let p : part q₂ (16 + head q) (t - head q) ≡ queued_of q =
    part-number q₁ 12 f (head q) (t - head q) (omega arith) ∙ part-number q 8 t (head q) (t - head q) (omega arith)
    ∙ rw e in
    record {
      size = omega arith;
      fine = λ k m. omega arith;
      same-queued = rw (eh, et) p;
      same_head = eh;
      end-tail = ee ∙ e;
      none-pending = omega arith;
      flag-set = ef;
    }
