-- Owing a message and queueing an ERROR, on plain lists: each is put together from what its parts promise.
use mathlib.Core.Path.{◌≡◌, refl, ap, ap₂, ◌∙◌}
use mathlib.Core.List.{[]}
use mathlib.Core.Bool.{Bool, true, false}
use Prim.Native.Nat.{ℕ, ◌+◌, ◌-◌, ◌≤◌, ◌<◌}
use native.Mathlib.Omega.{arith}
use lib.Dec.{leb}
use lib.ListN.{length}
use borrow.Author.Tests.{le-leb, lt-leb, leb-true, leb-false}
use Rattle.octets.specs.Octets.{Bytes}
use Rattle.octets.specs.Part.{part}
use Rattle.octets.proofs.Parts.{length_part}
use Rattle.protocol.specs.declared.Kind.{Kind}
use Rattle.protocol.specs.declared.Refusal.{Refusal}
use Rattle.protocol.specs.Terms.{error}
use Rattle.message.specs.Forms.{written}
use Rattle.queue.specs.Rows.{row}
use Rattle.queue.specs.Meaning.{kept, overflown, Queue, queue_with, is_overflown, kept_rows}
use Rattle.queue.specs.Meaning.{fits, owed, owing, error_fits, settled}
use Rattle.queue.specs.Region.{head, tail, pending_end, flag, room, queued_of, pending_of, queue_of, InStep}
use Rattle.queue.specs.Region.{AtRest}
use Rattle.queue.specs.Post.{Owing, Settling, PuttingError}
use Rattle.queue.specs.Parts.{has_room, Making, Dropping}
use Rattle.queue.specs.Parts.{pushed, Appendable, appended, Appending}
use Rattle.queue.proofs.Rows.{length-row}
use Rattle.queue.proofs.Regions.{length-queued_of, pending_of-kept, pending_of-overflown, overflown-flag}
use Rattle.queue.proofs.Appending.{pushing}

-- ---- a message more is pending

pub appending : (q q₁ m : Bytes) (n : ℕ) → n ≡ length m → Appendable n q → Making n q q₁ → Appending m n q (pushed (row m) q₁)
appending q q₁ m n e a v =
    let l : length (row m) ≡ length m + 4 = length-row m in
    let s : length q₁ ≡ length q = v.moved.left.size in
    let o = pushing q₁ (row m) (v.moved.left.fine 0 a.fine) (v.moved.same_flag ∙ a.flag-clear) (omega arith) in
    record {
      size = o.size ∙ s;
      fine = λ k b. o.fine k (omega arith);
      meaning = o.meaning ∙ ap (appended m) v.moved.left.meaning;
    }

pub is_overflown-appended : (q q' m : Bytes) (n : ℕ) → Appending m n q q' → is_overflown (pending_of q') ≡ false
unfolding is_overflown
is_overflown-appended q q' m n a = ap (λ (s : Queue). is_overflown s.pending) a.meaning

-- ---- owing

pub owing-overflown : (q m : Bytes) → is_overflown (pending_of q) ≡ true → queue_of q ≡ owing (room q) m (queue_of q)
unfolding owed
owing-overflown q m t = rw (pending_of-overflown q (overflown-flag q t))

-- the definition's test and the code's
fits-offsets : (q m : Bytes) (n : ℕ) → InStep 64 q → n ≡ length m
    → fits (room q) (queued_of q) (part q (16 + tail q) (pending_end q - tail q)) (length (row m))
    ≡ has_room n q
unfolding fits
fits-offsets q m n r e = go (has_room n q) refl
  where
    used : ℕ
    used = length (queued_of q) + length (part q (16 + tail q) (pending_end q - tail q)) + length (row m)

    sum : used + head q ≡ pending_end q + (4 + n)
    sum =
        let l = length_part q (16 + tail q) (pending_end q - tail q) (omega arith) in
        omega (arith, length-queued_of r, l, length-row m)

    go : (t : Bool) → has_room n q ≡ t → leb (used + 64) (room q) ≡ t
    go true t =
        let h : pending_end q + (4 + n) + 64 ≤ head q + room q = leb-true _ _ t in
        le-leb (used + 64) (room q) (omega (arith, sum))
    go false t =
        let h : head q + room q < pending_end q + (4 + n) + 64 = leb-false _ _ t in
        lt-leb (used + 64) (room q) (omega (arith, sum))

module _ (q q' m : Bytes) (n : ℕ) (r : InStep 64 q) (e : n ≡ length m) (f : flag q ≡ 0) where
  pub owing-kept : has_room n q ≡ true → Appending m n q q' → Owing m q q'
  unfolding owed kept_rows
  owing-kept t o =
      let p : pending_of q ≡ kept (part q (16 + tail q) (pending_end q - tail q)) = pending_of-kept q f in
      record {
        size = o.size;
        fine = o.fine 64 (leb-true _ _ t);
        meaning = o.meaning ∙ ap (queue_with (queued_of q)) (rw (p, fits-offsets q m n r e, t));
      }

  pub owing-over : has_room n q ≡ false → Dropping 1 q q' → Owing m q q'
  unfolding owed
  owing-over t d =
      let p : pending_of q ≡ kept (part q (16 + tail q) (pending_end q - tail q)) = pending_of-kept q f in
      let g : pending_of q' ≡ overflown = pending_of-overflown q' (λ z. omega (arith, d.flag-set)) in
      record {
        size = d.size;
        fine = d.fine 64 r;
        meaning = ap₂ queue_with d.same-queued (g ∙ rw (p, fits-offsets q m n r e, t));
      }

-- ---- an ERROR

pub error_fits-offsets : (k : Kind) (x : Refusal) (q : Bytes) (n : ℕ) → AtRest 64 q
    → n ≡ length (written k (error x)) → error_fits (room q) k x (queue_of q) ≡ has_room n q
unfolding error_fits
error_fits-offsets k x q n r e =
    let i : pending_end q - tail q ≡ 0 = omega (arith, r.none-pending) in
    rw i at (fits-offsets q (written k (error x)) n r.in_step e)

-- the ERROR, and 64 behind it, fit beside what is queued
error-room : (k : Kind) (x : Refusal) (q : Bytes) (n : ℕ) → InStep 64 q → n ≡ length (written k (error x))
    → error_fits (room q) k x (queue_of q) ≡ true → tail q + (4 + n) + 64 ≤ head q + room q
unfolding error_fits fits
error-room k x q n r e f =
    let h : length (queued_of q) + 0 + length (row (written k (error x))) + 64 ≤ room q = leb-true _ _ f in
    omega (arith, length-queued_of r, length-row (written k (error x)))

pub putting-error : (k : Kind) (x : Refusal) (q q₁ q₂ q₃ : Bytes) (n : ℕ) → InStep 64 q → n + 4 ≤ 64
    → n ≡ length (written k (error x)) → Dropping 0 q q₁ → Appending (written k (error x)) n q₁ q₂ → Settling q₂ q₃
    → PuttingError k x q q₃
unfolding kept_rows
putting-error k x q q₁ q₂ q₃ n r l e d a s =
    let i : pending_end q₁ - tail q₁ ≡ 0 = omega (arith, d.none-pending) in
    let p : pending_of q₁ ≡ kept [] = pending_of-kept q₁ d.flag-set ∙ rw i in
    let z : length q₁ ≡ length q = d.size in
    let t : pending_end q₁ ≡ tail q = d.end-tail in
    let h : head q₁ ≡ head q = d.same_head in
    let b : pending_end q₁ + (4 + n) + 0 ≤ head q₁ + room q₁ = omega arith in
    record {
      size = s.size ∙ a.size ∙ d.size;
      fine = (
        s.fine 0 (a.fine 0 b),
        λ f. s.fine 64 (a.fine 64 (omega (arith, error-room k x q n r e f))),
      );
      meaning = s.meaning ∙ ap settled a.meaning ∙ rw (p, d.same-queued);
    }
