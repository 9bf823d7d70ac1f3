-- The first message of what a region holds queued: where it stands in the region, and what is left behind it.
use mathlib.Core.Path.{◌≡◌, refl, sym, ap₂, ◌∙◌}
use mathlib.Core.List.{[]}
use mathlib.Core.Bool.{Bool, true, false}
use Prim.Native.Nat.{ℕ, ◌+◌, ◌-◌, ◌≤◌, ◌<◌, min}
use native.Mathlib.Omega.{arith}
use lib.Dec.{eqb}
use lib.ListN.{length, drop, drop_of_length-le}
use lib.Seq.{sets}
use borrow.Author.Tests.{eq-eqb, ne_eqb, eqb-true, eqb-false}
use Rattle.octets.specs.Octets.{Bytes}
use Rattle.octets.specs.Part.{part}
use Rattle.octets.specs.Number.{number_at, big_endian}
use Rattle.octets.proofs.Parts.{take_part, drop-part}
use Rattle.octets.proofs.Numbers.{number_at-part}
use Rattle.queue.specs.Rows.{is_empty, first_length, first_message, behind_first}
use Rattle.queue.specs.Meaning.{queue_with}
use Rattle.queue.specs.Region.{head, tail, queued_of, InStep, AtRest}
use Rattle.queue.specs.Post.{Clearing, Removing}
use Rattle.queue.proofs.Rows.{is_empty-length}
use Rattle.queue.proofs.Regions.{length-queued_of, pending_of-rest}
use Rattle.queue.proofs.Operations.{head-moved}

pub first_length-most : (b : Bytes) → first_length b ≤ length b - 4
unfolding first_length
first_length-most b = omega arith

module _ {k : ℕ} {q : Bytes} (r : InStep k q) where
  pub is_empty-queued_of : is_empty (queued_of q) ≡ eqb (head q) (tail q)
  is_empty-queued_of = is_empty-length (queued_of q) ∙ go (eqb (head q) (tail q)) refl
    where
      go : (t : Bool) → eqb (head q) (tail q) ≡ t → eqb (length (queued_of q)) 0 ≡ t
      go true e =
          let h : head q ≡ tail q = eqb-true _ _ e in
          eq-eqb (length (queued_of q)) 0 (omega (arith, length-queued_of r))
      go false e =
          ne_eqb (length (queued_of q)) 0 (λ z. eqb-false (head q) (tail q) e (omega (arith, length-queued_of r)))

  -- fewer than four bytes are one empty message
  pub first_length-short : tail q - head q < 4 → first_length (queued_of q) ≡ 0
  first_length-short h = omega (arith, length-queued_of r, first_length-most (queued_of q))

  pub first_length-queued_of : 4 ≤ tail q - head q
      → first_length (queued_of q) ≡ min (number_at 4 q (16 + head q)) (tail q - head q - 4)
  unfolding first_length
  first_length-queued_of h =
      let e : 16 + head q + 0 ≡ 16 + head q = omega arith in
      let n : number_at 4 (queued_of q) 0 ≡ number_at 4 q (16 + head q) =
      rw e at (number_at-part 4 q (16 + head q) (tail q - head q) 0 (omega arith)) in
      rw (n, length-queued_of r)

  -- a message that is not empty lies within what is queued
  pub first-within : (first_length (queued_of q) ≡ 0 → ⊥) → 4 + head q + first_length (queued_of q) ≤ tail q
  first-within n = omega (arith, length-queued_of r, first_length-most (queued_of q))

  pub first_message-queued_of : first_message (queued_of q) ≡ part q (20 + head q) (first_length (queued_of q))
  unfolding first_message
  first_message-queued_of =
      let e : 16 + head q + 4 ≡ 20 + head q = omega arith in
      let d : drop 4 (queued_of q) ≡ part q (20 + head q) (tail q - head q - 4) =
      rw e at (drop-part q (16 + head q) (tail q - head q) 4) in
      let l : first_length (queued_of q) ≤ tail q - head q - 4 =
      rw (length-queued_of r) at (first_length-most (queued_of q)) in
      rw d (take_part q (20 + head q) (tail q - head q - 4) (first_length (queued_of q)) l)

-- ---- the first message is removed

-- the last message: the region is cleared
pub last_taken : (q q' : Bytes) → AtRest 0 q → tail q - head q ≤ 4 + first_length (queued_of q) → Clearing q q'
    → Removing q q'
unfolding behind_first
last_taken q q' r h o =
    let l : length (queued_of q) ≤ 4 + first_length (queued_of q) = rw (length-queued_of r.in_step) h in
    let e : drop (4 + first_length (queued_of q)) (queued_of q) ≡ [] = drop_of_length-le (queued_of q) l in
    record {
      size = o.size;
      fine = λ k s. o.fine k (omega arith);
      meaning = o.meaning ∙ sym (ap₂ queue_with e (pending_of-rest r));
    }

-- another one: the head moves past it
pub first_taken : (q : Bytes) (h : ℕ) → AtRest 0 q → 4 + first_length (queued_of q) < tail q - head q
    → h ≡ head q + 4 + first_length (queued_of q)
    → Removing q (sets q 0 (big_endian 4 h))
unfolding behind_first
first_taken q h r b e =
    let d : h - head q ≡ 4 + first_length (queued_of q) = omega arith in
    rw d at (head-moved q h r (omega arith) (omega arith))
