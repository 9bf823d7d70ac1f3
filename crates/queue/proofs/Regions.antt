-- The laws of a region: its test and its rules, the lengths of what it holds, and what a write to its numbers leaves.
use mathlib.Core.Path.{◌≡◌, refl, sym, ◌∙◌}
use mathlib.Core.List.{[]}
use mathlib.Core.Bool.{Bool, true, false, cond, not, ◌&&◌, true≢false}
use Prim.Native.Nat.{ℕ, ◌+◌, ◌-◌, ◌*◌, ◌≤◌, ◌<◌}
use native.Mathlib.Omega.{arith}
use lib.Dec.{eqb, leb, ltb}
use lib.ListN.{length}
use lib.Seq.{sets}
use borrow.Author.Tests.{le-leb, lt-ltb, eq-eqb, ne_eqb, leb-true, ltb-true, eqb-true, eqb-false, not-true, not-false}
use Rattle.octets.specs.Octets.{Bytes}
use Rattle.octets.specs.Part.{part}
use Rattle.octets.specs.Number.{big_endian}
use Rattle.octets.proofs.Parts.{length_part, part-sets-after}
use Rattle.octets.proofs.Numbers.{length-big_endian}
use Rattle.queue.specs.Meaning.{kept, overflown, is_overflown}
use Rattle.queue.specs.Region.{head, tail, pending_end, flag, room, queued_of, pending_of, InStep, AtRest, queue_fine}

-- ---- the test and the rules

both : (a b : Bool) → a && b ≡ true → (a ≡ true) × (b ≡ true)
both true b e = (refl, e)
both false b e = absurd (true≢false (sym e))

pub fine-rest : (k : ℕ) (q : Bytes) → queue_fine k q ≡ true → AtRest k q
unfolding queue_fine
fine-rest k q e =
    let a = both (leb 16 (length q)) _ e in
    let b = both (ltb (length q) 4294967296) _ a.1 in
    let c = both (leb (head q) (tail q)) _ b.1 in
    let d = both (leb (16 + tail q) (length q)) _ c.1 in
    let f = both (leb (tail q + k) (head q + room q)) _ d.1 in
    let g = both (eqb (pending_end q) (tail q)) (eqb (flag q) 0) f.1 in
    let a' : 16 ≤ length q = leb-true _ _ a.0 in
    let b' : length q < 4294967296 = ltb-true _ _ b.0 in
    let c' : head q ≤ tail q = leb-true _ _ c.0 in
    let d' : 16 + tail q ≤ length q = leb-true _ _ d.0 in
    let f' : tail q + k ≤ head q + room q = leb-true _ _ f.0 in
    let g' : pending_end q ≡ tail q = eqb-true _ _ g.0 in
    let h' : flag q ≡ 0 = eqb-true _ _ g.1 in
    omega arith

pub not-fine : (k : ℕ) (q : Bytes) → (AtRest k q → ⊥) → queue_fine k q ≡ false
not-fine k q n = go (queue_fine k q) refl
  where
    go : (t : Bool) → queue_fine k q ≡ t → t ≡ false
    go true e = absurd (n (fine-rest k q e))
    go false e = refl

-- where all else holds, the flag decides
pub fine-flag : (k : ℕ) (q : Bytes) → 16 ≤ length q → length q < 4294967296 → head q ≤ tail q → 16 + tail q ≤ length q
    → tail q + k ≤ head q + room q → pending_end q ≡ tail q → queue_fine k q ≡ eqb (flag q) 0
unfolding queue_fine
fine-flag k q a b c d f g =
    rw (
      le-leb 16 (length q) a,
      lt-ltb (length q) 4294967296 b,
      le-leb (head q) (tail q) c,
      le-leb (16 + tail q) (length q) d,
      le-leb (tail q + k) (head q + room q) f,
      eq-eqb (pending_end q) (tail q) g,
    )

pub fine-clear : (k : ℕ) (q : Bytes) (b : Bool) → b ≡ not (eqb (flag q) 0) → queue_fine k q ≡ eqb (flag q) 0
    → not b ≡ queue_fine k q
fine-clear k q b e f = sym (f ∙ go (eqb (flag q) 0) e)
  where
    go : (t : Bool) → b ≡ not t → t ≡ not b
    go true e = rw e
    go false e = rw e

pub rest-fine : (k : ℕ) (q : Bytes) → AtRest k q → queue_fine k q ≡ true
rest-fine k q r =
    fine-flag k q (omega arith) (omega arith) (omega arith) (omega arith) (omega arith) (omega arith)
    ∙ eq-eqb (flag q) 0 r.flag-clear

-- a larger reserve is a stronger rule
pub in-step-less : {k j : ℕ} {q : Bytes} → j ≤ k → InStep k q → InStep j q
in-step-less h r = omega arith

pub at-rest-less : {k j : ℕ} {q : Bytes} → j ≤ k → AtRest k q → AtRest j q
at-rest-less h r = omega arith

-- ---- what the region holds

-- Q, for a region of the layout's length
pub room-is : (q : Bytes) (Q : ℕ) → length q ≡ 16 + 2 * Q → room q ≡ Q
room-is q Q e = omega arith

pub length-queued_of : {k : ℕ} {q : Bytes} → InStep k q → length (queued_of q) ≡ tail q - head q
length-queued_of {k} {q} r = length_part q (16 + head q) (tail q - head q) (omega arith)

-- what is queued leaves the reserve
pub queued_of-reserved : {k : ℕ} {q : Bytes} → InStep k q → length (queued_of q) + k ≤ room q
queued_of-reserved {k} {q} r = omega (arith, length-queued_of r)

pub pending_of-kept : (q : Bytes) → flag q ≡ 0 → pending_of q ≡ kept (part q (16 + tail q) (pending_end q - tail q))
unfolding pending_of
pending_of-kept q e = rw (eq-eqb (flag q) 0 e)

pub pending_of-overflown : (q : Bytes) → (flag q ≡ 0 → ⊥) → pending_of q ≡ overflown
unfolding pending_of
pending_of-overflown q n = rw (ne_eqb (flag q) 0 n)

pub pending_of-rest : {k : ℕ} {q : Bytes} → AtRest k q → pending_of q ≡ kept []
pending_of-rest {k} {q} r =
    let e : pending_end q - tail q ≡ 0 = omega arith in
    rw (pending_of-kept q r.flag-clear, e)

pub is_overflown-flag : (q : Bytes) → is_overflown (pending_of q) ≡ not (eqb (flag q) 0)
unfolding is_overflown pending_of
is_overflown-flag q = go (eqb (flag q) 0)
  where
    go : (t : Bool) → is_overflown (cond t (kept (part q (16 + tail q) (pending_end q - tail q))) overflown) ≡ not t
    go true = refl
    go false = refl

pub kept-flag : (q : Bytes) → is_overflown (pending_of q) ≡ false → flag q ≡ 0
kept-flag q e = eqb-true (flag q) 0 (not-false (eqb (flag q) 0) (sym (is_overflown-flag q) ∙ e))

pub overflown-flag : (q : Bytes) → is_overflown (pending_of q) ≡ true → flag q ≡ 0 → ⊥
overflown-flag q e = eqb-false (flag q) 0 (not-true (eqb (flag q) 0) (sym (is_overflown-flag q) ∙ e))

-- ---- a write to one of the four numbers

pub part-number : (q : Bytes) (i v a n : ℕ) → i ≤ 12 → part (sets q i (big_endian 4 v)) (16 + a) n ≡ part q (16 + a) n
part-number q i v a n h = part-sets-after q i (big_endian 4 v) (16 + a) n (rw (length-big_endian 4 v) (omega arith))
