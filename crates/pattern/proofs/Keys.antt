-- What an element that is no group does at a place of the key.
use mathlib.Core.Path.{◌≡◌, refl, ◌∙◌}
use mathlib.Core.List.{[], ◌∷◌}
use mathlib.Core.Bool.{Bool, true, false, not, cond}
use Prim.Native.Nat.{ℕ, suc, ◌+◌, ◌-◌, ◌<◌, ◌≤◌}
use native.Mathlib.Numerals.{add-one}
use native.Mathlib.Omega.{arith}
use lib.ListN.{length, get_or, take, drop, length-drop, drop_of_length-le}
use lib.Seq.{drop-cons, drop-length, take-length}
use lib.Dec.{eqb, ltb}
use borrow.Author.Tests.{ltb-true, ltb-false, lt-ltb, le-ltb}
use Rattle.std.specs.Prelude.{Option, Some, None, position}
use Rattle.std.specs.Bool.{then_some}
use Rattle.std.specs.List.{position_or_len}
use Rattle.std.proofs.lemmas.List.{drop-drop}
use Rattle.std.proofs.lemmas.List.Quantifiers.{position-Some}
use Rattle.octets.specs.Octets.{Bytes}
use Rattle.pattern.specs.declared.element.Simple.TheVariants.{Byte, Any, Rest}
use Rattle.pattern.specs.Matching.{Outcome, hit, miss, more, upto, single, simple_m}
use Rattle.pattern.specs.Places.{Took}

-- what is left of the key, as a part that goes to its end
pub rest : (key : Bytes) (k : ℕ) → take (length key - k) (drop k key) ≡ drop k key
rest key k = rw (← length-drop k key) (take-length (drop k key))

-- a byte c, a byte, and the rest of the key
module _ (key : Bytes) (k : ℕ) (h : k ≤ length key) where
  pub byte-here : (c : ℕ) → k < length key → (b : Bool) → b ≡ eqb (get_or key k 0) c
      → Took (simple_m (Byte c)) key k (record { key = then_some b (k + 1); steps = 1 })
  unfolding simple_m single
  byte-here c l true e = record { is = rw (add-one, drop-cons key k 0, ← e); within = omega arith }
  byte-here c l false e = record { is = rw (drop-cons key k 0, ← e); within = tt }

  pub byte-end : (c : ℕ) → length key ≤ k → Took (simple_m (Byte c)) key k (record { key = None; steps = 1 })
  unfolding simple_m single
  byte-end c l = record { is = rw drop_of_length-le; within = tt }

  pub any-took : (b : Bool) → ltb k (length key) ≡ b
      → Took (simple_m Any) key k (record { key = then_some b (k + 1); steps = 1 })
  unfolding simple_m single
  any-took true e =
      let l = ltb-true k (length key) e in
      record { is = rw (add-one, drop-cons key k 0); within = omega (arith, l) }
  any-took false e =
      let l = ltb-false k (length key) e in
      record { is = rw drop_of_length-le; within = tt }

  pub rest-took : Took (simple_m Rest) key k (record { key = Some (length key); steps = 1 })
  unfolding simple_m
  rest-took = record { is = rw drop-length; within = omega arith }

-- `*c` where the first c stands after n bytes, or none does
unfoldable found : Bytes → ℕ → Outcome
found s n = cond (ltb n (length s)) (hit (drop (n + 1) s) (n + 1)) (miss (length s + 1))

found-more : (x : ℕ) (s : Bytes) (n : ℕ) → more 1 (found s n) ≡ found (x ∷ s) (1 + n)
unfolding found more
found-more x s n = go (ltb n (length s)) refl
  where
    go : (b : Bool) → ltb n (length s) ≡ b
        → more 1 (cond b (hit (drop (n + 1) s) (n + 1)) (miss (length s + 1))) ≡ found (x ∷ s) (1 + n)
    go true e =
        let l = ltb-true n (length s) e in
        let y : 1 + n + 1 ≡ suc (n + 1) = omega arith in
        let z : 1 + (n + 1) ≡ suc (n + 1) = omega arith in
        rw (lt-ltb (1 + n) (length (x ∷ s)) (omega arith), y, z) refl
    go false e =
        let l = ltb-false n (length s) e in
        let z : suc (length s) + 1 ≡ 1 + (length s + 1) = omega arith in
        rw (le-ltb (1 + n) (length (x ∷ s)) (omega arith), z) refl

upto-found : (c : ℕ) (s : Bytes) → upto c s ≡ found s (position_or_len (λ x. eqb x c) s)
unfolding upto more found
upto-found c [] = refl
upto-found c (x ∷ s) = go (eqb x c) (upto-found c s)
  where
    go : (b : Bool) → upto c s ≡ found s (position_or_len (λ x. eqb x c) s)
        → more 1 (cond b (hit s 0) (upto c s)) ≡ found (x ∷ s) (cond (not b) (1 + position_or_len (λ x. eqb x c) s) 0)
    go true e = rw (lt-ltb 0 (length (x ∷ s)) (omega arith)) refl
    go false e = rw e (found-more x s _)

unfoldable searched : Bytes → Option ℕ → Outcome
searched s (Some n) = hit (drop (n + 1) s) (n + 1)
searched s None = miss (length s + 1)

upto-searched : (c : ℕ) (s : Bytes) → upto c s ≡ searched s (position (λ x. eqb x c) s)
unfolding found searched
upto-searched c s = upto-found c s ∙ go _ (position_or_len (λ x. eqb x c) s)
  where
    go : (b : Bool) (n : ℕ)
        → cond b (hit (drop (n + 1) s) (n + 1)) (miss (length s + 1)) ≡ searched s (cond b (Some n) None)
    go true n = refl
    go false n = refl

module _ (key : Bytes) (k c : ℕ) (h : k ≤ length key) where
  pub upto-some : (n : ℕ) → position (λ x. eqb x c) (drop k key) ≡ Some n
      → Took (upto c) key k (record { key = Some (k + n + 1); steps = n + 1 })
  unfolding searched
  upto-some n e =
      let l = (position-Some (λ x. eqb x c) (drop k key) n 0 e).0 in
      let z : k + (n + 1) ≡ k + n + 1 = omega arith in
      record {
        is = upto-searched c (drop k key) ∙ rw (e, drop-drop, z) refl;
        within = omega (arith, l, length-drop k key);
      }

  pub upto-none : position (λ x. eqb x c) (drop k key) ≡ None
      → Took (upto c) key k (record { key = None; steps = length key - k + 1 })
  unfolding searched
  upto-none e = record { is = upto-searched c (drop k key) ∙ rw (e, length-drop) refl; within = tt }
