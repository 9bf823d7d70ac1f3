-- The laws of equal bytes and of byte order.
use mathlib.Core.Path.{◌≡◌, refl, sym, ◌∙◌}
use mathlib.Core.List.{[], ◌∷◌}
use mathlib.Core.Logic.{◌⊎◌, inl, inr}
use mathlib.Core.Bool.{true, false}
use Prim.Native.Nat.{ℕ, ◌<◌}
use native.Mathlib.Omega.{arith}
use lib.Dec.{eqb, ltb}
use borrow.Author.Tests.{eqb-true, eqb-false, ltb-true, ltb-false, eq-eqb, lt-ltb, le-ltb}
use Rattle.octets.specs.Octets.{Bytes}
use Rattle.octets.specs.Order.{same, before}
use Rattle.model.proofs.Tests.{either, never}

pub same_refl : (k : Bytes) → same k k ≡ true
unfolding same
same_refl [] = refl
same_refl (a ∷ k) = rw (eq-eqb a a refl) (same_refl k)

pub same_true : (k l : Bytes) → same k l ≡ true → k ≡ l
unfolding same
same_true [] [] e = refl
same_true [] (b ∷ l) e = never (sym e)
same_true (a ∷ k) [] e = never (sym e)
same_true (a ∷ k) (b ∷ l) e =
    either (eqb a b)
    (λ q. let h : a ≡ b = eqb-true a b q in let t : k ≡ l = same_true k l (rw q at e) in cc)
    (λ q. never (sym (rw q at e)))

pub same-sym : (k l : Bytes) → same k l ≡ true → same l k ≡ true
same-sym k l e = rw (same_true k l e) (same_refl l)

-- different bytes
pub same_false : (k l : Bytes) → (k ≡ l → ⊥) → same k l ≡ false
same_false k l n = either (same k l) (λ q. absurd (n (same_true k l q))) (λ q. q)

pub before_self : (k : Bytes) → before k k ≡ false
unfolding before
before_self [] = refl
before_self (a ∷ k) = rw (le-ltb a a (omega arith), eq-eqb a a refl) (before_self k)

pub before-differs : (k l : Bytes) → before k l ≡ true → same k l ≡ false
before-differs k l e = same_false k l (λ q. never (sym e ∙ rw q (before_self l)))

-- the order: of two different keys one is before the other
pub before-other : (k l : Bytes) → before k l ≡ false → same k l ≡ false → before l k ≡ true
unfolding same before
before-other [] [] e n = never n
before-other [] (b ∷ l) e n = never e
before-other (a ∷ k) [] e n = refl
before-other (a ∷ k) (b ∷ l) e n =
    either (ltb a b) (λ q. never (rw q at e)) (λ q.
    either (eqb a b)
    (λ h. let z : a ≡ b = eqb-true a b h in
    rw (le-ltb b a (omega (arith, z)), eq-eqb b a (sym z))
    (before-other k l (rw (q, h) at e) (rw h at n)))
    (λ h. let w = ltb-false a b q in let z = eqb-false a b h in
    rw (lt-ltb b a (omega (arith, w, z)))))

-- the first bytes differ, or are equal and the rest decides
before-heads : (a b : ℕ) (k l : Bytes) → before (a ∷ k) (b ∷ l) ≡ true → (a < b) ⊎ ((a ≡ b) × (before k l ≡ true))
unfolding before
before-heads a b k l e =
    either (ltb a b) (λ q. inl (ltb-true a b q)) (λ q.
    either (eqb a b) (λ h. inr (eqb-true a b h, rw (q, h) at e)) (λ h. never (sym (rw (q, h) at e))))

before-less : (a b : ℕ) (k l : Bytes) → a < b → before (a ∷ k) (b ∷ l) ≡ true
unfolding before
before-less a b k l h = rw (lt-ltb a b h)

before-equal : (a b : ℕ) (k l : Bytes) → a ≡ b → before k l ≡ true → before (a ∷ k) (b ∷ l) ≡ true
unfolding before
before-equal a b k l q h = rw (le-ltb a b (omega (arith, q)), eq-eqb a b q) h

pub before-trans : (j k l : Bytes) → before j k ≡ true → before k l ≡ true → before j l ≡ true
unfolding before
before-trans j [] [] e f = never (sym f)
before-trans [] [] (c ∷ l) e f = refl
before-trans (a ∷ j) [] (c ∷ l) e f = never (sym e)
before-trans j (b ∷ k) [] e f = never (sym f)
before-trans [] (b ∷ k) (c ∷ l) e f = refl
before-trans (a ∷ j) (b ∷ k) (c ∷ l) e f = go (before-heads a b j k e) (before-heads b c k l f) (before-trans j k l)
  where
    go : (a < b) ⊎ ((a ≡ b) × (before j k ≡ true)) → (b < c) ⊎ ((b ≡ c) × (before k l ≡ true))
        → (before j k ≡ true → before k l ≡ true → before j l ≡ true) → before (a ∷ j) (c ∷ l) ≡ true
    go (inl x) (inl y) r = before-less a c j l (omega arith)
    go (inl x) (inr y) r = before-less a c j l (omega arith)
    go (inr x) (inl y) r = before-less a c j l (omega arith)
    go (inr x) (inr y) r = before-equal a c j l (x.0 ∙ y.0) (r x.1 y.1)
