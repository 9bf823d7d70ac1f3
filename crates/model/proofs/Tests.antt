-- A result that hangs on a test.
use mathlib.Core.Path.{◌≡◌, refl, sym}
use mathlib.Core.Bool.{Bool, true, false, cond, ◌&&◌, ◌||◌}
use Prim.Native.Nat.{ℕ}
use native.Mathlib.Omega.{arith}
use lib.Dec.{eqb}
use borrow.Author.Tests.{eqb-true}

-- what holds of both results holds of the result of the test
pub by-test {ℓ} : {A : Type 0} (P : A → Type ℓ) (b : Bool) {x y : A} → (b ≡ true → P x) → (b ≡ false → P y)
    → P (cond b x y)
by-test P true f g = f refl
by-test P false f g = g refl

-- the same where two results hang on the test
pub by-test-both {ℓ} : {A B : Type 0} (P : A → B → Type ℓ) (b : Bool) {x y : A} {u v : B}
    → (b ≡ true → P x u) → (b ≡ false → P y v) → P (cond b x y) (cond b u v)
by-test-both P true f g = f refl
by-test-both P false f g = g refl

-- a test is true or false
pub either {ℓ} : {A : Type ℓ} (b : Bool) → (b ≡ true → A) → (b ≡ false → A) → A
either true f g = f refl
either false f g = g refl

pub never {ℓ} : {A : Type ℓ} → true ≡ false → A
never e = let z : ◌≡◌ {A = ℕ} 0 1 = cc in absurd (omega arith)

-- a fact about the number i is one about j where the test finds them equal
pub at-equal {ℓ} : (P : ℕ → Type ℓ) (j i : ℕ) → eqb j i ≡ true → P j → P i
at-equal P j i b p = rw (eqb-true j i b) at p

pub and_left : (a b : Bool) → a && b ≡ true → a ≡ true
and_left true b e = refl
and_left false b e = e

pub and_right : (a b : Bool) → a && b ≡ true → b ≡ true
and_right true b e = e
and_right false b e = never (sym e)

pub or_left : (a b : Bool) → a || b ≡ false → a ≡ false
or_left true b e = e
or_left false b e = refl

pub or_right : (a b : Bool) → a || b ≡ false → b ≡ false
or_right true b e = never e
or_right false b e = e
