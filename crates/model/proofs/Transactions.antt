-- A transaction by its two tests.
use mathlib.Core.Path.{◌≡◌, refl, sym}
use mathlib.Core.List.{List}
use mathlib.Core.Bool.{true, false}
use Prim.Native.Nat.{ℕ}
use native.Mathlib.Omega.{arith}
use Rattle.protocol.specs.Terms.{Action}
use Rattle.model.specs.State.{Transaction, off, begun, spoiled, is_on, is_spoiled, actions_in, after_slip}
use Rattle.model.proofs.Tests.{never}

-- one that is begun is neither off nor spoiled
pub off-not-begun {ℓ} : {C : Type ℓ} (xs : List Action) → off ≡ begun xs → C
off-not-begun xs e = let z : ◌≡◌ {A = ℕ} 0 1 = cc in absurd (omega arith)

pub spoiled-not-begun {ℓ} : {C : Type ℓ} (xs : List Action) → spoiled ≡ begun xs → C
spoiled-not-begun xs e = let z : ◌≡◌ {A = ℕ} 0 1 = cc in absurd (omega arith)

pub is-off : (t : Transaction) → is_on t ≡ false → t ≡ off
is-off off e = refl
is-off (begun xs) e = never e
is-off spoiled e = never e

pub is-spoiled : (t : Transaction) → is_spoiled t ≡ true → t ≡ spoiled
is-spoiled off e = never (sym e)
is-spoiled (begun xs) e = never (sym e)
is-spoiled spoiled e = refl

pub is-begun : (t : Transaction) → is_on t ≡ true → is_spoiled t ≡ false → t ≡ begun (actions_in t)
is-begun off e f = never (sym e)
is-begun (begun xs) e f = refl
is-begun spoiled e f = never f

-- a slip spoils a transaction, and leaves none where there is none
pub after_slip-on : (t : Transaction) → is_on t ≡ true → after_slip t ≡ spoiled
after_slip-on off e = never (sym e)
after_slip-on (begun xs) e = refl
after_slip-on spoiled e = refl

pub after_slip-off : (t : Transaction) → is_on t ≡ false → after_slip t ≡ t
after_slip-off off e = refl
after_slip-off (begun xs) e = never e
after_slip-off spoiled e = never e
