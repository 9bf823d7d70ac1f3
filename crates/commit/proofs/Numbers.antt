-- The tally on numbers: the row of a body, and a row exchanged for another.
use mathlib.Core.Path.{◌≡◌, refl}
use mathlib.Core.Bool.{not, cond, ◌&&◌}
use Prim.Native.Nat.{ℕ, zero, suc, ◌+◌, ◌-◌, ◌<◌}
use native.Mathlib.Omega.{arith}
use lib.Dec.{eqb, leb}
use borrow.Author.Tests.{ne_eqb}
use mir.Val.{bool_byte}
use Rattle.std.proofs.Common.{None, Some}
use Rattle.store.specs.Operation.{row_count}
use Rattle.commit.specs.declared.Tally.{Tally}
use Rattle.commit.specs.Tally.{body_size, less, more}

-- the row of a body that is not empty
pub body_size-some : (n : ℕ) → 0 < n → 7 + n ≡ body_size n
body_size-some zero h = absurd (omega arith)
body_size-some (suc n) h = omega arith

-- how many rows a row of n bytes is, as code counts it
pub row_count-byte : (n : ℕ) → bool_byte (not (eqb n 0)) ≡ row_count n
row_count-byte zero = refl
row_count-byte (suc n) = rw (ne_eqb (suc n) 0 (λ e. omega arith))

-- a row exchanged for another: the numbers, if they keep the limits
pub more-less : (S : ℕ) (t : Tally) (old new : ℕ) → more S (less t old) new
    ≡ cond (leb (t.used - old + new) S && leb (t.count - row_count old + row_count new) 1024)
    (Some (record { used = t.used - old + new; count = t.count - row_count old + row_count new }))
    None
unfolding more less
more-less S t old new = refl

-- what an exchange comes to
pub ruleset exchange = (row_count-byte, more-less)
