-- A quoted string takes every escape from \000 to \377 as the byte that its three octal digits spell (`octal-read`),
-- and none above (`octal-above`).
use mathlib.Core.Path.{◌≡◌}
use mathlib.Core.List.{[], ◌∷◌, ◌++◌}
use mathlib.Core.Bool.{true}
use mathlib.Core.Option.{none, some}
use Prim.Native.Nat.{ℕ, ◌+◌, ◌-◌, ◌*◌, ◌/◌, ◌%◌, ◌≤◌, ◌<◌}
use native.Mathlib.Omega.{arith}
use lib.Dec.{leb, ltb}
use borrow.Author.Tests.{le-leb, lt-ltb, le-ltb}
use Rattle.octets.specs.Octets.{Bytes}
use Rattle.text.specs.Fields.{octal, malformed, onto, quoted, escaped}

-- the octal digits of a number, the highest first; they are three below 512
abbrev pub digits : ℕ → Bytes
digits n = (48 + n / 64) ∷ (48 + n / 8 % 8) ∷ (48 + n % 8) ∷ []

-- a digit of value d, of the first n
digit-least : (d : ℕ) → leb 48 (48 + d) ≡ true
digit-least d = le-leb 48 (48 + d) (omega arith)

digit-most : (d n : ℕ) → d < n → ltb (48 + d) (48 + n) ≡ true
digit-most d n h = lt-ltb (48 + d) (48 + n) (omega arith)

-- the digits of a number below 256 spell it
pub octal-digits : (n : ℕ) → n < 256 → octal (48 + n / 64) (48 + n / 8 % 8) (48 + n % 8) ≡ some n
unfolding octal
octal-digits n h =
    let value : ((48 + n / 64 - 48) * 8 + (48 + n / 8 % 8 - 48)) * 8 + (48 + n % 8 - 48) ≡ n = omega arith in
    rw (
      digit-least (n / 64),
      digit-most (n / 64) 4 (omega arith),
      digit-least (n / 8 % 8),
      digit-most (n / 8 % 8) 8 (omega arith),
      digit-least (n % 8),
      digit-most (n % 8) 8 (omega arith),
      value,
    )

octal-none : (n : ℕ) → 256 ≤ n → octal (48 + n / 64) (48 + n / 8 % 8) (48 + n % 8) ≡ none
unfolding octal
octal-none n h = rw (digit-least (n / 64), le-ltb (48 + n / 64) 52 (omega arith))

-- for every number below 256, a backslash and the number's three octal digits are that byte
pub octal-read : (n : ℕ) (s : Bytes) → n < 256 → quoted (92 ∷ digits n ++ s) ≡ onto (some n) (quoted s)
unfolding quoted escaped
octal-read n s h = rw (octal-digits n h)

-- for every number from 256 on they are malformed
pub octal-above : (n : ℕ) (s : Bytes) → 256 ≤ n → quoted (92 ∷ digits n ++ s) ≡ malformed
unfolding quoted escaped onto
octal-above n s h = rw (octal-none n h)
