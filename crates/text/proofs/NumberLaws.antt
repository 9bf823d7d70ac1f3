-- Decimal digits from a place on.
use mathlib.Core.Path.{◌≡◌, refl, ◌∙◌}
use mathlib.Core.Logic.{inl, inr}
use mathlib.Core.List.{[], ◌∷◌}
use mathlib.Core.Bool.{Bool, true, false, ◌&&◌}
use mathlib.Core.Option.{none, some}
use Prim.Native.Nat.{ℕ, ◌+◌, ◌-◌, ◌*◌, ◌≤◌, ◌<◌}
use native.Mathlib.Numerals.{add-one}
use native.Mathlib.Nat.{le_refl}
use native.Mathlib.Omega.{arith}
use lib.Dec.{ltb}
use lib.ListN.{length, get_or, drop, drop_of_length-le}
use lib.Seq.{drop-cons}
use borrow.Author.Tests.{lt-ltb, le-ltb, le-leb, lt-leb}
use Rattle.std.specs.Char.{IsNotAsciiDigit}
use Rattle.octets.specs.Octets.{Bytes}
use Rattle.text.specs.Payload.{decimal, all_digits, number_from}

and-false : (a b : Bool) → b ≡ false → (a && b) ≡ false
and-false true b e = e
and-false false b e = refl

pub decimal-grows : (s : Bytes) (n : ℕ) → n ≤ decimal n s
unfolding decimal
decimal-grows [] n = le_refl n
decimal-grows (c ∷ s) n = omega (arith, decimal-grows s (n * 10 + (c - 48)))

pub number-big : (s : Bytes) (n : ℕ) → 256 ≤ n → number_from n s ≡ none
unfolding number_from
number-big s n h =
    let g : 256 ≤ decimal n s = omega (arith, decimal-grows s n) in
    rw (and-false (all_digits s) (ltb (decimal n s) 256) (le-ltb _ _ g))

module _ (s : Bytes) (i n : ℕ) where
  pub number-on : i < length s → 48 ≤ get_or s i 0 → get_or s i 0 < 58
      → number_from n (drop i s) ≡ number_from (n * 10 + (get_or s i 0 - 48)) (drop (i + 1) s)
  unfolding number_from all_digits decimal
  number-on h a b = rw (add-one i, drop-cons s i 0 h, le-leb _ _ a, lt-ltb _ _ b)

  pub number-over : i < length s → 48 ≤ get_or s i 0 → get_or s i 0 < 58 → 256 ≤ n * 10 + (get_or s i 0 - 48)
      → number_from n (drop i s) ≡ none
  number-over h a b c = number-on h a b ∙ number-big _ _ c

  pub number-other : i < length s → IsNotAsciiDigit (get_or s i 0) → number_from n (drop i s) ≡ none
  unfolding number_from all_digits
  number-other h (inl a) = rw (drop-cons s i 0 h, lt-leb _ _ a)
  number-other h (inr a) =
      let b : 48 ≤ get_or s i 0 = omega arith in
      let c : 58 ≤ get_or s i 0 = omega arith in
      rw (drop-cons s i 0 h, le-leb _ _ b, le-ltb _ _ c)

  pub number-end : length s ≤ i → n < 256 → number_from n (drop i s) ≡ some n
  unfolding number_from all_digits decimal
  number-end h a = rw (drop_of_length-le, lt-ltb _ _ a)

-- what a byte makes of the number so far, for the tactics
pub ruleset numbers = (number-on, number-over, number-other, number-end)
