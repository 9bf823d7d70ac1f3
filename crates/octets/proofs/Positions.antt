-- What std's `position` tells of the first byte that passes a test.
use mathlib.Core.Path.{◌≡◌, refl, sym, ◌∙◌}
use mathlib.Core.Bool.{Bool, true, false, cond, not}
use Prim.Native.Nat.{ℕ, ◌-◌, ◌≤◌}
use native.Mathlib.Omega.{arith}
use lib.Dec.{ltb}
use lib.ListN.{length, take, drop, length-drop}
use lib.Seq.{take_all}
use borrow.Author.Tests.{ltb-false}
use Rattle.std.specs.Prelude as Code
use Rattle.std.proofs.Common.{Some, None}
use Rattle.std.specs.List.{position, position_or_len}
use Rattle.std.proofs.lemmas.List.Sums.{prefix_len-le-length}
use Rattle.octets.specs.Octets.{Bytes}

pub position_or_len-le : (p : ℕ → Bool) (s : Bytes) → position_or_len p s ≤ length s
position_or_len-le p s = prefix_len-le-length (λ b. not (p b)) s

module _ (p : ℕ → Bool) (s : Bytes) (o : Code.Option ℕ) (e : o ≡ position p s) where
  pub position_found : (i : ℕ) → o ≡ Some i → position_or_len p s ≡ i
  position_found i f = by (ltb (position_or_len p s) (length s)) (sym e ∙ f)
    where
      by : (t : Bool) → ◌≡◌ {A = Code.Option ℕ} (cond t (Some (position_or_len p s)) None) (Some i)
          → position_or_len p s ≡ i
      by true q = cc
      by false q = cc

  pub position_none : o ≡ None → position_or_len p s ≡ length s
  position_none f = by (ltb (position_or_len p s) (length s)) refl (sym e ∙ f)
    where
      by : (t : Bool) → ltb (position_or_len p s) (length s) ≡ t
          → ◌≡◌ {A = Code.Option ℕ} (cond t (Some (position_or_len p s)) None) None → position_or_len p s ≡ length s
      by true l q = cc
      by false l q = omega (arith, ltb-false (position_or_len p s) (length s) l, position_or_len-le p s)

-- &s[n..], as the code has it
pub tail-is : (s : Bytes) (n : ℕ) → take (length s - n) (drop n s) ≡ drop n s
tail-is s n = take_all (length s - n) (drop n s) (rw length-drop (omega arith))
