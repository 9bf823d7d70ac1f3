-- The part at a place of the pattern, by the token that stands there.
use mathlib.Core.Path.{◌≡◌}
use mathlib.Core.List.{List, ◌∷◌}
use Prim.Native.Nat.{ℕ, ◌+◌, ◌<◌, ◌≤◌}
use native.Mathlib.Omega.{arith}
use lib.ListN.{length}
use Rattle.octets.specs.Octets.{Bytes}
use Rattle.pattern.specs.declared.token.Token.{Token}
use Rattle.pattern.specs.declared.token.Token.TheVariants.{Open, Bar, Close, Star, Any, Byte, Backslash}
use Rattle.pattern.specs.declared.element.Simple.TheVariants as Simples
use Rattle.pattern.specs.declared.part.Found.{Found}
use Rattle.pattern.specs.declared.part.Found.TheVariants as Finds
use Rattle.pattern.specs.Parts.{Part, parts}
use Rattle.pattern.specs.Tree.{outside, done, tree}
use Rattle.pattern.specs.Checking.{tokens_at}
use Rattle.pattern.specs.Places.{tree_at, star_of, Starts, StarAt, PartAt}
use Rattle.pattern.proofs.Lexing.{tokens-end}

pub tree-end : (p : Bytes) (at : ℕ) → length p ≤ at → tree_at p at ≡ outside done
unfolding parts tree
tree-end p at h = rw (tokens-end p at h)

module _ (p : Bytes) (at : ℕ) where
  pub star-end : length p ≤ at → at ≤ length p → StarAt p at (Finds.One Simples.Rest at)
  unfolding parts tree
  star-end h w = record { on = omega arith; within = w; is = rw (tokens-end p at h) }

  module _ (next : ℕ) (on : at < next) (within : next ≤ length p) where
    pub star-before : (t : Token) → tokens_at p at ≡ t ∷ tokens_at p next → StarAt p at (star_of t at next)
    unfolding parts tree
    star-before (Byte c) e = record { on = omega arith; within = within; is = rw e }
    star-before Any e = record { on = omega arith; within = within; is = rw e }
    star-before Bar e = record { on = omega arith; within = omega arith; is = rw e }
    star-before Close e = record { on = omega arith; within = omega arith; is = rw e }
    star-before Open e = record { on = omega arith; within = omega arith; is = rw e }
    star-before Star e = record { on = omega arith; within = omega arith; is = rw e }
    star-before Backslash e = record { on = omega arith; within = omega arith; is = rw e }

    pub part-star : (r : Found) → tokens_at p at ≡ Star ∷ tokens_at p next → StarAt p next r → PartAt p at r
    part-star (Finds.One x to) e s = record { on = omega (arith, s.on); within = s.within; is = rw e s.is }
    part-star (Finds.Open to) e s = record { on = omega (arith, s.on); within = s.within; is = rw e s.is }
    part-star (Finds.Bar to) e s = record { on = omega (arith, s.on); within = s.within; is = rw e s.is }
    part-star (Finds.Close to) e s = record { on = omega (arith, s.on); within = s.within; is = rw e s.is }

    -- a token that is a part by itself
    pub part-token : (ts : List Token) (x : Part) → tokens_at p at ≡ ts
        → tree (parts ts) ≡ tree (x ∷ parts (tokens_at p next))
        → Starts (tree_at p) (length p) (at + 1) next (tree_at p at) x
    unfolding tree
    part-token ts x e q = record { on = omega arith; within = within; is = rw e q }
