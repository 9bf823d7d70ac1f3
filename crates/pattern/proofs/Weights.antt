-- What a pattern weighs: 1 for each element that is no group. It weighs no more than it has bytes.
use mathlib.Core.Path.{◌≡◌, refl}
use mathlib.Core.List.{List, [], ◌∷◌}
use mathlib.Core.Bool.{Bool, true, false, cond}
use Prim.Native.Nat.{ℕ, ◌+◌, ◌≤◌}
use native.Mathlib.Omega.{arith}
use lib.ListN.{length, drop, length-drop}
use lib.Dec.{eqb}
use Rattle.octets.specs.Octets.{Bytes}
use Rattle.pattern.specs.declared.token.Token.{Token}
use Rattle.pattern.specs.declared.token.Token.TheVariants.{Open, Bar, Close, Star, Any, Byte, Backslash}
use Rattle.pattern.specs.Tokens.{single, tokens}
use Rattle.pattern.specs.Parts.{Part, one, opening, bar, closing, parts}
use Rattle.pattern.specs.Tree.{Elem, Seq, Branches, simple, group}
use Rattle.pattern.specs.Tree.{done, ◌▸◌, last, ◌or◌, Level, outside, inside, branches, above, on_first, on_seq}
use Rattle.pattern.specs.Tree.{grow, tree, first, sequence}
use Rattle.pattern.specs.Checking.{tokens_at}
use Rattle.pattern.specs.Places.{tree_at}

unfoldable mutual
  pub weight_e : Elem → ℕ
  weight_e (simple x) = 1
  weight_e (group b) = weight_b b

  pub weight_s : Seq → ℕ
  weight_s done = 0
  weight_s (e ▸ s) = weight_e e + weight_s s

  pub weight_b : Branches → ℕ
  weight_b (last s) = weight_s s
  weight_b (s or b) = weight_s s + weight_b b

unfoldable pub weight : Level → ℕ
weight (outside s) = weight_s s
weight (inside b up) = weight_b b + weight up

weight-on : (e : Elem) (l : Level) → weight (on_seq (◌▸◌ e) l) ≡ weight_e e + weight l
unfolding weight on_seq on_first weight_e
weight-on e (outside s) = refl
weight-on e (inside (last s) up) = omega arith
weight-on e (inside (s or b) up) = omega arith

weight-up : (l : Level) → weight_b (branches l) + weight (above l) ≤ weight l
unfolding weight branches above weight_e
weight-up (outside s) = omega arith
weight-up (inside b up) = omega arith

weight-grow : (x : Part) (l : Level) → weight (grow x l) ≤ weight l + 1
unfolding grow
weight-grow (one x) l = rw (weight-on (simple x) l) (unfold weight_e in omega arith)
weight-grow opening l = rw (weight-on (group (branches l)) (above l)) (unfold weight_e in omega (arith, weight-up l))
weight-grow bar l = unfold weight weight_e in omega (arith, weight-up l)
weight-grow closing l = unfold weight weight_e in omega arith

weight-tree : (xs : List Part) → weight (tree xs) ≤ length xs
unfolding tree weight weight_e
weight-tree [] = omega arith
weight-tree (x ∷ xs) = omega (arith, weight-grow x (tree xs), weight-tree xs)

pub weight-sequence : (l : Level) → weight_s (sequence l) ≤ weight l
unfolding weight sequence first weight_e
weight-sequence (outside s) = omega arith
weight-sequence (inside (last s) up) = omega arith
weight-sequence (inside (s or b) up) = omega arith

pub weight-branches : (l : Level) → weight_b (branches l) ≤ weight l
weight-branches l = omega (arith, weight-up l)

length-parts : (ts : List Token) → length (parts ts) ≤ length ts
unfolding parts
length-parts [] = omega arith
length-parts (Byte c ∷ ts) = omega (arith, length-parts ts)
length-parts (Any ∷ ts) = omega (arith, length-parts ts)
length-parts (Open ∷ ts) = omega (arith, length-parts ts)
length-parts (Bar ∷ ts) = omega (arith, length-parts ts)
length-parts (Close ∷ ts) = omega (arith, length-parts ts)
length-parts (Backslash ∷ ts) = omega (arith, length-parts ts)
length-parts (Star ∷ []) = omega arith
length-parts (Star ∷ Byte c ∷ ts) = omega (arith, length-parts ts)
length-parts (Star ∷ Any ∷ ts) = omega (arith, length-parts ts)
length-parts (Star ∷ Bar ∷ ts) = omega (arith, length-parts (Bar ∷ ts))
length-parts (Star ∷ Close ∷ ts) = omega (arith, length-parts (Close ∷ ts))
length-parts (Star ∷ Open ∷ ts) = omega (arith, length-parts (Open ∷ ts))
length-parts (Star ∷ Star ∷ ts) = omega (arith, length-parts (Star ∷ ts))
length-parts (Star ∷ Backslash ∷ ts) = omega (arith, length-parts (Backslash ∷ ts))

length-tokens : (p : Bytes) → length (tokens p) ≤ length p
unfolding tokens
length-tokens [] = omega arith
length-tokens (c ∷ []) = omega arith
length-tokens (c ∷ d ∷ p) = test (eqb c 92) (length-tokens p) (length-tokens (d ∷ p))
  where
    test : (b : Bool) → length (tokens p) ≤ length p → length (tokens (d ∷ p)) ≤ length (d ∷ p)
        → length (cond b (Byte d ∷ tokens p) (single c ∷ tokens (d ∷ p))) ≤ length (c ∷ d ∷ p)
    test true f g = omega arith
    test false f g = omega arith

pub weight-at : (p : Bytes) (at : ℕ) → weight (tree_at p at) ≤ length p
unfolding tokens_at
weight-at p at =
    let w = weight-tree (parts (tokens_at p at)) in
    omega (arith, w, length-parts (tokens_at p at), length-tokens (drop at p), length-drop at p)
