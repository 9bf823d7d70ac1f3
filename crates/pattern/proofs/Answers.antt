-- The whole walk's report as the yes or no and the steps of a match.
use mathlib.Core.Path.{◌≡◌, refl, sym, ap, ◌∙◌}
use mathlib.Core.Bool.{Bool, true, false}
use Prim.Native.Nat.{ℕ, ◌≤◌}
use native.Mathlib.Omega.{arith}
use lib.Arith.{lt_of_le-ne}
use lib.Dec.{eqb, ltb}
use lib.ListN.{length, drop}
use lib.Seq.{drop-cons, drop-length}
use borrow.Author.Tests.{ltb-false, eqb-true}
use Rattle.std.proofs.lemmas.Bool.{eqb-false, or_parts}
use Rattle.std.specs.Prelude.{Option, Some, None, Ok}
use Rattle.std.specs.Option.{option_eq}
use Rattle.octets.specs.Octets.{Bytes}
use Rattle.pattern.specs.declared.walk.Walk.{Walk}
use Rattle.pattern.specs.Tree.{tree_of}
use Rattle.pattern.specs.Answer.{outcome, whole, steps_of, too_long, refusal, match_of, answer, accepted}
use Rattle.pattern.specs.Syntax.{valid}
use Rattle.pattern.specs.declared.Verdict.{Verdict}
use Rattle.pattern.specs.Checking.{tokens_at}
use Rattle.pattern.specs.Matching.{hit}
use Rattle.pattern.specs.Places.{tree_at, reported, GoesOn}
use Rattle.pattern.specs.Walking.{Short, Walked, Ran}
use Rattle.pattern.proofs.Outcomes.{steps-reported}

-- lengths that a match allows
pub short : (p key : Bytes) → too_long p key ≡ false → Short p key 0 0
unfolding too_long
short p key e =
    let h = or_parts (ltb 255 (length p)) (ltb 65535 (length key)) e in
    record {
      at-within = omega arith;
      key-within = omega arith;
      p-short = ltb-false 255 (length p) h.0;
      key-short = ltb-false 65535 (length key) h.1;
    }

whole-some : (key : Bytes) (k n : ℕ) → k ≤ length key → eqb k (length key) ≡ whole (hit (drop k key) n)
unfolding whole
whole-some key k n h = go (eqb k (length key)) refl
  where
    go : (b : Bool) → eqb k (length key) ≡ b → b ≡ whole (hit (drop k key) n)
    go true e = rw (eqb-true k (length key) e, drop-length)
    go false e = rw (drop-cons key k 0 (lt_of_le-ne h (eqb-false k (length key) e)))

-- the key is used up, or some of it is left, or the walk did not match
whole-reported : (key : Bytes) (r : Option ℕ) (n : ℕ) → GoesOn key r
    → option_eq eqb r (Some (length key)) ≡ whole (reported key r n)
unfolding whole
whole-reported key (Some k) n h = whole-some key k n h
whole-reported key None n h = refl

module _ (p key : Bytes) (r : Walk) (w : Walked (tree_at p) (length p) key 0 0 r) where
  outcome-walk : outcome p key ≡ reported key r.key r.steps
  unfolding outcome tree_of tokens_at
  outcome-walk = w.outcome.is

  steps-walk : r.steps ≡ steps_of (outcome p key)
  steps-walk = sym (ap steps_of outcome-walk ∙ steps-reported key r.key r.steps)

  pub ran : Ran p key (record { matched = option_eq eqb r.key (Some (length key)); steps = r.steps })
  ran = record {
    matched = whole-reported key r.key r.steps w.outcome.key-within ∙ ap whole (sym outcome-walk);
    steps = steps-walk;
  }

-- what is given, by what the tests say
module _ (p key : Bytes) where
  pub answer-invalid : valid p ≡ false → answer p key ≡ refusal 101
  unfolding answer
  answer-invalid v = rw v

  pub answer-long : valid p ≡ true → too_long p key ≡ true
      → answer p key ≡ refusal 102
  unfolding answer
  answer-long v l = rw (v, l)

  pub answer-short : valid p ≡ true → too_long p key ≡ false
      → answer p key ≡ record { answer = 0; matched = whole (outcome p key); steps = steps_of (outcome p key) }
  unfolding answer
  answer-short v l = rw (v, l)

  pub accepted-long : too_long p key ≡ true → accepted p key ≡ false
  unfolding accepted
  accepted-long l = rw l

  pub answer-ran : too_long p key ≡ false → (r : Verdict) → Ran p key r → valid p ≡ true
      → answer p key ≡ match_of (Ok r)
  answer-ran l r f v = answer-short v l ∙ rw (f.matched, f.steps)
