-- Theorems about the definitions of this crate: the bound on the steps, what `accepted` is to `answer`, and that
-- nothing of a valid pattern is left out of its tree.
use mathlib.Core.Path.{◌≡◌, refl}
use mathlib.Core.List.{List, [], ◌∷◌}
use mathlib.Core.Bool.{Bool, true, false}
use Prim.Native.Nat.{ℕ, ◌+◌, ◌-◌, ◌*◌, ◌≤◌}
use native.Mathlib.Omega.{arith}
use lib.Dec.{ltb}
use lib.ListN.{length}
use borrow.Author.Tests.{eqb-true, ltb-true}
use Rattle.std.proofs.lemmas.Bool.{and_parts}
use Rattle.std.specs.Prelude.{Result}
use Rattle.octets.specs.Octets.{Bytes}
use Rattle.protocol.specs.declared.Refusal.{Refusal}
use Rattle.pattern.specs.declared.token.Token.{Token}
use Rattle.pattern.specs.declared.token.Token.TheVariants.{Open, Bar, Close, Star, Any, Byte, Backslash}
use Rattle.pattern.specs.Tokens.{tokens}
use Rattle.pattern.specs.Syntax.{star_fits, fits, valid}
use Rattle.pattern.specs.Parts.{parts}
use Rattle.pattern.specs.Tree.{Seq, Level, outside, inside, above, on_seq, grow, tree, sequence, tree_of}
use Rattle.pattern.specs.declared.Verdict.{Verdict}
use Rattle.pattern.specs.Answer.{outcome, steps_of, too_long, match_of, answer, Matched, accepted}
use Rattle.pattern.specs.Checking.{tokens_at}
use Rattle.pattern.proofs.Answers.{answer-invalid, answer-long, answer-short, accepted-long}
use Rattle.pattern.proofs.Bound.{steps-sequence}

either : {A : Type 0} (b : Bool) → (b ≡ true → A) → (b ≡ false → A) → A
either true f g = f refl
either false f g = g refl

-- "For P pattern bytes and K key bytes the steps never pass P × (K + 1)": the walk of every pattern, valid or not, at
-- every key.
pub outcome-steps : (p k : Bytes) → steps_of (outcome p k) ≤ length p * (length k + 1)
unfolding outcome tree_of tokens_at
outcome-steps p k = steps-sequence p 0 (length k) k (omega arith)

-- The same of the steps that a match asked by itself reports.
pub answer-steps : (p k : Bytes) → (answer p k).steps ≤ length p * (length k + 1)
answer-steps p k =
    either (valid p)
    (λ v. either (too_long p k)
    (λ l. rw (answer-long p k v l) (omega arith))
    (λ l. rw (answer-short p k v l) (outcome-steps p k)))
    (λ v. rw (answer-invalid p k v) (omega arith))

-- So what a match gives keeps the bound.
pub matched : (p k : Bytes) (r : Result Verdict Refusal) → match_of r ≡ answer p k → Matched p k r
matched p k r e = record { value = e; bounded = rw e (answer-steps p k) }

-- Of a valid pattern `accepted` is the yes or no of a match.
pub accepted-valid : (p k : Bytes) → valid p ≡ true → accepted p k ≡ (answer p k).matched
accepted-valid p k v =
    either (too_long p k)
    (λ l. rw (answer-long p k v l) (accepted-long p k l))
    (λ l. rw (answer-short p k v l) (unfold accepted in rw l))

-- how many groups are open at a place
unfoldable depth : Level → ℕ
depth (outside s) = 0
depth (inside b up) = depth up + 1

depth-on : (f : Seq → Seq) (l : Level) → depth (on_seq f l) ≡ depth l
unfolding depth on_seq
depth-on f (outside s) = refl
depth-on f (inside b up) = refl

depth-above : (l : Level) → depth (above l) ≡ depth l - 1
unfolding depth above
depth-above (outside s) = refl
depth-above (inside b up) = omega arith

balanced : (ts : List Token) (left : ℕ) → left ≤ 4 → fits left ts ≡ true → left + depth (tree (parts ts)) ≡ 4
unfolding fits parts tree grow depth star_fits
balanced [] left b e = omega (arith, eqb-true left 4 e)
balanced (Byte c ∷ ts) left b e = rw depth-on (balanced ts left b e)
balanced (Any ∷ ts) left b e = rw depth-on (balanced ts left b e)
balanced (Open ∷ ts) left b e =
    let f = and_parts (ltb 0 left) (fits (left - 1) ts) e in
    rw (depth-on, depth-above) (omega (arith, balanced ts (left - 1) (omega arith) f.1, ltb-true 0 left f.0))
balanced (Bar ∷ ts) left b e =
    let f = and_parts (ltb left 4) (fits left ts) e in
    rw depth-above (omega (arith, balanced ts left b f.1, ltb-true left 4 f.0))
balanced (Close ∷ ts) left b e =
    let f = and_parts (ltb left 4) (fits (left + 1) ts) e in
    let l = ltb-true left 4 f.0 in
    omega (arith, balanced ts (left + 1) (omega arith) f.1)
balanced (Backslash ∷ ts) left b e = absurd cc
balanced (Star ∷ []) left b e = rw depth-on (omega (arith, eqb-true left 4 e))
balanced (Star ∷ Byte c ∷ ts) left b e = rw depth-on (balanced ts left b e)
balanced (Star ∷ Any ∷ ts) left b e = rw depth-on (balanced ts left b e)
balanced (Star ∷ Bar ∷ ts) left b e = rw depth-on (balanced (Bar ∷ ts) left b e)
balanced (Star ∷ Close ∷ ts) left b e = rw depth-on (balanced (Close ∷ ts) left b e)
balanced (Star ∷ Open ∷ ts) left b e = absurd cc
balanced (Star ∷ Star ∷ ts) left b e = absurd cc
balanced (Star ∷ Backslash ∷ ts) left b e = absurd cc

at_top : (l : Level) → depth l ≡ 0 → l ≡ outside (sequence l)
unfolding depth sequence
at_top (outside s) e = refl
at_top (inside b up) e = absurd (omega arith)

-- The tree of a valid pattern is one sequence outside every group: `tree_of` leaves nothing of it out.
pub valid-outside : (p : Bytes) → valid p ≡ true → tree (parts (tokens p)) ≡ outside (tree_of p)
unfolding valid tree_of
valid-outside p v = at_top _ (omega (arith, balanced (tokens p) 4 (omega arith) v))
