-- What a match asked by itself gives: document 01, "Patterns", its last two sentences, and the whole-key rule.
use Rattle.std.specs.Prelude.{ℕ, ◌+◌, ◌*◌, ◌≤◌, ◌≡◌, [], ◌∷◌, Bool, true, false, cond, ◌||◌, ltb, length}
use Rattle.std.specs.Prelude.{Result, Ok, Err}
use Rattle.octets.specs.Octets.{Bytes}
use Rattle.protocol.specs.declared.Refusal.{Refusal}
use Rattle.protocol.specs.Terms.{number}
use Rattle.pattern.specs.declared.Verdict.{Verdict}
use Rattle.pattern.specs.Syntax.{valid}
use Rattle.pattern.specs.Tree.{tree_of}
use Rattle.pattern.specs.Matching.{Outcome, hit, miss, seq_m}

-- What the whole pattern does at the key.
unfoldable pub outcome : Bytes → Bytes → Outcome
outcome p k = seq_m (tree_of p) k

-- "must use the whole key"
unfoldable pub whole : Outcome → Bool
whole (hit [] n) = true
whole (hit (x ∷ k) n) = false
whole (miss n) = false

-- The steps of an outcome, a match or not.
unfoldable pub steps_of : Outcome → ℕ
steps_of (hit k n) = n
steps_of (miss n) = n

-- "a pattern over 255 or a key over 65,535 bytes"
unfoldable pub too_long : Bytes → Bytes → Bool
too_long p k = ltb 255 (length p) || ltb 65535 (length k)

-- A match in the paper's numbers: the answer (0, 101 or 102), yes or no, and the steps.
pub record Match : Type 0 where
  pub answer : ℕ
  pub matched : Bool
  pub steps : ℕ

-- An answer other than 0 comes with no match and 0 steps.
abbrev pub refusal : ℕ → Match
refusal n = record { answer = n; matched = false; steps = 0 }

-- What the code gives, in the paper's numbers.
abbrev pub match_of : Result Verdict Refusal → Match
match_of (Ok v) = record { answer = 0; matched = v.matched; steps = v.steps }
match_of (Err r) = refusal (number r)

-- "A match asked by itself gives 101 for an invalid pattern, then 102 for a pattern over 255 or a key over 65,535
-- bytes, with 0 steps."
unfoldable pub answer : Bytes → Bytes → Match
answer p k =
    cond (valid p)
    (cond (too_long p k)
    (refusal 102)
    (record { answer = 0; matched = whole (outcome p k); steps = steps_of (outcome p k) }))
    (refusal 101)

-- What a match gives is the answer, and "For P pattern bytes and K key bytes the steps never pass P × (K + 1)."
pub record Matched (p k : Bytes) (r : Result Verdict Refusal) : Type 0 where
  pub value : match_of r ≡ answer p k
  pub bounded : (match_of r).steps ≤ length p * (length k + 1)

-- The yes or no alone, with no regard to validity: an invalid pattern counts as its tree.
unfoldable pub accepted : Bytes → Bytes → Bool
accepted p k = cond (too_long p k) false (whole (outcome p k))
