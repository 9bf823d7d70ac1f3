-- Whether a test holds of a cell: whether the pattern is held, and whether any pattern matches.
use mathlib.Core.Path.{◌≡◌, refl, sym, ap, ◌∙◌}
use mathlib.Core.List.{[], ◌∷◌}
use mathlib.Core.Bool.{Bool, true, false, cond, ◌||◌}
use Prim.Native.Nat.{ℕ, zero, suc, ◌+◌, ◌*◌}
use lib.ListN.{drop, length}
use Rattle.std.specs.List.{list_any, range_with_len}
use Rattle.octets.specs.Octets.{Bytes}
use Rattle.octets.specs.Order.{same}
use Rattle.octets.specs.Table.{rows}
use Rattle.pattern.specs.Answer.{accepted}
use Rattle.protocol.specs.Terms.{Protocol}
use Rattle.model.specs.Patterns.{Patterns, held}
use Rattle.model.specs.Step.{subscribed}
use Rattle.subscriptions.specs.Region.{cell, cell_at, count_of, patterns_of, matching}
use Rattle.subscriptions.proofs.Cells.{rows-cons, length-patterns_of}

or-cond : (a b : Bool) → a || b ≡ cond a true b
or-cond true b = refl
or-cond false b = refl

pub any_held : (p : Bytes) (ps : Patterns) → list_any (same p) ps ≡ held p ps
unfolding held
any_held p [] = refl
any_held p (q ∷ ps) = or-cond (same p q) _ ∙ ap (cond (same p q) true) (any_held p ps)

pub any-subscribed : (k : Bytes) (ps : Patterns) → list_any (λ p. accepted p k) ps ≡ subscribed matching ps k
unfolding subscribed matching
any-subscribed k [] = refl
any-subscribed k (p ∷ ps) = or-cond (accepted p k) _ ∙ ap (cond (accepted p k) true) (any-subscribed k ps)

-- two protocols with one matcher
pub subscribed-matches : (P Q : Protocol) → ((p k : Bytes) → P.matches p k ≡ Q.matches p k)
    → (ps : Patterns) (k : Bytes)
    → subscribed P ps k ≡ subscribed Q ps k
unfolding subscribed
subscribed-matches P Q e [] k = refl
subscribed-matches P Q e (p ∷ ps) k = rw (e p k, subscribed-matches P Q e ps k)

-- the cells one by one are the patterns
any-rows : (test : Bytes → Bool) (s : Bytes) (n i : ℕ)
    → list_any (λ j. test (cell_at s j)) (range_with_len i n) ≡ list_any test (rows cell 256 n (drop (4 + i * 256) s))
unfolding rows
any-rows test s zero i = refl
any-rows test s (suc n) i =
    ap (λ (b : Bool). test (cell_at s i) || b) (any-rows test s n (i + 1)) ∙ sym (ap (list_any test) (rows-cons s n i))

any-cells : (test : Bytes → Bool) (s : Bytes) (n : ℕ) → n ≡ length (patterns_of s)
    → list_any (λ j. test (cell_at s j)) (range_with_len 0 n) ≡ list_any test (patterns_of s)
unfolding patterns_of
any-cells test s n e = rw (e ∙ length-patterns_of s) (any-rows test s (count_of s) 0)

pub held-cells : (p s : Bytes) (n : ℕ) → n ≡ length (patterns_of s)
    → list_any (λ j. same p (cell_at s j)) (range_with_len 0 n) ≡ held p (patterns_of s)
held-cells p s n e = any-cells (same p) s n e ∙ any_held p (patterns_of s)

pub subscribed-cells : (k s : Bytes) (n : ℕ) → n ≡ length (patterns_of s)
    → list_any (λ j. accepted (cell_at s j) k) (range_with_len 0 n) ≡ subscribed matching (patterns_of s) k
subscribed-cells k s n e = any-cells (λ p. accepted p k) s n e ∙ any-subscribed k (patterns_of s)
