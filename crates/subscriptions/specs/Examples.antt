-- Worked examples of this crate's definitions, by computation, refusals included.
use Rattle.std.specs.Prelude.{◌≡◌, refl, List, [], ◌∷◌, ◌++◌, Bool, true, false, ℕ, replicate}
use Rattle.octets.specs.Octets.{Bytes, ascii}
use Rattle.octets.specs.Number.{digits, number, number_at}
use Rattle.octets.specs.Table.{rows}
use Rattle.subscriptions.specs.Region.{cell, count_of, patterns_of, subscriptions_fine}

-- a cell: a length byte, the pattern, and whatever stands behind it; an empty pattern is a pattern
cells : List Bytes
cells = cell (2 ∷ 97 ∷ 42 ∷ 9 ∷ 9 ∷ []) ∷ cell (0 ∷ 9 ∷ []) ∷ cell (3 ∷ 97 ∷ []) ∷ []

cells-hold : cells ≡ ascii "a*" ∷ [] ∷ ascii "a" ∷ []
unfolding cells cell ascii
cells-hold = refl

-- a region of n patterns, of which the first is `a*` and the second empty, and of `more` bytes behind the second cell
region : ℕ → ℕ → Bytes
region n more =
    (0 ∷ 0 ∷ 0 ∷ n ∷ []) ++ ((2 ∷ 97 ∷ 42 ∷ []) ++ (replicate 253 9 ++ (0 ∷ replicate 255 9 ++ replicate more 0)))

patterns-two : patterns_of (region 2 0) ≡ ascii "a*" ∷ [] ∷ []
unfolding region patterns_of count_of number_at number digits rows cell ascii
patterns-two = refl

patterns-none : patterns_of (region 0 0) ≡ []
unfolding region patterns_of count_of number_at number digits rows
patterns-none = refl

-- sixteen patterns are fine, seventeen are not; nor is a region of another length
rules : List Bool
rules =
    subscriptions_fine (region 16 3584)
    ∷ subscriptions_fine (region 0 3584)
    ∷ subscriptions_fine (region 17 3584)
    ∷ subscriptions_fine (region 2 3583)
    ∷ subscriptions_fine []
    ∷ []

rules-hold : rules ≡ true ∷ true ∷ false ∷ false ∷ false ∷ []
unfolding rules region subscriptions_fine count_of number_at number digits
rules-hold = refl
