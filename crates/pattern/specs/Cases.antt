-- Further cases of patterns that are easy to get wrong, by computation, as one statement: half of them are refusals.
use Rattle.std.specs.Prelude.{ℕ, ◌≡◌, refl, List, [], ◌∷◌, ◌++◌, map, Bool, replicate}
use Rattle.octets.specs.Octets.{Bytes, ascii}
use Rattle.pattern.specs.Tokens.{single, tokens}
use Rattle.pattern.specs.Syntax.{star_fits, fits, valid}
use Rattle.pattern.specs.Parts.{parts}
use Rattle.pattern.specs.Tree.{branches, above, on_first, on_seq, grow, tree, first, sequence, tree_of}
use Rattle.pattern.specs.Matching as M
use Rattle.pattern.specs.Answer.{Match, outcome, whole, steps_of, too_long, refusal, answer}
use Rattle.pattern.specs.Table.{yes, no}

-- A pattern, a key, and what a match gives.
abbrev Case : Type 0
Case = Bytes × Bytes × Match

abbrev gives : Bytes → Bytes → Bool → ℕ → Case
gives p k b n = (p, k, record { answer = 0; matched = b; steps = n })

abbrev refused : Bytes → ℕ → Case
refused p n = (p, ascii "a", refusal n)

abbrev valids : List Case
valids =
    -- the first branch that matches is kept, though it is empty
    gives (ascii "(|a)") (ascii "a") no 0
    ∷ gives (ascii "(|a)b") (ascii "b") yes 1
    -- a `*` before `)` leaves no key for what follows the group, and is never shortened
    ∷ gives (ascii "(a*)b") (ascii "acb") no 3
    -- a `*` before `|` takes the rest of the key
    ∷ gives (ascii "(a*|b)") (ascii "acb") yes 2
    -- the steps of a branch that fails count, also in a group inside a group
    ∷ gives (ascii "((ab|ac)|ad)e") (ascii "ade") yes 7
    -- an escaped byte is ordinary, also after a `*` and in a group
    ∷ gives (ascii "\\**") (ascii "*xy") yes 2
    ∷ gives (ascii "*\\*") (ascii "xy*") yes 3
    ∷ gives (ascii "*\\(") (ascii "x(") yes 2
    ∷ gives (ascii "(a\\|b)c") (ascii "a|bc") yes 4
    -- `*?` is `?`, before `*` and `(` too
    ∷ gives (ascii "*?*") (ascii "xyz") yes 2
    ∷ gives (ascii "*?(a)") (ascii "xa") yes 2
    -- an element tried at the key's end costs 1, and a `*c` that runs off it one more than the bytes it looks at
    ∷ gives (ascii "a?") (ascii "a") no 2
    ∷ gives (ascii "*b") (ascii "xx") no 3
    -- a `*` is not stretched
    ∷ gives (ascii "*ab") (ascii "aab") no 2
    -- the whole key must be used
    ∷ gives (ascii "a") (ascii "ab") no 1
    -- NUL is an ordinary byte
    ∷ gives (0 ∷ 42 ∷ 0 ∷ []) (0 ∷ 1 ∷ 0 ∷ []) yes 3
    -- empty branches
    ∷ gives (ascii "()") [] yes 0
    ∷ gives (ascii "(|)") (ascii "a") no 0
    -- 255 pattern bytes and 65,535 key bytes are not too many
    ∷ gives (replicate 255 97) (replicate 255 97) yes 255
    ∷ gives (ascii "*") (replicate 65535 97) yes 1
    ∷ []

abbrev refusals : List Case
refusals =
    refused (ascii "**") 101
    ∷ refused (ascii "a**b") 101
    ∷ refused (ascii "*(") 101
    ∷ refused (ascii "*(a)") 101
    ∷ refused (ascii "\\") 101
    ∷ refused (ascii "a\\") 101
    ∷ refused (ascii "*\\") 101
    ∷ refused (ascii "\\\\\\") 101
    ∷ refused (ascii "(a") 101
    ∷ refused (ascii "a)") 101
    ∷ refused (ascii ")(") 101
    ∷ refused (ascii "(a\\)") 101
    ∷ refused (ascii "|") 101
    ∷ refused (ascii "a|b") 101
    ∷ refused (ascii "(a)|b") 101
    ∷ refused (ascii "(((((a)))))") 101
    ∷ refused (ascii "((((a)(b))))(((((c)))))") 101
    -- a valid pattern of 256 bytes is too long; an invalid one is invalid first
    ∷ refused (replicate 256 97) 102
    ∷ refused (ascii "**" ++ replicate 254 97) 101
    -- and so with a key of 65,536 bytes
    ∷ (ascii "*", replicate 65536 97, refusal 102)
    ∷ (ascii "**", replicate 65536 97, refusal 101)
    ∷ []

-- Every case is what the definitions give.
abbrev cases : List Case
cases = valids ++ refusals

pub cases-hold : map (λ (c : Case). answer c.0 c.1) cases ≡ map (λ (c : Case). c.2) cases
unfolding ascii answer too_long outcome whole steps_of M.seq_m M.simple_m M.single M.upto M.more M.and_then M.or_else single
    tokens star_fits fits valid parts branches above on_first on_seq grow tree first sequence tree_of
cases-hold = refl
