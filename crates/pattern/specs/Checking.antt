-- What the functions of the modules token and syntax ensure of a place in a pattern.
use Rattle.std.specs.Prelude.{ℕ, ◌+◌, ◌≤◌, ◌<◌, ◌≡◌, List, ◌∷◌, Bool, true, false, cond, ltb, length, drop}
use Rattle.std.specs.Prelude.{Option, Some, None}
use Rattle.octets.specs.Octets.{Bytes}
use Rattle.pattern.specs.declared.token.Token.{Token}
use Rattle.pattern.specs.declared.token.Lexeme.{Lexeme}
use Rattle.pattern.specs.Tokens.{tokens}
use Rattle.pattern.specs.Syntax.{fits}

-- The tokens from a place of the pattern on.
unfoldable pub tokens_at : Bytes → ℕ → List Token
tokens_at p at = tokens (drop at p)

-- `r` is the token at `at`.
pub record TokenAt (p : Bytes) (at : ℕ) (r : Lexeme) : Type 0 where
  pub is : tokens_at p at ≡ r.token ∷ tokens_at p r.next
  pub on : at < r.next
  pub within : r.next ≤ length p

-- What is left to check past the end of a group, and past the end of the pattern.
abbrev pub fits_past : ℕ → List Token → Bool
fits_past left ts = cond (ltb left 4) (fits (left + 1) ts) true

-- The check from `at` to the end of its group, or of the pattern, stops at `end`.
pub record CheckedUpto (p : Bytes) (at left end : ℕ) : Type 0 where
  pub on : at ≤ end
  pub within : end ≤ length p
  pub is : fits left (tokens_at p at) ≡ fits_past left (tokens_at p end)

-- The check from `at` on stops at `r`, or finds the pattern invalid.
abbrev pub CheckedAt : Bytes → ℕ → ℕ → Option ℕ → Type 0
CheckedAt p at left (Some end) = CheckedUpto p at left end
CheckedAt p at left None = fits left (tokens_at p at) ≡ false
