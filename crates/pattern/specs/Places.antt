-- What the functions of the modules element and part ensure of a place in a key and a place in a pattern.
-- `lev` gives what stands from each place of a pattern on; the pattern has `size` places. `tree_at` is that of a
-- pattern's bytes.
use Rattle.std.specs.Prelude.{ℕ, ◌+◌, ◌≤◌, ◌≡◌, ◌∷◌, Option, Some, None, IfSome, length, drop}
use Rattle.octets.specs.Octets.{Bytes}
use Rattle.pattern.specs.declared.token.Token.{Token}
use Rattle.pattern.specs.declared.token.Token.TheVariants.{Open, Bar, Close, Star, Any, Byte, Backslash}
use Rattle.pattern.specs.declared.element.Simple.TheVariants as Simples
use Rattle.pattern.specs.declared.element.Taken.{Taken}
use Rattle.pattern.specs.declared.part.Found.{Found}
use Rattle.pattern.specs.declared.part.Found.TheVariants as Finds
use Rattle.pattern.specs.Parts.{Part, one, opening, bar, closing, parts}
use Rattle.pattern.specs.Tree.{Level, grow, tree}
use Rattle.pattern.specs.Matching.{Outcome, hit, miss}
use Rattle.pattern.specs.Checking.{tokens_at}

-- The outcome that code reports as the place where the key goes on, or none, and steps.
abbrev pub reported : Bytes → Option ℕ → ℕ → Outcome
reported key (Some k) n = hit (drop k key) n
reported key None n = miss n

-- The key goes on within it, where it goes on.
abbrev pub GoesOn : Bytes → Option ℕ → Type 0
GoesOn key r = IfSome r (λ k. k ≤ length key)

-- `r` is what f does at the key from k on.
pub record Took (f : Bytes → Outcome) (key : Bytes) (k : ℕ) (r : Taken) : Type 0 where
  pub is : f (drop k key) ≡ reported key r.key r.steps
  pub within : GoesOn key r.key

-- The level from a place of the pattern on.
abbrev pub tree_at : Bytes → ℕ → Level
tree_at p at = tree (parts (tokens_at p at))

-- The part of a `*` before a token at `at`, with the next one at `next`.
abbrev pub star_of : Token → ℕ → ℕ → Found
star_of (Byte c) at next = Finds.One (Simples.Upto c) next
star_of Any at next = Finds.One Simples.Any next
star_of Bar at next = Finds.One Simples.Rest at
star_of Close at next = Finds.One Simples.Rest at
star_of Open at next = Finds.One Simples.Rest at
star_of Star at next = Finds.One Simples.Rest at
star_of Backslash at next = Finds.One Simples.Rest at

-- The level l starts with the part x, and the next part starts at `next`, which is `low` or more.
pub record Starts (lev : ℕ → Level) (size low next : ℕ) (l : Level) (x : Part) : Type 0 where
  pub on : low ≤ next
  pub within : next ≤ size
  pub is : l ≡ grow x (lev next)

-- The level l starts with the part that `r` says.
abbrev pub StartsWith : (ℕ → Level) → ℕ → ℕ → Level → Found → Type 0
StartsWith lev size low l (Finds.One x next) = Starts lev size low next l (one x)
StartsWith lev size low l (Finds.Open next) = Starts lev size low next l opening
StartsWith lev size low l (Finds.Bar next) = Starts lev size low next l bar
StartsWith lev size low l (Finds.Close next) = Starts lev size low next l closing

-- `r` is the part at `at`.
abbrev pub PartAt : Bytes → ℕ → Found → Type 0
PartAt p at r = StartsWith (tree_at p) (length p) (at + 1) (tree_at p at) r

-- `r` is the part of a `*` that stands right before `at`.
abbrev pub StarAt : Bytes → ℕ → Found → Type 0
StarAt p at r = StartsWith (tree_at p) (length p) at (tree (parts (Star ∷ tokens_at p at))) r
