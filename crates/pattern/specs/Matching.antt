-- Matching and its steps: document 01, "Patterns", from "Matching goes left to right by bytes" to "Nothing else costs."
use Rattle.std.specs.Prelude.{ℕ, ◌+◌, [], ◌∷◌, Bool, true, cond, eqb}
use Rattle.octets.specs.Octets.{Bytes}
use Rattle.pattern.specs.declared.element.Simple.{Simple}
use Rattle.pattern.specs.declared.element.Simple.TheVariants.{Byte, Any, Upto, Rest}
use Rattle.pattern.specs.Tree.{Elem, Seq, Branches, simple, group, done, ◌▸◌, last, ◌or◌}

-- What a piece of a pattern does at a key: it matches, leaves these bytes of the key and took so many steps;
-- or it does not match, after so many steps.
pub data Outcome : Type 0 where
  hit : Bytes → ℕ → Outcome
  miss : ℕ → Outcome

-- The same outcome, n steps later.
unfoldable pub more : ℕ → Outcome → Outcome
more n (hit k m) = hit k (n + m)
more n (miss m) = miss (n + m)

-- Both in a row: where the first matches, the second on the bytes that it leaves.
unfoldable pub and_then : Outcome → (Bytes → Outcome) → Outcome
and_then (hit k n) f = more n (f k)
and_then (miss n) f = miss n

-- One or the other: the second where the first does not match.
unfoldable pub or_else : Outcome → Outcome → Outcome
or_else (hit k n) o = hit k n
or_else (miss n) o = more n o

-- "takes everything up to and including the next c": one step "for each byte it looks at, and one more if it runs off
-- the end".
unfoldable pub upto : ℕ → Bytes → Outcome
upto c [] = miss 1
upto c (x ∷ k) = more 1 (cond (eqb x c) (hit k 0) (upto c k))

-- A byte that the test holds for, at the cost of 1, "also at the key's end".
unfoldable pub single : (ℕ → Bool) → Bytes → Outcome
single test [] = miss 1
single test (x ∷ k) = cond (test x) (hit k 1) (miss 1)

-- What an element that is no group does at a key.
unfoldable pub simple_m : Simple → Bytes → Outcome
-- "An ordinary byte, or \ and a byte, matches that byte."
simple_m (Byte c) k = single (λ x. eqb x c) k
-- "`?` matches one byte."
simple_m Any k = single (λ x. true) k
simple_m (Upto c) k = upto c k
-- "takes the rest of the key", at the cost of 1
simple_m Rest k = hit [] 1

unfoldable mutual
  -- What any element does: a group does what its branches do, and costs nothing itself.
  pub elem_m : Elem → Bytes → Outcome
  elem_m (simple x) k = simple_m x k
  elem_m (group b) k = branch_m b k

  -- "Matching goes left to right."
  pub seq_m : Seq → Bytes → Outcome
  seq_m done k = hit k 0
  seq_m (e ▸ s) k = and_then (elem_m e k) (seq_m s)

  -- "A group tries its branches in order, each from where the group began, and keeps the first that matches; nothing is
  -- tried again after that."
  pub branch_m : Branches → Bytes → Outcome
  branch_m (last s) k = seq_m s k
  branch_m (s or b) k = or_else (seq_m s k) (branch_m b k)
