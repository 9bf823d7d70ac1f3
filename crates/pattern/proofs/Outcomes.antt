-- Laws of outcomes: steps added, elements in a row, and branches tried in turn.
use mathlib.Core.Path.{◌≡◌, refl}
use mathlib.Core.Bool.{true, false}
use Prim.Native.Nat.{ℕ, ◌+◌, ◌≤◌}
use native.Mathlib.Nat.{zero-add, add_assoc}
use native.Mathlib.Omega.{arith}
use lib.ListN.{drop}
use Rattle.std.specs.Prelude.{Option, Some, None}
use Rattle.std.specs.Option.{is_some}
use Rattle.octets.specs.Octets.{Bytes}
use Rattle.pattern.specs.Tree.{Branches, Level, last, ◌or◌, outside, inside, branches, first, sequence}
use Rattle.pattern.specs.Matching.{Outcome, hit, miss, more, and_then, or_else, seq_m, branch_m}
use Rattle.pattern.specs.Answer.{steps_of}
use Rattle.pattern.specs.Places.{reported}

pub more-zero : (o : Outcome) → o ≡ more 0 o
unfolding more
more-zero (hit k n) = rw zero-add
more-zero (miss n) = rw zero-add

pub more-more : (a b : ℕ) (o : Outcome) → more a (more b o) ≡ more (a + b) o
unfolding more
more-more a b (hit k n) = rw add_assoc
more-more a b (miss n) = rw add_assoc

pub steps-more : (n : ℕ) (o : Outcome) → steps_of (more n o) ≡ n + steps_of o
unfolding more steps_of
steps-more n (hit k m) = refl
steps-more n (miss m) = refl

pub steps-reported : (key : Bytes) (r : Option ℕ) (n : ℕ) → steps_of (reported key r n) ≡ n
unfolding steps_of
steps-reported key (Some k) n = refl
steps-reported key None n = refl

pub more-reported : (m : ℕ) (key : Bytes) (r : Option ℕ) (n : ℕ) → more m (reported key r n) ≡ reported key r (m + n)
unfolding more
more-reported m key (Some k) n = refl
more-reported m key None n = refl

pub reported-none : (key : Bytes) (r : Option ℕ) (n : ℕ) → is_some r ≡ false → reported key r n ≡ miss n
reported-none key None n e = refl
reported-none key (Some k) n e = let z : true ≡ false = e in cc

pub steps_then : (o : Outcome) (f : Bytes → Outcome) → steps_of o ≤ steps_of (and_then o f)
unfolding and_then steps_of
steps_then (hit k n) f = omega (arith, steps-more n (f k))
steps_then (miss n) f = omega arith

steps-else : (o p : Outcome) → steps_of o ≤ steps_of (or_else o p)
unfolding or_else steps_of
steps-else (hit k n) p = omega arith
steps-else (miss n) p = omega (arith, steps-more n p)

-- The branches at a key, by the one that comes first: it matches, it is the last, or another follows.
first-hit : (l : Level) (k k₁ : Bytes) (n : ℕ) → seq_m (sequence l) k ≡ hit k₁ n → branch_m (branches l) k ≡ hit k₁ n
unfolding branches sequence first branch_m or_else
first-hit (outside s) k k₁ n e = e
first-hit (inside (last s) up) k k₁ n e = e
first-hit (inside (s or b) up) k k₁ n e = rw e

pub branch-hit : (l : Level) (k key : Bytes) (r : Option ℕ) (n : ℕ) → is_some r ≡ true
    → seq_m (sequence l) k ≡ reported key r n → branch_m (branches l) k ≡ reported key r n
branch-hit l k key (Some k₁) n t e = first-hit l k (drop k₁ key) n e
branch-hit l k key None n t e = let z : false ≡ true = t in cc

pub branch-last : (l : Level) (k : Bytes) → branches l ≡ last (sequence l)
    → branch_m (branches l) k ≡ seq_m (sequence l) k
unfolding branch_m
branch-last l k e = rw e

pub branch-next : (l : Level) (b : Branches) (k : Bytes) (n : ℕ) → branches l ≡ sequence l or b
    → seq_m (sequence l) k ≡ miss n → branch_m (branches l) k ≡ more n (branch_m b k)
unfolding branch_m or_else
branch-next l b k n e q = rw (e, q)

pub steps-branch : (l : Level) (k : Bytes) → steps_of (seq_m (sequence l) k) ≤ steps_of (branch_m (branches l) k)
unfolding branches sequence first branch_m
steps-branch (outside s) k = omega arith
steps-branch (inside (last s) up) k = omega arith
steps-branch (inside (s or b) up) k = steps-else (seq_m s k) (branch_m b k)
