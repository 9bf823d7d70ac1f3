-- What the functions of the module walk ensure of places in a pattern and in a key. The walk is stated over any `lev`
-- and `size` (see Places).
use Rattle.std.specs.Prelude.{ℕ, ◌≤◌, ◌<◌, ◌≡◌, length, drop}
use Rattle.octets.specs.Octets.{Bytes}
use Rattle.pattern.specs.declared.walk.Walk.{Walk}
use Rattle.pattern.specs.declared.walk.Turn.{Turn}
use Rattle.pattern.specs.declared.walk.Turn.TheVariants as Turns
use Rattle.pattern.specs.declared.Verdict.{Verdict}
use Rattle.pattern.specs.Tree.{Level, done, last, ◌or◌, inside, branches, above, on_seq, sequence}
use Rattle.pattern.specs.Matching.{Outcome, seq_m, branch_m}
use Rattle.pattern.specs.Answer.{outcome, whole, steps_of}
use Rattle.pattern.specs.Places.{tree_at, reported, GoesOn}

-- A level with its sequence walked to the end.
unfoldable pub ended : Level → Level
ended = on_seq (λ s. done)

-- At the end of the branch that `at` is in another one follows, from `next` on.
pub record Continues (lev : ℕ → Level) (size at next : ℕ) : Type 0 where
  pub on : at < next
  pub within : next ≤ size
  pub is : ended (lev at) ≡ inside (done or branches (lev next)) (above (lev next))

-- `next` stands past the group that `at` is in.
pub record PastGroup (lev : ℕ → Level) (size at next : ℕ) : Type 0 where
  pub on : at ≤ next
  pub within : next ≤ size
  pub is : lev next ≡ above (lev at)

-- `r` says what stands at the end of the branch that `at` is in.
abbrev pub NextBranch : (ℕ → Level) → ℕ → ℕ → Turn → Type 0
NextBranch lev size at (Turns.Another next) = Continues lev size at next
NextBranch lev size at (Turns.Over next) = PastGroup lev size at next × (branches (ended (lev at)) ≡ last done)

-- The contracts over the bytes of a pattern.
abbrev pub NextBranchAt : Bytes → ℕ → Turn → Type 0
NextBranchAt p at r = NextBranch (tree_at p) (length p) at r

abbrev pub PastGroupAt : Bytes → ℕ → ℕ → Type 0
PastGroupAt p at r = PastGroup (tree_at p) (length p) at r

-- What a walk asks: places within, and lengths that a match allows.
pub record Short (p key : Bytes) (at k : ℕ) : Type 0 where
  pub at-within : at ≤ length p
  pub key-within : k ≤ length key
  pub p-short : length p ≤ 255
  pub key-short : length key ≤ 65535

-- A walk from `at` is at `r.at`, and reports the outcome o.
pub record Reports (size : ℕ) (key : Bytes) (at : ℕ) (o : Outcome) (r : Walk) : Type 0 where
  pub on : at ≤ r.at
  pub within : r.at ≤ size
  pub key-within : GoesOn key r.key
  pub is : o ≡ reported key r.key r.steps

-- The walk along the sequence from `at` on stands in the same branch.
pub record Walked (lev : ℕ → Level) (size : ℕ) (key : Bytes) (at k : ℕ) (r : Walk) : Type 0 where
  pub outcome : Reports size key at (seq_m (sequence (lev at)) (drop k key)) r
  pub stands : ended (lev r.at) ≡ ended (lev at)

-- The walk over the branches from `at` on stands past the group.
pub record WalkedOver (lev : ℕ → Level) (size : ℕ) (key : Bytes) (at k : ℕ) (r : Walk) : Type 0 where
  pub outcome : Reports size key at (branch_m (branches (lev at)) (drop k key)) r
  pub stands : lev r.at ≡ above (lev at)

-- The contracts over the bytes of a pattern.
abbrev pub WalkedAt : Bytes → Bytes → ℕ → ℕ → Walk → Type 0
WalkedAt p key at k r = Walked (tree_at p) (length p) key at k r

abbrev pub WalkedOverAt : Bytes → Bytes → ℕ → ℕ → Walk → Type 0
WalkedOverAt p key at k r = WalkedOver (tree_at p) (length p) key at k r

-- `r` is the yes or no and the steps of the whole pattern at the key.
pub record Ran (p key : Bytes) (r : Verdict) : Type 0 where
  pub matched : r.matched ≡ whole (outcome p key)
  pub steps : r.steps ≡ steps_of (outcome p key)
