-- What the functions of this crate ask and ensure.
use Rattle.std.specs.Prelude.{ℕ, ◌+◌, ◌*◌, ◌≤◌, ◌<◌, ◌≡◌, true, false, length}
use Rattle.std.proofs.lemmas.List.Edits.{sets}
use Rattle.octets.specs.Octets.{Bytes}
use Rattle.octets.specs.Order.{same}
use Rattle.octets.specs.Part.{part}
use Rattle.model.specs.Patterns.{Patterns, add_pattern}
use Rattle.subscriptions.specs.Region.{cell_at, patterns_of, subscriptions_fine}

-- an operation on the region s leaves s': a fine region of the same length that means ps
pub record Becomes (ps : Patterns) (s s' : Bytes) : Type 0 where
  pub fine : subscriptions_fine s' ≡ true
  pub size : length s' ≡ length s
  pub holds : patterns_of s' ≡ ps

-- a pattern that a cell can hold, and that is at most the sixteenth
pub record Addable (s p : Bytes) : Type 0 where
  pub fine : subscriptions_fine s ≡ true
  pub short : length p ≤ 255
  pub few : length (add_pattern p (patterns_of s)) ≤ 16

-- a cell of the region
pub record CellOf (s : Bytes) (i : ℕ) : Type 0 where
  pub size : length s ≡ 4100
  pub index : i < 16

-- a cell of the region, and one that is not behind it
pub record Places (s : Bytes) (from to : ℕ) : Type 0 where
  pub cell : CellOf s from
  pub order : to ≤ from

-- the pattern of a cell is dropped if it is p, and else the cell is copied to the place `to`; n counts those kept
pub data Kept (s p : Bytes) (from to n : ℕ) (s' : Bytes) : Type 0 where
  dropped : same p (cell_at s from) ≡ true → n ≡ to → s' ≡ s → Kept s p from to n s'
  kept : same p (cell_at s from) ≡ false → n ≡ to + 1 → s' ≡ sets s (4 + to * 256) (part s (4 + from * 256) 256)
      → Kept s p from to n s'
