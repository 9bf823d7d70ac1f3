-- What the test of the rows finds as it goes along them, so many rows at a time.
use Rattle.std.specs.Prelude.{ℕ, ◌+◌, ◌≤◌, ◌≡◌, ◌++◌, true, false, length, drop, Option, None, Some}
use Rattle.octets.specs.Octets.{Bytes}
use Rattle.model.specs.Store.{Store, store_charge}
use Rattle.store.specs.declared.check.Walk.{Walk}
use Rattle.store.specs.Row.{row_fine}
use Rattle.store.specs.Region.{key_before, rows_fine, entries}

-- where a walk has come to: an offset within s, and if a row stands there, one stands at prev, which is before it
pub record Reached (s : Bytes) (prev at : ℕ) : Type 0 where
  pub within : at ≤ length s
  pub row_before : row_fine (drop at s) ≡ true → row_fine (drop prev s) ≡ true

-- n rows from offset `at` on pass, and the walk is at at' behind the row at prev': the answer for all rows from `at`
-- on is the answer for those from at' on, and the offsets are as far apart as the entries between them charge
pub record Passed (s : Bytes) (prev at n prev' at' : ℕ) : Type 0 where
  pub reached : Reached s prev' at'
  pub same_answer : (more : ℕ)
      → rows_fine (key_before s prev at) (n + more) (drop at s) ≡ rows_fine (key_before s prev' at') more (drop at' s)
  pub between : Store
  pub whole : (more : ℕ) → entries (n + more) (drop at s) ≡ between ++ entries more (drop at' s)
  pub distance : at' ≡ at + store_charge between

-- of n rows from offset `at` on one does not pass
pub record Failed (s : Bytes) (prev at n : ℕ) : Type 0 where
  pub answer : (more : ℕ) → rows_fine (key_before s prev at) (n + more) (drop at s) ≡ false

-- one or the other
abbrev pub Walked : Bytes → Walk → ℕ → Option Walk → Type 0
Walked s from n None = Failed s from.prev from.at n
Walked s from n (Some to) = Passed s from.prev from.at n to.prev to.at
