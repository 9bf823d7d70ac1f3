-- The tally that a commit is tried out with: what the store charges and how many entries it has at a turn, and how a
-- WRITE changes both (document 01, "The simple server": an entry charges 8 plus the lengths of key and value; the sum
-- may not pass S, nor the entries 1,024). The row of an entry is as long as the entry charges; a size of 0 stands for
-- no row.
use Rattle.std.specs.Prelude.{ℕ, zero, suc, ◌+◌, ◌-◌, ◌≤◌, ◌<◌, ◌≡◌, true, cond, ◌&&◌, leb, length, Option, None, Some}
use Rattle.command.specs.declared.Written.{Written}
use Rattle.command.specs.declared.Written.TheVariants.{Delete, Value}
use Rattle.model.specs.Store.{Store, store_charge, store_fits}
use Rattle.store.specs.Operation.{row_count}
use Rattle.commit.specs.declared.Tally.{Tally}

-- the size of the row that a WRITE leaves for a key of n bytes
abbrev pub written_size : ℕ → Written → ℕ
written_size n Delete = 0
written_size n (Value start len) = 8 + n + len

-- the size of the row that has a body of n bytes, which is key, NUL and value; an empty one is that of an absent key
abbrev pub body_size : ℕ → ℕ
body_size zero = 0
body_size (suc n) = 8 + n

-- the numbers of the store s, which keeps its limits
pub record TallyOf (S : ℕ) (s : Store) (t : Tally) : Type 0 where
  pub used : t.used ≡ store_charge s
  pub count : t.count ≡ length s
  pub fits : store_fits S s ≡ true

-- the tally without a row of n bytes
unfoldable pub less : Tally → ℕ → Tally
less t n = record { used = t.used - n; count = t.count - row_count n }

-- the tally with a row of n bytes; none where a limit would be broken
unfoldable pub more : ℕ → Tally → ℕ → Option Tally
more S t n =
    cond (leb (t.used + n) S && leb (t.count + row_count n) 1024)
    (Some (record { used = t.used + n; count = t.count + row_count n }))
    None

-- a tally within the limits that counts a row of `old` bytes, and a row of an entry
pub record Exchangeable (S : ℕ) (t : Tally) (old new : ℕ) : Type 0 where
  pub used : t.used ≤ S
  pub count : t.count ≤ 1024
  pub old-charge : old ≤ t.used
  pub old-count : row_count old ≤ t.count
  pub room-small : S < 9223372036854775808
  pub new-short : new ≤ 65542
