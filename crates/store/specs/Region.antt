-- The store region: used bytes 4, number of entries 4, and the room, whose first `used` bytes are the rows. So the
-- memory holds document 01's store ("The simple server"). `store_fine` is the test of the layout, `store_of` the
-- meaning; both are total. Bytes of the room behind the rows may be anything. The room is the region less its head of
-- 8 bytes.
use Rattle.std.specs.Prelude.{ℕ, zero, suc, ◌+◌, ◌-◌, [], ◌∷◌, Bool, true, cond, ◌&&◌, leb, eqb, length, drop}
use Rattle.std.proofs.Math.Option.{Option, some, none}
use Rattle.std.proofs.lemmas.List.Edits.{sets}
use Rattle.octets.specs.Octets.{Bytes}
use Rattle.octets.specs.Part.{part}
use Rattle.octets.specs.Number.{number_at, big_endian}
use Rattle.octets.specs.Order.{before}
use Rattle.model.specs.Store.{Store}
use Rattle.store.specs.Row.{row_fine, row_size, key_of, entry_of}

-- the used bytes of the room
abbrev pub used_of : Bytes → ℕ
used_of st = number_at 4 st 0

-- the number of entries
abbrev pub count_of : Bytes → ℕ
count_of st = number_at 4 st 4

-- the length of the room, S
abbrev pub room_of : Bytes → ℕ
room_of st = length st - 8

-- the rows, one behind the other
unfoldable pub rows_of : Bytes → Bytes
rows_of st = part st 8 (used_of st)

-- whether a key comes after the one before it, where there is one
unfoldable pub follows : Option Bytes → Bytes → Bool
follows none k = true
follows (some j) k = before j k

-- the key before the row at offset `at` of s, where the row before it is at prev; the row at 0 has none before it
unfoldable pub key_before : Bytes → ℕ → ℕ → Option Bytes
key_before s prev at = cond (eqb at 0) none (some (key_of (drop prev s)))

-- whether the key of the row at offset `at` comes after that of the row before it
unfoldable pub key_follows : Bytes → ℕ → ℕ → Bool
key_follows s prev at = follows (key_before s prev at) (key_of (drop at s))

-- whether s is n whole rows and nothing else, each key after the one before it; p is the key before the first
unfoldable pub rows_fine : Option Bytes → ℕ → Bytes → Bool
rows_fine p zero s = eqb (length s) 0
rows_fine p (suc n) s = row_fine s && (follows p (key_of s) && rows_fine (some (key_of s)) n (drop (row_size s) s))

-- whether the region holds a store: its head is there; the rows are within the room; at most 1,024 entries; as many
-- whole rows as there are entries, keys strictly ascending
unfoldable pub store_fine : Bytes → Bool
store_fine st =
    leb 8 (length st)
    && (leb (8 + used_of st) (length st)
    && (leb (count_of st) 1024
    && rows_fine none (count_of st) (rows_of st)))

-- the region with these numbers in its head
abbrev pub headed : Bytes → ℕ → ℕ → Bytes
headed st used count = sets (sets st 0 (big_endian 4 used)) 4 (big_endian 4 count)

-- n entries from the front of s
unfoldable pub entries : ℕ → Bytes → Store
entries zero s = []
entries (suc n) s = entry_of s ∷ entries n (drop (row_size s) s)

-- the store that the region holds
unfoldable pub store_of : Bytes → Store
store_of st = entries (count_of st) (rows_of st)
