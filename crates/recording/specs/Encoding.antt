-- A recorded action as an ID and a payload, and as a row of bytes (document 01, "From bytes to one command" and
-- BEGIN): ID 1, payload length 3, payload. A row is as long as the action charges, its payload plus 4. Every reading
-- is total: what is not there reads as 0.
use Rattle.std.specs.Prelude.{ℕ, zero, suc, ◌+◌, List, [], ◌∷◌, ◌++◌, Bool, true, cond, not, ◌&&◌, ◌||◌, eqb, leb, length, take, drop, get_or}
use Rattle.std.proofs.Math.Option.{Option, some, none}
use Rattle.octets.specs.Octets.{Bytes, has_nul, first_nul}
use Rattle.octets.specs.Part.{part}
use Rattle.octets.specs.Number.{number_at, big_endian}
use Rattle.protocol.specs.Terms.{Action, hello, sub, unsub, read, write, ping}

-- ---- an ID and a payload

-- how a WRITE goes on after its key: with NUL and a value, or not at all, which deletes
unfoldable pub value_behind : Bytes → Option Bytes
value_behind [] = none
value_behind (b ∷ v) = some v

-- the key of a WRITE's payload runs to the first NUL
abbrev pub key_in : Bytes → Bytes
key_in p = take (first_nul p) p

-- "WRITE is a key, then optionally NUL and a value that may hold NULs"
unfoldable pub write_from : Bytes → Action
write_from p = write (key_in p) (value_behind (drop (first_nul p) p))

-- the action of an ID and a payload: 0 HELLO, 1 SUB, 2 UNSUB, 3 READ, 4 WRITE, and any other counts as PING
unfoldable pub action_of : ℕ → Bytes → Action
action_of id p =
    cond (eqb id 0) (hello p)
    (cond (eqb id 1) (sub p)
    (cond (eqb id 2) (unsub p)
    (cond (eqb id 3) (read p)
    (cond (eqb id 4) (write_from p) (ping p)))))

-- whether an action reads back from its ID and payload: the key of a WRITE has no NUL
unfoldable pub reads_back : Action → Bool
reads_back (hello t) = true
reads_back (sub p) = true
reads_back (unsub p) = true
reads_back (read k) = true
reads_back (write k v) = not (has_nul k)
reads_back (ping i) = true

-- whether an action of this ID and payload length can be recorded: SUB or UNSUB with a pattern of at most 255 bytes, or
-- HELLO, READ, WRITE or PING with a payload of at most 65,535
unfoldable pub action_fine : ℕ → ℕ → Bool
action_fine id n = cond (eqb id 1 || eqb id 2) (leb n 255) ((leb id 4 || eqb id 7) && leb n 65535)

-- ---- rows

-- an ID and a payload as a row
unfoldable pub row_of : ℕ → Bytes → Bytes
row_of id p = id ∷ big_endian 3 (length p) ++ p

-- the size of the row in front
unfoldable pub row_size : Bytes → ℕ
row_size s = 4 + number_at 3 s 1

-- the payload of the row in front
unfoldable pub row_payload : Bytes → Bytes
row_payload s = part s 4 (number_at 3 s 1)

-- the action of the row in front
unfoldable pub action_at : Bytes → Action
action_at s = action_of (get_or s 0 0) (row_payload s)

-- whether a whole row of an action that can be recorded stands in front
unfoldable pub row_fine : Bytes → Bool
row_fine s = leb 4 (length s) && (action_fine (get_or s 0 0) (number_at 3 s 1) && leb (row_size s) (length s))

-- the actions of the n rows in front
unfoldable pub actions_from : ℕ → Bytes → List Action
actions_from zero s = []
actions_from (suc n) s = action_at s ∷ actions_from n (drop (row_size s) s)

-- the offset at which row i begins: all that the rows before it take up
unfoldable pub offset_of : ℕ → Bytes → ℕ
offset_of zero s = 0
offset_of (suc i) s = row_size s + offset_of i (drop (row_size s) s)

-- whether the bytes are n whole rows and nothing more
unfoldable pub rows_fine : ℕ → Bytes → Bool
rows_fine zero s = eqb (length s) 0
rows_fine (suc n) s = row_fine s && rows_fine n (drop (row_size s) s)
