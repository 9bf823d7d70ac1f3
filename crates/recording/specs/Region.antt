-- The recording region of a slot: state 4 (0 none, 1 recording, 2 spoiled), used bytes 4, number of actions 4, then the
-- record room of R bytes, whose first used bytes are the actions' rows. Its rules (`recording_fine`) and its meaning
-- (`transaction_of`): what a client has recorded since its BEGIN (document 01, "The simple server", BEGIN), or that its
-- transaction is spoiled (document 02, P2). Numbers have the highest byte first. The bytes behind the rows have no
-- rule.
use Rattle.std.specs.Prelude.{ℕ, ◌-◌, List, Bool, cond, ◌&&◌, ◌||◌, eqb, leb, length}
use Rattle.octets.specs.Octets.{Bytes}
use Rattle.octets.specs.Part.{part}
use Rattle.octets.specs.Number.{number_at}
use Rattle.protocol.specs.Terms.{Action}
use Rattle.model.specs.State.{off, begun, spoiled, Transaction}
use Rattle.recording.specs.Encoding.{actions_from, rows_fine}

unfoldable pub state_of : Bytes → ℕ
state_of r = number_at 4 r 0

unfoldable pub used_of : Bytes → ℕ
used_of r = number_at 4 r 4

unfoldable pub count_of : Bytes → ℕ
count_of r = number_at 4 r 8

-- the record room R
abbrev pub room_of : Bytes → ℕ
room_of r = length r - 12

-- the bytes of the rows
unfoldable pub rows_of : Bytes → Bytes
rows_of r = part r 12 (used_of r)

-- the actions of the rows
unfoldable pub recorded : Bytes → List Action
recorded r = actions_from (count_of r) (rows_of r)

-- what a state means beside these actions
unfoldable pub transaction_in : ℕ → List Action → Transaction
transaction_in state xs = cond (eqb state 0) off (cond (eqb state 2) spoiled (begun xs))

-- what the region means: no transaction, one with the actions recorded so far, in order, or a spoiled one
abbrev pub transaction_of : Bytes → Transaction
transaction_of r = transaction_in (state_of r) (recorded r)

-- whether a region has the size of a recording: R is at most 262,144
unfoldable pub sized : Bytes → Bool
sized r = leb 12 (length r) && leb (length r) 262156

-- the state is 1, or it is 0 or 2 and no action is held
unfoldable pub state_fine : ℕ → ℕ → Bool
state_fine state n = eqb state 1 || (leb state 2 && eqb n 0)

-- The rules: the size; used bytes within R; at most 64 actions; a state that is known; and the used bytes are just so
-- many whole rows, so that in states 0 and 2 none is used.
unfoldable pub recording_fine : Bytes → Bool
recording_fine r =
    sized r
    && (leb (used_of r) (room_of r)
    && (leb (count_of r) 64
    && (state_fine (state_of r) (count_of r)
    && rows_fine (count_of r) (rows_of r))))
