-- A queue as bytes (document 01, "Queues"): the untaken messages one behind the other, each with its length in four
-- bytes before it, the highest first. So a message takes up just what it charges, its encoded length plus 4, and the
-- charge of a queue is its length.
-- Taking is defined for any bytes, also for those that no message was queued to: a length that passes the end means the
-- rest, and fewer than four bytes are one empty message. Of queued messages it gives them back (proofs/Rows).
use Rattle.std.specs.Prelude.{List, [], ◌∷◌, ◌++◌, Bool, true, false, ℕ, ◌+◌, ◌-◌, min, length, take, drop}
use Rattle.octets.specs.Octets.{Bytes}
use Rattle.octets.specs.Number.{number_at, big_endian}

-- a message as a queue holds it: its length, then its bytes
unfoldable pub row : Bytes → Bytes
row m = big_endian 4 (length m) ++ m

-- messages one behind the other
unfoldable pub rows : List Bytes → Bytes
rows [] = []
rows (m ∷ ms) = row m ++ rows ms

-- whether no message is left
unfoldable pub is_empty : Bytes → Bool
is_empty [] = true
is_empty (b ∷ s) = false

-- the length of the first message: what its four bytes say, or as many bytes as there are behind them
unfoldable pub first_length : Bytes → ℕ
first_length b = min (number_at 4 b 0) (length b - 4)

-- the first message
unfoldable pub first_message : Bytes → Bytes
first_message b = take (first_length b) (drop 4 b)

-- what is behind it
unfoldable pub behind_first : Bytes → Bytes
behind_first b = drop (4 + first_length b) b
