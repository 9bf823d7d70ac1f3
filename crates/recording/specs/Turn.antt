-- What an action of a commit finds for a key at its turn (document 01, COMMIT), as bytes: what the last WRITE of the
-- key earlier in the recording left, a value or none, else the store's. Either is a body: the payload of the WRITE, or
-- the body that the store has for the key, which is empty where the key is absent. A body longer than the key is key,
-- NUL and value; any other gives no value. The server's `value_at_turn` says the same of values.
use Rattle.std.specs.Prelude.{ℕ, zero, suc, ◌+◌, ◌-◌, List, [], ◌∷◌, cond, eqb, ltb, length, drop}
use Rattle.std.proofs.Math.Option.{Option, some, none}
use Rattle.octets.specs.Octets.{Bytes}
use Rattle.octets.specs.Order.{same}
use Rattle.protocol.specs.Terms.{Action, hello, sub, unsub, read, write, ping, payload}
use Rattle.model.specs.Turn.{or_else, found_or}
use Rattle.recording.specs.Encoding.{action_at, row_size}
use Rattle.recording.specs.Region.{count_of, rows_of}

-- an action's payload, if it is a WRITE of the key
unfoldable pub body_for : Bytes → Action → Option Bytes
body_for k (hello t) = none
body_for k (sub p) = none
body_for k (unsub p) = none
body_for k (read x) = none
body_for k (write x v) = cond (same k x) (some (payload (write x v))) none
body_for k (ping i) = none

-- the payload of the last WRITE of the key among the actions, if there is one
unfoldable pub last_body : Bytes → List Action → Option Bytes
last_body k [] = none
last_body k (a ∷ xs) = or_else (last_body k xs) (body_for k a)

-- the value that a body gives the key
unfoldable pub value_in : Bytes → Bytes → Option Bytes
value_in k b = cond (ltb (length k) (length b)) (some (drop (length k + 1) b)) none

-- the actions of those of n rows in front that begin before the offset
unfoldable pub actions_before : ℕ → ℕ → Bytes → List Action
actions_before zero until s = []
actions_before (suc n) until s =
    cond (eqb until 0) [] (action_at s ∷ actions_before n (until - row_size s) (drop (row_size s) s))

-- the actions of a recording whose rows begin before the offset
unfoldable pub earlier : Bytes → ℕ → List Action
earlier r until = actions_before (count_of r) until (rows_of r)

-- what an action at the offset finds: the payload of the last WRITE of the key before it, else the store's body b
abbrev pub body_at_turn : Bytes → Bytes → ℕ → Bytes → Bytes
body_at_turn k r until b = found_or (last_body k (earlier r until)) b
