-- The protocol's terms (documents 000 and 01): what a client says, what the server says, and how both stand as an ID
-- and a payload. `Protocol` is what other crates define of it: reading, writing and matching. The simple server is
-- defined over any of them.
use Rattle.std.specs.Prelude.{ℕ, [], ◌∷◌, ◌++◌, Bool}
use Rattle.std.proofs.Math.Option.{Option, some, none}
use Rattle.octets.specs.Octets.{Bytes, ascii}
use Rattle.protocol.specs.declared.Kind.{Kind}
use Rattle.protocol.specs.declared.Refusal.{Refusal}
use Rattle.protocol.specs.declared.Refusal.TheVariants.{Unknown, Parameter, Room, State}

-- ---- refusals

-- the number that a refused command is answered with, and that its ERROR carries
abbrev pub number : Refusal → ℕ
number Unknown = 100
number Parameter = 101
number Room = 102
number State = 103

-- the text of its ERROR
unfoldable pub reason : Refusal → Bytes
reason Unknown = ascii "unknown message"
reason Parameter = ascii "bad parameter"
reason Room = ascii "no room"
reason State = ascii "bad state"

-- ---- what a client says

-- an action: a command that runs, at once or at its turn in a commit, which is any but BEGIN and COMMIT. HELLO holds
-- its payload. A WRITE without a value deletes.
pub data Action : Type 0 where
  hello sub unsub read : Bytes → Action
  write : Bytes → Option Bytes → Action
  ping : Bytes → Action

-- a command: BEGIN, COMMIT or an action
pub data Command : Type 0 where
  begin commit : Command
  plain : Action → Command

-- NUL and a value, or nothing: how the payloads of WRITE and INFO go on after the key
unfoldable pub value_tail : Option Bytes → Bytes
value_tail none = []
value_tail (some v) = 0 ∷ v

-- an action's payload in binary form
unfoldable pub payload : Action → Bytes
payload (hello t) = t
payload (sub p) = p
payload (unsub p) = p
payload (read k) = k
payload (write k v) = k ++ value_tail v
payload (ping i) = i

-- an action's ID
abbrev pub action_id : Action → ℕ
action_id (hello t) = 0
action_id (sub p) = 1
action_id (unsub p) = 2
action_id (read k) = 3
action_id (write k v) = 4
action_id (ping i) = 7

-- ---- what the server says

-- VERSION is always version 0 with an empty text. An INFO without a value says that its key is absent.
pub data Message : Type 0 where
  version : Message
  info : Bytes → Option Bytes → Message
  pong : Bytes → Message
  error : Refusal → Message

-- a message's ID
abbrev pub message_id : Message → ℕ
message_id version = 128
message_id (info k v) = 129
message_id (pong i) = 130
message_id (error r) = 131

-- a message's payload in binary form
unfoldable pub message_payload : Message → Bytes
message_payload version = 0 ∷ []
message_payload (info k v) = k ++ value_tail v
message_payload (pong i) = i
message_payload (error r) = number r ∷ reason r

-- ---- reading, writing and matching

-- what one whole message of a client is: a blank line, a command, or refused as it is read
pub data Reading : Type 0 where
  blank : Reading
  command : Command → Reading
  invalid : Refusal → Reading

-- the front of an input: not a whole message yet; or its length, the client's kind from it on, and what it is
pub data Cut : Type 0 where
  incomplete : Cut
  whole : ℕ → Kind → Reading → Cut

-- the first message of an input, a message as bytes, and whether a pattern matches a key
pub record Protocol : Type 0 where
  pub cut : Kind → Bytes → Cut
  pub written : Kind → Message → Bytes
  pub matches : Bytes → Bytes → Bool
