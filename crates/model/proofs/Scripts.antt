-- Examples of the simple server: a script, the answer to each of its lines, and what then waits in the slots.
use Prim.Native.Nat.{ℕ, zero, suc}
use mathlib.Core.List.{List, [], ◌∷◌, map}
use lib.ListN.{replicate}
use Rattle.octets.specs.Octets.{Bytes, ascii}
use Rattle.protocol.specs.Terms.{sub, Message, Protocol}
use Rattle.protocol.specs.declared.Kind.{Kind}
use Rattle.protocol.specs.declared.Kind.TheVariants.{Framed}
use Rattle.model.specs.State.{Sizes, Slot, free, used, State, empty_server, slot_at}
use Rattle.model.specs.Queue.{encoded}
use Rattle.model.specs.Decision.{opens, Reply}
use Rattle.model.specs.Calls.{after_calls, replies_to}
use Rattle.model.proofs.Definitions.{definitions}
use Rattle.model.proofs.Tiny.{tiny_in, Line, ◌says◌, reading_of, calls_of, tiny-definitions}

-- slots 0 and 1 are opened as streams, and then the lines run: the answer to each line, and what then waits in the
-- slots
pub record Example : Type 0 where
  pub sizes : Sizes
  pub lines : List Line
  pub answers : List ℕ
  pub queue-0 : List Message
  pub queue-1 : List Message

-- the answers, and the two queues as bytes
abbrev pub Result : Type 0
Result = List ℕ × List Bytes × List Bytes

unfoldable pub queue_in : Slot → List Bytes
queue_in free = []
queue_in (used c) = c.queue

abbrev pub answer_of : Reply → ℕ
answer_of r = r.answer

-- with streams that become of this kind
module _ (kind : Kind) where
  abbrev pub protocol_of : Example → Protocol
  protocol_of e = tiny_in kind (map reading_of e.lines)

  unfoldable pub start : Example → State
  start e = after_calls (protocol_of e) (opens 0 1 ∷ opens 1 1 ∷ []) (empty_server e.sizes)

  unfoldable pub computed_in : Example → Result
  computed_in e = (
    map answer_of (replies_to (protocol_of e) (calls_of 0 e.lines) (start e)),
    queue_in (slot_at 0 (after_calls (protocol_of e) (calls_of 0 e.lines) (start e))),
    queue_in (slot_at 1 (after_calls (protocol_of e) (calls_of 0 e.lines) (start e))),
  )

  unfoldable pub expected_in : Example → Result
  expected_in e = (e.answers, encoded (protocol_of e) kind e.queue-0, encoded (protocol_of e) kind e.queue-1)

-- with streams that become framed
abbrev pub computed : Example → Result
computed e = computed_in Framed e

abbrev pub expected : Example → Result
expected e = expected_in Framed e

unfoldable pub example-definitions : Unit {0}
unfolding definitions tiny-definitions queue_in start computed_in expected_in
example-definitions = tt

-- ---- sizes, keys and values

abbrev pub small : Sizes
small = record { slot_count = 2; store_room = 256; queue_room = 1024; record_room = 256 }

abbrev pub large : Sizes
large = record { slot_count = 2; store_room = 4096; queue_room = 1024; record_room = 4096 }

abbrev pub A : Bytes
A = 65 ∷ []

abbrev pub B : Bytes
B = 66 ∷ []

-- the pattern that matches every key
abbrev pub any : Bytes
any = 42 ∷ []

unfoldable pub alert : Bytes
unfolding ascii
alert = ascii "alert"

unfoldable pub clear : Bytes
unfolding ascii
clear = ascii "clear"

-- a value of n bytes
abbrev pub long : ℕ → Bytes
long n = replicate n 7

-- n patterns, from the number m on
unfoldable pub subs : ℕ → ℕ → List Line
subs m zero = []
subs m (suc n) = (0 says sub (m ∷ [])) ∷ subs (suc m) n
