-- The history of a list of calls (document 01, "The list"; demand 3): beside the state, the log of each client, those
-- since closed included. The server itself looks at none of it.
use Rattle.std.specs.Prelude.{ℕ, zero, suc, List, [], ◌∷◌, ◌++◌, cond, eqb}
use Rattle.octets.specs.Octets.{Bytes}
use Rattle.protocol.specs.Terms.{Protocol}
use Rattle.model.specs.State.{Sizes, Client, Slot, free, used, State, empty_server, slot_at}
use Rattle.model.specs.Events.{Event, idle, opened, closed, took, consumed, refused, slipped, stepped}
use Rattle.model.specs.Decision.{Call, takes}
use Rattle.model.specs.Calls.{decide, serve}
use Rattle.model.specs.Log.{Log, new_log, log_after_event, log_given}

-- a client since closed: its slot, the client as it was at its close, and its log
pub record Past : Type 0 where
  pub slot : ℕ
  pub client : Client
  pub log : Log

-- the state with its history: the log of the client in each slot, and the clients since closed
pub record History : Type 0 where
  pub state : State
  pub logs : ℕ → Log
  pub past : List Past

-- the client that was in the slot, if there was one
unfoldable pub past_of : ℕ → Slot → Log → List Past
past_of i free l = []
past_of i (used c) l = record { slot = i; client = c; log = l } ∷ []

-- the client that an event closes
unfoldable pub closed_by : Event → State → (ℕ → Log) → List Past
closed_by idle st f = []
closed_by (opened i o) st f = []
closed_by (closed i) st f = past_of i (slot_at i st) (f i)
closed_by (took i) st f = []
closed_by (consumed i k r) st f = []
closed_by (refused i k r) st f = []
closed_by (slipped i k r t) st f = []
closed_by (stepped i k xs) st f = []

module _ (protocol : Protocol) where
  -- the history after a call
  unfoldable pub history_after : Call → History → History
  history_after x t =
      record {
        state = (serve protocol x t.state).next;
        logs = λ j. log_given x (decide protocol x t.state).reply j
            (log_after_event protocol t.state.sizes.queue_room (decide protocol x t.state).event
            t.state.store j (slot_at j t.state) (t.logs j));
        past = t.past ++ closed_by (decide protocol x t.state).event t.state t.logs;
      }

  -- the history after a list of calls
  unfoldable pub history_after_all : List Call → History → History
  history_after_all [] t = t
  history_after_all (x ∷ xs) t = history_after_all xs (history_after x t)

  -- the history of a list of calls from a set up answered 0
  unfoldable pub history_of : Sizes → List Call → History
  history_of z xs = history_after_all xs (record { state = empty_server z; logs = λ j. new_log; past = [] })

  -- the bytes that further takes from the slot j give, with room for len bytes: n of them, or fewer where one is not
  -- answered 0
  unfoldable pub drain : ℕ → ℕ → ℕ → State → List Bytes
  drain zero j len st = []
  drain (suc n) j len st =
      cond (eqb (serve protocol (takes j len) st).reply.answer 0)
      ((serve protocol (takes j len) st).reply.bytes ∷ drain n j len (serve protocol (takes j len) st).next)
      []
