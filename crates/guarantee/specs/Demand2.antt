-- Demand 2: one call on a memory that holds a state of the simple server. "Commands are read, and messages written, by
-- infod3 version 0 and the rules paper": the simple server here is the one that reads, writes and matches by `infod3`.
-- The other sentences of the demand stand above the clauses that state them.
use Rattle.std.specs.Prelude.{ℕ, ◌≡◌, [], ◌++◌}
use Rattle.octets.specs.Octets.{Bytes}
use Rattle.model.specs.State.{Client, used, State, slot_at}
use Rattle.model.specs.Queue.{encoded}
use Rattle.model.specs.Decision.{Call, Reply}
use Rattle.model.specs.Calls.{serve}
use Rattle.model.specs.Log.{Log, new_log}
use Rattle.model.specs.History.{history_after}
use Rattle.infod3.specs.Infod3.{infod3}
use Rattle.refinement.specs.Promises.{Represents}

-- what the simple server queues to the client of slot j in one call, and what that call gives from its queue: the log
-- of the call alone
unfoldable pub log_of : Call → State → ℕ → Log
log_of x st j = (history_after infod3 x (record { state = st; logs = λ i. new_log; past = [] })).logs j

-- the client c became d: what was taken, then what is left, is what was there, and behind it what was queued
abbrev pub QueuedBehind : Client → Client → Log → Type 0
QueuedBehind c d l = l.taken ++ d.queue ≡ c.queue ++ encoded infod3 d.kind l.queued

-- The call x gave back r and left the memory m', where the simple server was in the state st.
pub record Demand2 (st : State) (x : Call) (r : Reply) (m' : Bytes) : Type 0 where
  -- every number given back, and the bytes of a take, are the simple server's
  pub reply : r ≡ (serve infod3 x st).reply
  -- "After each call the store, the patterns and each queue are exactly those of the paper's simple server": the
  -- memory holds its next state, and with it the transactions, the kinds, the forms, and which slots are free,
  -- open and shut.
  pub state : Represents m' (serve infod3 x st).next
  -- "what a step owes an open client is queued, once and in order, if it all fits; nothing else is but the ERRORs
  -- due": what is queued is what the call's log says, which for a step is `queued_by_step`, all that is owed or the
  -- ERROR of the shutting, for a refused message its ERROR, and else nothing.
  pub queues : (j : ℕ) (c d : Client) → slot_at j st ≡ used c → slot_at j (serve infod3 x st).next ≡ used d
      → QueuedBehind c d (log_of x st j)
