-- What is true of every state that a list of calls reaches from a set up answered 0 (document 01, "The simple
-- server", "Queues" and "Shutting"): the limits that the memory has to hold.
use Rattle.std.specs.Prelude.{ℕ, ◌+◌, ◌≤◌, ◌≡◌, List, [], ◌∷◌, Bool, true, false, length}
use Rattle.octets.specs.Octets.{Bytes, has_nul}
use Rattle.octets.specs.Order.{before}
use Rattle.protocol.specs.Terms.{Action, Message, Protocol}
use Rattle.protocol.specs.declared.Kind.TheVariants.{Stream}
use Rattle.model.specs.Store.{Entry, Store, store_fits}
use Rattle.model.specs.Patterns.{Patterns, held}
use Rattle.model.specs.State.{Sizes, in_range, off, begun, Client, Slot, free, used, State, empty_server, slot_at}
use Rattle.model.specs.State.{recording_fits}
use Rattle.model.specs.Queueing.{queue_charge}
use Rattle.model.specs.Queue.{encoded}
use Rattle.model.specs.Decision.{Call}
use Rattle.model.specs.Calls.{after_calls}
use Rattle.model.specs.Lawful.{ValidPattern, ValidAction}

-- P holds of each element
abbrev pub Each : {A : Type 0} → (A → Type 0) → List A → Type 0
Each P [] = Unit {0}
Each P (a ∷ l) = P a × Each P l

-- all keys of the store come after this one
unfoldable pub After : Bytes → Store → Type 0
After k [] = Unit {0}
After k (e ∷ s) = (before k e.key ≡ true) × After k s

-- the keys strictly ascend
unfoldable pub Ascending : Store → Type 0
Ascending [] = Unit {0}
Ascending (e ∷ s) = After e.key s × Ascending s

-- no pattern is held twice
unfoldable pub Distinct : Patterns → Type 0
Distinct [] = Unit {0}
Distinct (p ∷ ps) = (held p ps ≡ false) × Distinct ps

-- an entry that a WRITE made: its key holds no NUL; key, NUL and value do not pass 65,535 bytes
pub record ValidEntry (e : Entry) : Type 0 where
  pub no_nul : has_nul e.key ≡ false
  pub short : length e.key + 1 + length e.value ≤ 65535

module _ (protocol : Protocol) (valid : Bytes → Bool) where
  -- a recording within its limits, of valid actions
  pub record ValidRecording (R : ℕ) (xs : List Action) : Type 0 where
    pub fits : recording_fits R xs ≡ true
    pub actions : Each (ValidAction valid) xs

  -- a client within its limits, in a server of these sizes
  pub record ClientInvariant (z : Sizes) (c : Client) : Type 0 where
    -- at most 16 patterns, distinct and valid
    pub few : length c.patterns ≤ 16
    pub distinct : Distinct c.patterns
    pub patterns-valid : Each (ValidPattern valid) c.patterns
    -- at most 64 actions recorded, within R
    pub recording-valid : (xs : List Action) → c.transaction ≡ begun xs → ValidRecording z.record_room xs
    -- the queue within Q, and within Q − 64 while the client is open
    pub queue-room : queue_charge c.queue ≤ z.queue_room
    pub open-room : c.shut ≡ false → queue_charge c.queue + 64 ≤ z.queue_room
    -- every queued message is one of the server's, in the client's kind
    pub queue-encoded : (ms : List Message) × (c.queue ≡ encoded protocol c.kind ms)
    -- a shut client holds no patterns and no transaction
    pub shut-empty : c.shut ≡ true → (c.patterns ≡ []) × (c.transaction ≡ off)
    -- a client whose kind is not fixed yet has nothing
    pub stream-empty : c.kind ≡ Stream → (c.queue ≡ []) × (c.patterns ≡ []) × (c.transaction ≡ off)

  -- a free slot has no rule
  abbrev pub SlotInvariant : Sizes → Slot → Type 0
  SlotInvariant z free = Unit {0}
  SlotInvariant z (used c) = ClientInvariant z c

  -- a state within its limits: sizes in range, N slots, a store in order and within S and 1,024 entries, sound
  -- clients
  pub record Invariant (st : State) : Type 0 where
    pub sizes-in-range : in_range st.sizes ≡ true
    pub slots-counted : length st.slots ≡ st.sizes.slot_count
    pub keys-ascend : Ascending st.store
    pub store-fits : store_fits st.sizes.store_room st.store ≡ true
    pub entries-valid : Each ValidEntry st.store
    pub clients : (j : ℕ) → SlotInvariant st.sizes (slot_at j st)

-- a state that a list of calls reaches from a set up answered 0
pub record Reachable (protocol : Protocol) (st : State) : Type 0 where
  pub sizes-used : Sizes
  pub in-range : in_range sizes-used ≡ true
  pub calls : List Call
  pub reaches : after_calls protocol calls (empty_server sizes-used) ≡ st
