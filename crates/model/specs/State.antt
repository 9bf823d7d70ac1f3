-- The simple server's state (document 01, "What the broker is" and "The simple server"): the store, and in each slot
-- nothing or a client; and the state that set up leaves. No memory, no offsets.
use Rattle.std.specs.Prelude.{ℕ, ◌+◌, List, [], ◌∷◌, Bool, true, false, cond, ◌&&◌, leb, length, get_or, replicate}
use Rattle.std.proofs.Math.Option.{Option, some, none}
use Rattle.protocol.specs.Terms.{Action, payload}
use Rattle.protocol.specs.declared.Kind.{Kind}
use Rattle.model.specs.Store.{Store}
use Rattle.model.specs.Patterns.{Patterns}
use Rattle.model.specs.Queueing.{Queueing, messages}

-- the sizes of set up: N slots, store room S, queue room Q and record room R for each slot
pub record Sizes : Type 0 where
  pub slot_count : ℕ
  pub store_room : ℕ
  pub queue_room : ℕ
  pub record_room : ℕ

-- what an open asks for: how the client speaks until its first message fixes that, and whether it is of form 2, in
-- which every refusal shuts a text client too
pub record Opening : Type 0 where
  pub kind : Kind
  pub hangs_up : Bool

abbrev pub opening_with : Kind → Bool → Opening
opening_with k h = record { kind = k; hangs_up = h }

-- a client's transaction: none; the actions recorded since its BEGIN; or one that a slip has spoiled, of which nothing
-- is kept
pub data Transaction : Type 0 where
  off : Transaction
  begun : List Action → Transaction
  spoiled : Transaction

-- whether there is one, be it spoiled
abbrev pub is_on : Transaction → Bool
is_on off = false
is_on (begun xs) = true
is_on spoiled = true

-- whether there is one that is spoiled
abbrev pub is_spoiled : Transaction → Bool
is_spoiled off = false
is_spoiled (begun xs) = false
is_spoiled spoiled = true

-- the actions recorded in it; none where there is none, or where it is spoiled
abbrev pub actions_in : Transaction → List Action
actions_in off = []
actions_in (begun xs) = xs
actions_in spoiled = []

-- "A slip inside a transaction spoils it" (document 02, P2)
abbrev pub after_slip : Transaction → Transaction
after_slip off = off
after_slip (begun xs) = spoiled
after_slip spoiled = spoiled

-- a client from its open to its close: how it speaks, whether it was opened in form 2, whether it is shut, its
-- patterns, its transaction, and the messages not yet taken, as bytes in its kind
pub record ClientOf (queueing : Queueing) : Type 0 where
  pub kind : Kind
  pub hangs_up : Bool
  pub shut : Bool
  pub patterns : Patterns
  pub transaction : Transaction
  pub queue : queueing.Queue

-- a slot is free, or has a client, which is open or shut
pub data SlotOf (queueing : Queueing) : Type 0 where
  free : SlotOf queueing
  used : ClientOf queueing → SlotOf queueing

-- the whole server: the sizes of its set up, the entries, and the slots from number 0 on
pub record StateOf (queueing : Queueing) : Type 0 where
  pub sizes : Sizes
  pub store : Store
  pub slots : List (SlotOf queueing)

-- the simple server's: a queue is a list of messages
abbrev pub Client : Type 0
Client = ClientOf messages

abbrev pub Slot : Type 0
Slot = SlotOf messages

abbrev pub State : Type 0
State = StateOf messages

module _ {queueing : Queueing} where
  open queueing use {empty}

  -- what is in a slot; a slot number N or more has no client
  unfoldable pub slot_at : ℕ → StateOf queueing → SlotOf queueing
  slot_at i st = get_or st.slots i free

  -- a client just opened: nothing of an earlier client of the slot
  unfoldable pub new_client : Opening → ClientOf queueing
  new_client o =
      record {
        kind = o.kind;
        hangs_up = o.hangs_up;
        shut = false;
        patterns = [];
        transaction = off;
        queue = empty;
      }

  -- the client with this kind, which a message fixes
  unfoldable pub with_kind : Kind → ClientOf queueing → ClientOf queueing
  with_kind k c =
      record {
        kind = k;
        hangs_up = c.hangs_up;
        shut = c.shut;
        patterns = c.patterns;
        transaction = c.transaction;
        queue = c.queue;
      }

  -- the client with these patterns
  unfoldable pub with_patterns : Patterns → ClientOf queueing → ClientOf queueing
  with_patterns ps c =
      record {
        kind = c.kind;
        hangs_up = c.hangs_up;
        shut = c.shut;
        patterns = ps;
        transaction = c.transaction;
        queue = c.queue;
      }

  -- the client with this transaction
  unfoldable pub with_transaction : Transaction → ClientOf queueing → ClientOf queueing
  with_transaction t c =
      record {
        kind = c.kind;
        hangs_up = c.hangs_up;
        shut = c.shut;
        patterns = c.patterns;
        transaction = t;
        queue = c.queue;
      }

  -- the client with this queue
  unfoldable pub with_queue : queueing.Queue → ClientOf queueing → ClientOf queueing
  with_queue q c =
      record {
        kind = c.kind;
        hangs_up = c.hangs_up;
        shut = c.shut;
        patterns = c.patterns;
        transaction = c.transaction;
        queue = q;
      }

-- what recorded actions charge: each its payload plus 4
unfoldable pub recording_charge : List Action → ℕ
recording_charge [] = 0
recording_charge (a ∷ xs) = length (payload a) + 4 + recording_charge xs

-- whether a recording is within its limits: at most 64 actions, and charges that do not pass R
unfoldable pub recording_fits : ℕ → List Action → Bool
recording_fits R xs = leb (length xs) 64 && leb (recording_charge xs) R

-- ---- set up

-- whether a number lies from low to high
abbrev pub within : ℕ → ℕ → ℕ → Bool
within low high n = leb low n && leb n high

-- the ranges: N 1 to 32, S 256 to 1,048,576, Q 1,024 to 1,048,576, R 256 to 262,144
unfoldable pub in_range : Sizes → Bool
in_range z =
    within 1 32 z.slot_count
    && (within 256 1048576 z.store_room
    && (within 1024 1048576 z.queue_room
    && within 256 262144 z.record_room))

-- the state that set up leaves: all slots are free and the store is empty
unfoldable pub empty_state : {queueing : Queueing} → Sizes → StateOf queueing
empty_state z = record { sizes = z; store = []; slots = replicate z.slot_count free }

-- the simple server's
abbrev pub empty_server : Sizes → State
empty_server z = empty_state z

-- set up's answer: 8 if a size is out of range; 5, for memory too short, belongs to the broker over lent memory
unfoldable pub set_up_answer : Sizes → ℕ
set_up_answer z = cond (in_range z) 0 8

-- set up's state, if the answer is 0
unfoldable pub set_up : Sizes → Option State
set_up z = cond (in_range z) (some (empty_server z)) none
