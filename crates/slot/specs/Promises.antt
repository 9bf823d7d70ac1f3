-- What the functions on a slot ask and promise, in terms of what the slot means. R is the record room.
use Rattle.std.specs.Prelude.{◌≡◌, Bool, true, [], ◌∷◌, ◌++◌, ℕ, ◌+◌, ◌-◌, ◌/◌, ◌≤◌, ◌<◌, length}
use Rattle.std.proofs.lemmas.List.Edits.{sets}
use Rattle.octets.specs.Octets.{Bytes}
use Rattle.protocol.specs.Terms.{Action, payload}
use Rattle.model.specs.Patterns.{add_pattern, remove_pattern}
use Rattle.model.specs.State.{actions_in, recording_fits, free, used, with_patterns}
use Rattle.queue.specs.Meaning.{kept}
use Rattle.queue.specs.Rows.{first_length, first_message}
use Rattle.recording.specs.Encoding.{action_of, action_fine}
use Rattle.recording.specs.Region.{recording_fine}
use Rattle.subscriptions.specs.Region.{subscriptions_fine}
use Rattle.model.specs.Queue.{after_take}
use Rattle.slot.specs.Image.{ClientImage, SlotImage}
use Rattle.slot.specs.Region.{phase_of, kind_byte, subscriptions_part, recording_part, queue_part, client_of, slot_of}
use Rattle.slot.specs.Region.{Bare, ClientRules, SlotRules}

-- the queue room of a slot: half of what is behind the other regions
abbrev pub room_of : ℕ → Bytes → ℕ
room_of R s = (length s - (4132 + R)) / 2

-- the slot has a client
pub record HasClient (R : ℕ) (s : Bytes) : Type 0 where
  pub taken-up : phase_of s ≡ 0 → ⊥
  pub rules : ClientRules R s

-- the slot has a client, and nothing is owed to it
pub record HasResting (R : ℕ) (s : Bytes) : Type 0 where
  pub client : HasClient R s
  pub none-pending : (client_of R s).queue.pending ≡ kept []

-- the slot has an open client
pub record HasOpen (R : ℕ) (s : Bytes) : Type 0 where
  pub is_open : phase_of s ≡ 1
  pub rules : ClientRules R s

-- the slot has an open client, and nothing is owed to it
pub record HasOpenResting (R : ℕ) (s : Bytes) : Type 0 where
  pub client : HasOpen R s
  pub none-pending : (client_of R s).queue.pending ≡ kept []

-- the slot has an open client, for some record room
pub record IsOpen (s : Bytes) : Type 0 where
  pub room : ℕ
  pub client : HasOpen room s

-- bytes with the regions of a slot, and a record room that recordings can have
pub record Regions (R : ℕ) (s : Bytes) : Type 0 where
  pub record-room : R ≤ 262144
  pub enough : 4132 + R ≤ length s

-- bytes whose regions of patterns and of actions keep their rules
pub record Regioned (R : ℕ) (s : Bytes) : Type 0 where
  pub enough : 4132 + R ≤ length s
  pub subscriptions : subscriptions_fine (subscriptions_part s) ≡ true
  pub recording : recording_fine (recording_part R s) ≡ true

-- bytes that a client can be opened in: a record room that recordings can have, a queue room of 64 or more, and offsets of four bytes
pub record Sized (R : ℕ) (s : Bytes) : Type 0 where
  pub record-room : R ≤ 262144
  pub queue-room : 4260 + R ≤ length s
  pub narrow : length s < 4294967296

-- an operation on the slot s leaves s': as long as before, its rules hold, and it means x
pub record Becomes (R : ℕ) (s s' : Bytes) (x : SlotImage) : Type 0 where
  pub size : length s' ≡ length s
  pub rules : SlotRules R s'
  pub means : slot_of R s' ≡ x

-- the slot is freed, for every record room
abbrev pub Closing : Bytes → Bytes → Type 0
Closing s s' = (R : ℕ) → Becomes R s s' free

-- the client of the slot, for every record room with which it has one, is left as f makes it
abbrev pub Changing : (ClientImage → ClientImage) → Bytes → Bytes → Type 0
Changing f s s' = (R : ℕ) → HasClient R s → Becomes R s s' (used (f (client_of R s)))

-- an open client adds a pattern
abbrev pub Adding : Bytes → Bytes → Bytes → Type 0
Adding p s s' =
    (R : ℕ) → HasOpen R s → Becomes R s s' (used (with_patterns (add_pattern p (client_of R s).patterns) (client_of R s)))

-- an open client removes a pattern
abbrev pub Removing : Bytes → Bytes → Bytes → Type 0
Removing p s s' =
    (R : ℕ) → HasOpen R s → Becomes R s s' (used (with_patterns (remove_pattern p (client_of R s).patterns) (client_of R s)))

-- the regions of patterns and of actions are emptied, and the rest of the slot is as it was
pub record Stripping (R : ℕ) (s s' : Bytes) : Type 0 where
  pub size : length s' ≡ length s
  pub same-phase : phase_of s' ≡ phase_of s
  pub same_kind : kind_byte s' ≡ kind_byte s
  pub subscriptions : subscriptions_fine (subscriptions_part s') ≡ true
  pub recording : recording_fine (recording_part R s') ≡ true
  pub bare : Bare (client_of R s')
  pub same_queue : queue_part R s' ≡ queue_part R s

-- the first message is taken: its n bytes stand at the front of out, and the rest of out is as it was
pub record Taking (R : ℕ) (s out : Bytes) (n : ℕ) (s' out' : Bytes) : Type 0 where
  pub count : n ≡ first_length (client_of R s).queue.queued
  pub copied : out' ≡ sets out 0 (first_message (client_of R s).queue.queued)
  pub left : Becomes R s s' (used (after_take (client_of R s)))

-- whether an action with a payload of n bytes fits behind those recorded
pub record Fits (R : ℕ) (c : ClientImage) (n : ℕ) (b : Bool) : Type 0 where
  pub value : (a : Action) → length (payload a) ≡ n → b ≡ recording_fits R (actions_in c.transaction ++ (a ∷ []))

-- the action with this ID and payload can be recorded of an open client
pub record Recordable (R : ℕ) (s : Bytes) (id : ℕ) (p : Bytes) : Type 0 where
  pub client : HasOpen R s
  pub known : action_fine id (length p) ≡ true
  pub fits : recording_fits R (actions_in (client_of R s).transaction ++ (action_of id p ∷ [])) ≡ true

-- an open client can add the pattern: at most 255 bytes, and at most the sixteenth
pub record Addable (R : ℕ) (s p : Bytes) : Type 0 where
  pub client : HasOpen R s
  pub short : length p ≤ 255
  pub few : length (add_pattern p (client_of R s).patterns) ≤ 16

-- the same, for some record room
pub record IsAddable (s p : Bytes) : Type 0 where
  pub room : ℕ
  pub addable : Addable room s p
