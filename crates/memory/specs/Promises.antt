-- What the functions on the memory ask and promise, in terms of what the memory means.
use Rattle.std.specs.Prelude.{◌≡◌, true, [], ◌∷◌, ◌++◌, ℕ, ◌+◌, ◌≤◌, ◌<◌, length, take, get_or}
use Rattle.std.proofs.lemmas.List.Edits.{sets}
use Rattle.octets.specs.Octets.{Bytes}
use Rattle.octets.specs.Number.{number_at}
use Rattle.protocol.specs.Terms.{Message}
use Rattle.protocol.specs.declared.Refusal.{Refusal}
use Rattle.model.specs.State.{actions_in, Sizes, in_range, recording_fits, slot_at, empty_state, with_patterns}
use Rattle.model.specs.Patterns.{add_pattern, remove_pattern}
use Rattle.model.specs.Store.{remove}
use Rattle.store.specs.Operation.{Found}
use Rattle.queue.specs.Meaning.{kept}
use Rattle.queue.specs.Rows.{first_length, first_message}
use Rattle.recording.specs.Encoding.{action_of, action_fine}
use Rattle.model.specs.Queue.{after_take}
use Rattle.model.specs.Events.{on_client}
use Rattle.slot.specs.Image.{ClientImage, error_fits, owed, notified}
use Rattle.memory.specs.Layout.{mark, sizes_of, store_part, slot_part, stride, slots_start, slot_start, memory_size}
use Rattle.memory.specs.Image.{is_used, is_open, client_at, with_store, on_slot, image_of}
use Rattle.memory.specs.Rules.{Headed, Sound, memory_fine, KeptBehind, Becomes}

-- a memory with a header, and the number of a slot
pub record HasSlot (m : Bytes) (i : ℕ) : Type 0 where
  pub headed : Headed m
  pub inside : i < (sizes_of m).slot_count

-- the bounds of slot i by the sizes, and the record room, as code has them
pub record Lies (z : Sizes) (i a b r : ℕ) : Type 0 where
  pub start : a ≡ slot_start z i
  pub end : b ≡ slot_start z i + stride z
  pub room : r ≡ z.record_room

-- a memory with a header and these sizes, and the number of a slot
pub record Numbered (m : Bytes) (z : Sizes) (i : ℕ) : Type 0 where
  pub slot : HasSlot m i
  pub sizes : z ≡ sizes_of m

-- the bounds of slot i, which lies within the memory, and the record room, as code has them
pub record Placed (m : Bytes) (i a b r : ℕ) : Type 0 where
  pub start : a ≡ slot_start (sizes_of m) i
  pub end : b ≡ slot_start (sizes_of m) i + stride (sizes_of m)
  pub room : r ≡ (sizes_of m).record_room
  pub order : a ≤ b
  pub within : b ≤ length m

-- the bytes of slot i, and the record room, as code has them
pub record Reading (m : Bytes) (i : ℕ) (s : Bytes) (r : ℕ) : Type 0 where
  pub bytes : s ≡ slot_part (sizes_of m) i m
  pub room : r ≡ (sizes_of m).record_room

-- ---- set up

-- sizes in range, and a memory that is long enough for them
pub record Room (z : Sizes) (m : Bytes) : Type 0 where
  pub ranged : in_range z ≡ true
  pub long : memory_size z ≤ length m

-- the header is written
pub record Heading (z : Sizes) (m m' : Bytes) : Type 0 where
  pub size : length m' ≡ length m
  pub marked : number_at 4 m' 0 ≡ mark
  pub sizes : sizes_of m' ≡ z
  pub behind : KeptBehind z m m'

-- the first n slots are free, and what is before and behind the slots is as it was
pub record Freeing (z : Sizes) (m : Bytes) (n : ℕ) (m' : Bytes) : Type 0 where
  pub size : length m' ≡ length m
  pub front : take (slots_start z) m' ≡ take (slots_start z) m
  pub behind : KeptBehind z m m'
  pub freed : (i : ℕ) → i < n → get_or m' (slot_start z i) 0 ≡ 0

-- a memory is set up: as long as it was, its rules between calls hold, it means an empty store and free slots, and
-- what is behind the slots is as it was. The bytes of free slots and of unused rooms mean nothing and may be anything.
pub record SetUp (z : Sizes) (m m' : Bytes) : Type 0 where
  pub size : length m' ≡ length m
  pub fine : memory_fine m' ≡ true
  pub means : image_of m' ≡ empty_state z
  pub behind : KeptBehind z m m'

-- ---- the store

-- the row at a place is taken out of the store: the key that had it is gone
abbrev pub Deleting : ℕ → ℕ → Bytes → Bytes → Type 0
Deleting at old m m' = (k : Bytes) → Found (store_part (sizes_of m) m) k at old
    → Becomes m m' (with_store (remove k (image_of m).store) (image_of m))

-- ---- slots

-- a memory at any time, and the number of a slot
pub record InSlot (m : Bytes) (i : ℕ) : Type 0 where
  pub sound : Sound m
  pub inside : i < (sizes_of m).slot_count

-- the slot has a client
pub record InUsed (m : Bytes) (i : ℕ) : Type 0 where
  pub in-slot : InSlot m i
  pub has-client : is_used (slot_at i (image_of m)) ≡ true

-- the slot has a client, and nothing is owed to it
pub record InResting (m : Bytes) (i : ℕ) : Type 0 where
  pub in-used : InUsed m i
  pub none-pending : (client_at i (image_of m)).queue.pending ≡ kept []

-- the slot has an open client
pub record InOpen (m : Bytes) (i : ℕ) : Type 0 where
  pub in-slot : InSlot m i
  pub has-open : is_open (slot_at i (image_of m)) ≡ true

-- the slot has an open client, and nothing is owed to it
pub record InOpenResting (m : Bytes) (i : ℕ) : Type 0 where
  pub in-open : InOpen m i
  pub none-pending : (client_at i (image_of m)).queue.pending ≡ kept []

-- and the ERROR of a refusal fits in its queue
pub record Slippable (m : Bytes) (i : ℕ) (r : Refusal) : Type 0 where
  pub in-resting : InOpenResting m i
  pub fits : error_fits (image_of m).sizes.queue_room r (client_at i (image_of m)) ≡ true

-- the client of slot i is left as f makes it
abbrev pub Changes : ℕ → (ClientImage → ClientImage) → Bytes → Bytes → Type 0
Changes i f m m' = Becomes m m' (on_slot i (on_client f) (image_of m))

-- a message can be taken: out has room for the first one
pub record Takable (m : Bytes) (i : ℕ) (out : Bytes) : Type 0 where
  pub in-resting : InResting m i
  pub room : first_length (client_at i (image_of m)).queue.queued ≤ length out

-- the first message of slot i is taken: its n bytes stand at the front of out, and the rest of out is as it was
pub record Taking (m : Bytes) (i : ℕ) (out : Bytes) (n : ℕ) (m' out' : Bytes) : Type 0 where
  pub count : n ≡ first_length (client_at i (image_of m)).queue.queued
  pub copied : out' ≡ sets out 0 (first_message (client_at i (image_of m)).queue.queued)
  pub left : Changes i after_take m m'

-- the body of a message that an open client is owed
pub record Owable (m : Bytes) (i : ℕ) (body : Bytes) : Type 0 where
  pub in-open : InOpen m i
  pub short : length body ≤ 65535

-- the client of slot i is owed a message
abbrev pub Owing : ℕ → Message → Bytes → Bytes → Type 0
Owing i x m m' = Changes i (owed (image_of m).sizes.queue_room x) m m'

-- a key was written, the first `key` bytes of the body, and a slot is told of it
pub record Notifiable (m : Bytes) (i : ℕ) (body : Bytes) (key : ℕ) : Type 0 where
  pub in-slot : InSlot m i
  pub key-within : key ≤ length body
  pub short : length body ≤ 65535

-- the client of slot i is told of a key that was written
abbrev pub Notifying : ℕ → Bytes → ℕ → Bytes → Bytes → Type 0
Notifying i body key m m' = Changes i (notified (image_of m).sizes.queue_room body key) m m'

-- the action with this ID and payload can be recorded of an open client
pub record Recordable (m : Bytes) (i id : ℕ) (p : Bytes) : Type 0 where
  pub in-open : InOpen m i
  pub known : action_fine id (length p) ≡ true
  pub fits : recording_fits (image_of m).sizes.record_room
      (actions_in (client_at i (image_of m)).transaction ++ (action_of id p ∷ [])) ≡ true

-- an open client can add the pattern: at most 255 bytes, and at most the sixteenth
pub record Addable (m : Bytes) (i : ℕ) (p : Bytes) : Type 0 where
  pub in-open : InOpen m i
  pub short : length p ≤ 255
  pub few : length (add_pattern p (client_at i (image_of m)).patterns) ≤ 16

-- a pattern more, and a pattern less
unfoldable pub pattern_added : Bytes → ClientImage → ClientImage
pattern_added p c = with_patterns (add_pattern p c.patterns) c

unfoldable pub pattern_removed : Bytes → ClientImage → ClientImage
pattern_removed p c = with_patterns (remove_pattern p c.patterns) c
