-- What the functions of a step ask and promise, in terms of what the memory means.
use Rattle.std.specs.Prelude.{◌≡◌, Bool, true, false, cond, ℕ, ◌+◌, ◌≤◌, length, take, drop}
use Rattle.octets.specs.Octets.{Bytes, first_nul}
use Rattle.protocol.specs.Terms.{Action, Message}
use Rattle.command.specs.declared.Written.{Written}
use Rattle.command.specs.Commands.{written_of}
use Rattle.message.specs.Writing.{said}
use Rattle.message.specs.declared.Message.TheVariants.{Info}
use Rattle.model.specs.Store.{Store, store_fits, changes}
use Rattle.model.specs.Step.{store_after, refuses}
use Rattle.store.specs.Row.{key_of, body_of, row_fine}
use Rattle.store.specs.Region.{store_fine}
use Rattle.store.specs.Operation.{Found}
use Rattle.recording.specs.Encoding.{value_behind, key_in, write_from, action_of, action_fine}
use Rattle.model.specs.Events.{on_client}
use Rattle.slot.specs.Image.{owed, notified}
use Rattle.memory.specs.Layout.{sizes_of, store_part}
use Rattle.memory.specs.Image.{client_at, image_of, on_slots}
use Rattle.memory.specs.Rules.{Sound, Becomes}
use Rattle.memory.specs.Promises.{InOpen, Changes}
use Rattle.infod3.specs.Infod3.{infod3}
use Rattle.refinement.specs.Turn.{after_turn}

-- whether an action of slot i is refused with 102
unfoldable pub refused_in : Bytes → ℕ → Action → Bool
refused_in m i a =
    refuses (image_of m).sizes.store_room a (image_of m).store (client_at i (image_of m)).patterns

-- the turn of an action of an open client, which is not refused
pub record Turning (m : Bytes) (i id : ℕ) (p : Bytes) : Type 0 where
  pub in-open : InOpen m i
  pub known : action_fine id (length p) ≡ true
  pub allowed : refused_in m i (action_of id p) ≡ false

-- the turn of a WRITE of the payload, which is not refused
pub record Writing (m p : Bytes) : Type 0 where
  pub sound : Sound m
  pub short : length p ≤ 65535
  pub fits : store_fits (image_of m).sizes.store_room (store_after (write_from p) (image_of m).store) ≡ true

-- w stands behind the key of a payload, and the key's row is at a place of the store
pub record KeyAt (st p : Bytes) (w : Written) (at old : ℕ) : Type 0 where
  pub fine : store_fine st ≡ true
  pub written : w ≡ written_of (first_nul p) (length p)
  pub found : Found st (key_in p) at old

-- the turn of a WRITE, with the parts of its payload and the place of its key known
pub record WritingAt (m p : Bytes) (n : ℕ) (w : Written) (at old : ℕ) : Type 0 where
  pub writing : Writing m p
  pub key : n ≡ first_nul p
  pub place : KeyAt (store_part (sizes_of m) m) p w at old

-- the turn of the WRITE is done, whichever slot it comes from
abbrev pub Wrote : Bytes → Bytes → Bytes → Type 0
Wrote p m m' = (i : ℕ) → Becomes m m' (after_turn infod3 i (write_from p) (image_of m))

-- whether a WRITE of the payload changes the store
abbrev pub changed_by : Bytes → Store → Bool
changed_by p s = changes (key_in p) (value_behind (drop (first_nul p) p)) s

-- ---- entries of the store

-- the bytes of the store from a row on
abbrev pub row_from : Bytes → ℕ → Bytes
row_from m at = drop (8 + at) (store_part (sizes_of m) m)

-- the key and the body of the entry at an offset
abbrev pub entry_key : Bytes → ℕ → Bytes
entry_key m at = key_of (row_from m at)

abbrev pub entry_body : Bytes → ℕ → Bytes
entry_body m at = body_of (row_from m at)

-- the INFO of the entry
abbrev pub entry_info : Bytes → ℕ → Message
entry_info m at = said Info (entry_body m at)

-- an offset of a row of the store
pub record StoredAt (m : Bytes) (at : ℕ) : Type 0 where
  pub sound : Sound m
  pub row : row_fine (row_from m at) ≡ true

-- an open client, and an offset of a row of the store
pub record EntryAt (m : Bytes) (i at : ℕ) : Type 0 where
  pub in-open : InOpen m i
  pub row : row_fine (row_from m at) ≡ true

-- the client of slot i is owed a message if b is true
abbrev pub OwingIf : Bool → ℕ → Message → Bytes → Bytes → Type 0
OwingIf b i x m m' = Changes i (λ c. cond b (owed (image_of m).sizes.queue_room x c) c) m m'

-- bytes stand at the front of a buffer, and n is their number
pub record Copied (bs : Bytes) (n : ℕ) (buf : Bytes) : Type 0 where
  pub count : n ≡ length bs
  pub front : take n buf ≡ bs

-- every client is told of a key that was written
abbrev pub NotifyingAll : Bytes → ℕ → Bytes → Bytes → Type 0
NotifyingAll body key m m' =
    Becomes m m' (on_slots (λ j. on_client (notified (image_of m).sizes.queue_room body key)) (image_of m))
