-- A slot of the memory: its layout, its rules and what it means.
--   0 phase (0 free, 1 open, 2 shut), 1 kind (0 packets, 1 stream, 2 framed, 3 text; 4 more for a client of form 2),
--   2 unused, 4 subscriptions (4,100 bytes), 4,104 recording (12 + R bytes), 4,116 + R queue (16 + 2 × Q bytes)
-- A free slot has no rule. R is the record room; Q follows from the slot's length.
use Rattle.std.specs.Prelude.{◌≡◌, [], Bool, true, cond, not, ◌&&◌, ℕ, ◌+◌, ◌%◌, ◌≤◌, eqb, leb, length, drop, get_or}
use Rattle.octets.specs.Octets.{Bytes}
use Rattle.octets.specs.Part.{part}
use Rattle.protocol.specs.declared.Kind.{Kind}
use Rattle.protocol.specs.declared.Kind.TheVariants.{Packets, Stream, Framed, Text}
use Rattle.queue.specs.Region.{InStep, queue_fine, queue_of}
use Rattle.recording.specs.Region.{recording_fine, transaction_of}
use Rattle.subscriptions.specs.Region.{subscriptions_fine, patterns_of}
use Rattle.model.specs.State.{off, is_on, free, used}
use Rattle.slot.specs.Image.{ClientImage, SlotImage}

-- ---- the regions

abbrev pub phase_of : Bytes → ℕ
phase_of s = get_or s 0 0

abbrev pub kind_byte : Bytes → ℕ
kind_byte s = get_or s 1 0

abbrev pub subscriptions_part : Bytes → Bytes
subscriptions_part s = part s 4 4100

abbrev pub recording_part : ℕ → Bytes → Bytes
recording_part R s = part s 4104 (12 + R)

abbrev pub queue_part : ℕ → Bytes → Bytes
queue_part R s = drop (4116 + R) s

-- ---- the meaning

-- the number of a kind in the memory
abbrev pub kind_number : Kind → ℕ
kind_number Packets = 0
kind_number Stream = 1
kind_number Framed = 2
kind_number Text = 3

-- the kind of a number
unfoldable pub kind_numbered : ℕ → Kind
kind_numbered n = cond (eqb n 0) Packets (cond (eqb n 1) Stream (cond (eqb n 2) Framed Text))

-- what the kind byte says: the kind, and whether the client was opened in form 2
abbrev pub kind_in : ℕ → Kind
kind_in b = kind_numbered (b % 4)

abbrev pub hangs_up_in : ℕ → Bool
hangs_up_in b = leb 4 b

-- the kind byte of such a client
unfoldable pub byte_for : Kind → Bool → ℕ
byte_for k hangs_up = cond hangs_up (4 + kind_number k) (kind_number k)

unfoldable pub client_of : ℕ → Bytes → ClientImage
client_of R s =
    record {
      kind = kind_in (kind_byte s);
      hangs_up = hangs_up_in (kind_byte s);
      shut = eqb (phase_of s) 2;
      patterns = patterns_of (subscriptions_part s);
      transaction = transaction_of (recording_part R s);
      queue = queue_of (queue_part R s);
    }

unfoldable pub slot_of : ℕ → Bytes → SlotImage
slot_of R s = cond (eqb (phase_of s) 0) free (used (client_of R s))

-- ---- the rules

-- what a client leaves of its queue's room: 64 bytes while it is open
abbrev pub reserve_of : ℕ → ℕ
reserve_of phase = cond (eqb phase 2) 0 64

-- a shut client has no patterns and no transaction
pub record Bare (c : ClientImage) : Type 0 where
  pub no-patterns : c.patterns ≡ []
  pub no-recording : c.transaction ≡ off

-- a client, at any time
pub record ClientRules (R : ℕ) (s : Bytes) : Type 0 where
  pub sized : 4132 + R ≤ length s
  pub phase : phase_of s ≤ 2
  pub kind : kind_byte s ≤ 7
  pub subscriptions : subscriptions_fine (subscriptions_part s) ≡ true
  pub recording : recording_fine (recording_part R s) ≡ true
  pub queue : InStep (reserve_of (phase_of s)) (queue_part R s)
  pub bare : phase_of s ≡ 2 → Bare (client_of R s)

-- a slot, at any time
abbrev pub SlotRules : ℕ → Bytes → Type 0
SlotRules R s = (phase_of s ≡ 0 → ⊥) → ClientRules R s

-- whether a client has no patterns and no transaction
unfoldable pub is_bare : ClientImage → Bool
is_bare c = eqb (length c.patterns) 0 && not (is_on c.transaction)

-- the rules of the three regions between steps, as a test
unfoldable pub regions_fine : ℕ → Bytes → Bool
regions_fine R s =
    subscriptions_fine (subscriptions_part s)
    && (queue_fine (reserve_of (phase_of s)) (queue_part R s) && recording_fine (recording_part R s))

-- the rules of a client between steps, as a test
unfoldable pub client_fine : ℕ → Bytes → Bool
client_fine R s =
    leb (phase_of s) 2
    && (leb (kind_byte s) 7 && (regions_fine R s && cond (eqb (phase_of s) 2) (is_bare (client_of R s)) true))

-- the rules of a slot between steps, as a test
unfoldable pub slot_fine : ℕ → Bytes → Bool
slot_fine R s = cond (eqb (phase_of s) 0) true (client_fine R s)
