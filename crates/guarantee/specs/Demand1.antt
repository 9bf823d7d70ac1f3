-- Demand 1: what every call does, set up included, in terms of the memory that it is lent and of the one that it
-- leaves, whatever the first holds: damaged memory is covered too. The sentences of the demand stand above the clauses
-- that state them.
use Rattle.std.specs.Prelude.{ℕ, ◌≤◌, ◌≡◌, [], false, ◌⊎◌, length}
use Rattle.octets.specs.Octets.{Bytes}
use Rattle.protocol.specs.Terms.{number, Reading, whole}
use Rattle.protocol.specs.declared.Kind.{Kind}
use Rattle.protocol.specs.declared.Refusal.{Refusal}
use Rattle.model.specs.State.{Sizes, used, slot_at}
use Rattle.model.specs.Decision.{Call, feeds, takes, Silent}
use Rattle.model.specs.Refusals.{Leaves}
use Rattle.slot.specs.Image.{ClientImage}
use Rattle.memory.specs.Image.{image_of}
use Rattle.infod3.specs.Infod3.{infod3}
use Rattle.refinement.specs.Promises.{SetsUp, Serves, Takes}

-- what the broker is asked for: a set up with these sizes, or one of the calls after it
pub data Asked : Type 0 where
  set-up : Sizes → Asked
  call : Call → Asked

-- A call that kept its contract: what was asked; the memory and the out slice that it was lent; the answer and the
-- number beside it; the memory and the out slice that it left. Only a take is lent an out slice.
pub data Called : Asked → Bytes → Bytes → ℕ → ℕ → Bytes → Bytes → Type 0 where
  sets-up : {z : Sizes} {m m' : Bytes} {answer count : ℕ} → SetsUp z m answer count m'
      → Called (set-up z) m [] answer count m' []
  serves : {x : Call} {m m' : Bytes} {answer count : ℕ} → Silent x → Serves infod3 x m answer count m'
      → Called (call x) m [] answer count m' []
  gives : {i : ℕ} {m out m' out' : Bytes} {answer count : ℕ} → Takes infod3 i m out answer count m' out'
      → Called (call (takes i (length out))) m out answer count m' out'

-- one of document 01's numbers: 0 to 8, or that of a refusal, 100 to 103
abbrev pub Numbered : ℕ → Type 0
Numbered n = (n ≤ 8) ⊎ ((r : Refusal) × (n ≡ number r))

-- A feed was refused and touched its own client alone. The client was open; the feed took the first message of the
-- input, which reads so and fixes the kind. What is left of the client is one of two (`Leaves`): shut, with no patterns
-- and no transaction, as every binary client, every client of form 2 and every one after 102; or open, with its patterns
-- and its transaction spoiled, or ended by a COMMIT. Either way it has one ERROR more. The store, the sizes and every
-- other slot are as they were.
pub record RefusedAlone (asked : Asked) (answer : ℕ) (m m' : Bytes) : Type 0 where
  pub slot : ℕ
  pub input : Bytes
  pub fed : asked ≡ call (feeds slot input)
  pub reason : Refusal
  pub numbered : answer ≡ number reason
  pub client : ClientImage
  pub before : slot_at slot (image_of m) ≡ used client
  pub was-open : client.shut ≡ false
  pub consumed : ℕ
  pub kind : Kind
  pub reading : Reading
  pub reads : infod3.cut client.kind input ≡ whole consumed kind reading
  pub left : ClientImage
  pub leaves : Leaves infod3 (image_of m).sizes.queue_room reading kind reason client left
  pub after : slot_at slot (image_of m') ≡ used left
  pub store_kept : (image_of m').store ≡ (image_of m).store
  pub sizes-kept : (image_of m').sizes ≡ (image_of m).sizes
  pub others-kept : (j : ℕ) → (j ≡ slot → ⊥) → slot_at j (image_of m') ≡ slot_at j (image_of m)

-- A call was answered so, and left m' and out' of the memory m and the slice out that it was lent.
pub record Demand1 (asked : Asked) (m out : Bytes) (answer : ℕ) (m' out' : Bytes) : Type 0 where
  -- "Every call ends with one of the numbered answers in the rules paper, for all input, and nobody need check
  -- beforehand."
  pub numbered : Numbered answer
  -- "A call refused with 2 to 8 alters no lent byte." Nor does one answered 1.
  pub unaltered : 1 ≤ answer → answer ≤ 8 → (m' ≡ m) × (out' ≡ out)
  -- "A command refused with 100 to 103 queues one ERROR, shuts that client, drops its patterns and its recording, and
  -- touches neither store nor other clients." Document 02, P2: "Demand 1's 'shuts' and 'drops' cover binary clients,
  -- form 2, and 102."
  pub refused : 100 ≤ answer → RefusedAlone asked answer m m'
