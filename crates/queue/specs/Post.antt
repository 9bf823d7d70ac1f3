-- What the operations on a region ask and promise. Each keeps the region's length, and says which rule holds of the
-- region afterwards and what it then means, by a definition of Meaning applied to what it meant before.
use Rattle.std.specs.Prelude.{◌≡◌, true, ℕ, ◌≤◌, length}
use Rattle.std.proofs.lemmas.List.Edits.{sets}
use Rattle.octets.specs.Octets.{Bytes}
use Rattle.protocol.specs.declared.Kind.{Kind}
use Rattle.protocol.specs.declared.Refusal.{Refusal}
use Rattle.queue.specs.Rows.{first_length, first_message}
use Rattle.queue.specs.Meaning.{Queue, empty, taken, owing, settled, error_fits, with_error}
use Rattle.queue.specs.Region.{InStep, AtRest, room, queued_of, queue_of}

-- the region q has become q', for which the rule holds and which means s
pub record Outcome (Rule : Type 0) (q q' : Bytes) (s : Queue) : Type 0 where
  pub size : length q' ≡ length q
  pub fine : Rule
  pub meaning : queue_of q' ≡ s

-- clear: an empty queue, whatever was there; any reserve that Q allows is free
abbrev pub Clearing : Bytes → Bytes → Type 0
Clearing q q' = Outcome ((k : ℕ) → k ≤ room q → AtRest k q') q q' empty

-- owe: the message m is owed
abbrev pub Owing : Bytes → Bytes → Bytes → Type 0
Owing m q q' = Outcome (InStep 64 q') q q' (owing (room q) m (queue_of q))

-- settle: the step ends; what was reserved is reserved
abbrev pub Settling : Bytes → Bytes → Type 0
Settling q q' = Outcome ((k : ℕ) → InStep k q → AtRest k q') q q' (settled (queue_of q))

-- put_error: the ERROR is queued; where it fits beside what was queued, 64 bytes are still reserved
abbrev pub PuttingError : Kind → Refusal → Bytes → Bytes → Type 0
PuttingError k r q q' =
    Outcome ((AtRest 0 q') × (error_fits (room q) k r (queue_of q) ≡ true → AtRest 64 q')) q q'
    (with_error k r (queue_of q))

-- the first message is gone; what was reserved is reserved
abbrev pub Removing : Bytes → Bytes → Type 0
Removing q q' = Outcome ((k : ℕ) → AtRest k q → AtRest k q') q q' (taken (queue_of q))

-- the first message stands at the front of out, the rest of out is as it was, and r is the message's length
pub record Copying (q out : Bytes) (r : ℕ) (out' : Bytes) : Type 0 where
  pub count : r ≡ first_length (queued_of q)
  pub copied : out' ≡ sets out 0 (first_message (queued_of q))

-- take: both
pub record Taking (q out : Bytes) (r : ℕ) (q' out' : Bytes) : Type 0 where
  pub message : Copying q out r out'
  pub left : Removing q q'
