-- What the parts of the operations on a region ask and promise: whether a message has room, moving to the room's front,
-- writing a row, and dropping what is pending.
use Rattle.std.specs.Prelude.{◌≡◌, Bool, ◌++◌, ℕ, ◌+◌, ◌≤◌, ◌<◌, leb, length}
use Rattle.std.proofs.lemmas.List.Edits.{sets}
use Rattle.octets.specs.Octets.{Bytes}
use Rattle.octets.specs.Number.{big_endian}
use Rattle.queue.specs.Rows.{row}
use Rattle.queue.specs.Meaning.{Queue, queue_with, kept, kept_rows}
use Rattle.queue.specs.Region.{InStep, head, tail, pending_end, flag, room, queued_of, queue_of}
use Rattle.queue.specs.Post.{Outcome}

-- whether a message of n bytes fits in Q − 64, by the offsets
abbrev pub has_room : ℕ → Bytes → Bool
has_room n q = leb (pending_end q + (4 + n) + 64) (head q + room q)

-- what is queued and pending lies elsewhere in the room
pub record Moving (q q' : Bytes) : Type 0 where
  pub left : Outcome ((k : ℕ) → InStep k q → InStep k q') q q' (queue_of q)
  pub span : pending_end q' + head q ≡ pending_end q + head q'
  pub same_flag : flag q' ≡ flag q

-- at the front of the room
pub record Gathering (q q' : Bytes) : Type 0 where
  pub moved : Moving q q'
  pub front : head q' ≡ 0

-- where a message of n bytes has room behind it
pub record Making (n : ℕ) (q q' : Bytes) : Type 0 where
  pub moved : Moving q q'
  pub enough : 16 + pending_end q' + (4 + n) ≤ length q

-- the region has room for a message of n bytes behind what is pending
pub record Writable (n : ℕ) (q : Bytes) : Type 0 where
  pub narrow : length q < 4294967296
  pub enough : 16 + pending_end q + (4 + n) ≤ length q

-- the region with the row r written behind what is pending
unfoldable pub pushed : Bytes → Bytes → Bytes
pushed r q = sets (sets q (16 + pending_end q) r) 8 (big_endian 4 (pending_end q + length r))

-- a message of n bytes fits in Q beside what is queued and pending
pub record Appendable (n : ℕ) (q : Bytes) : Type 0 where
  pub fine : InStep 0 q
  pub flag-clear : flag q ≡ 0
  pub enough : pending_end q + (4 + n) ≤ head q + room q

-- a message more is pending
abbrev pub appended : Bytes → Queue → Queue
appended m s = queue_with s.queued (kept (kept_rows s.pending ++ row m))

-- and what it leaves of Q can be reserved
abbrev pub Appending : Bytes → ℕ → Bytes → Bytes → Type 0
Appending m n q q' =
    Outcome ((k : ℕ) → pending_end q + (4 + n) + k ≤ head q + room q → InStep k q') q q' (appended m (queue_of q))

-- nothing is pending, and the flag is f
pub record Dropping (f : ℕ) (q q' : Bytes) : Type 0 where
  pub size : length q' ≡ length q
  pub fine : (k : ℕ) → InStep k q → InStep k q'
  pub same-queued : queued_of q' ≡ queued_of q
  pub same_head : head q' ≡ head q
  pub end-tail : pending_end q' ≡ tail q
  pub none-pending : pending_end q' ≡ tail q'
  pub flag-set : flag q' ≡ f
