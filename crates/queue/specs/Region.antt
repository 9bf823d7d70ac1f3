-- The region of memory that holds a client's queue: its layout, its rules and what it means (document 01, "The numbers
-- a call gives back": the layout is the team's, and answer 7 says that a rule of it is broken).
--
--   offset  size   what
--   0       4      head: where what is queued begins
--   4       4      tail: where it ends, and what is pending begins
--   8       4      the pending end: where that ends
--   12      4      the overflow flag: 1 where the running step owes the client more than fits, else 0
--   16      2 × Q  the room
--
-- Numbers are big-endian, and count from the start of the room. The room is twice Q, so that a message is taken by
-- moving the head alone, and the room is gathered to its front only after more than Q bytes have gone by. No rule looks
-- at the messages: every content of the room means something (Rows). A region of an odd length has a byte to spare.
use Rattle.std.specs.Prelude.{◌≡◌, Bool, cond, ◌&&◌, ℕ, ◌+◌, ◌-◌, ◌/◌, ◌≤◌, ◌<◌, eqb, leb, ltb, length}
use Rattle.octets.specs.Octets.{Bytes}
use Rattle.octets.specs.Part.{part}
use Rattle.octets.specs.Number.{number_at}
use Rattle.queue.specs.Meaning.{Pending, kept, overflown, Queue, queue_with}

-- ---- the numbers

abbrev pub head : Bytes → ℕ
head q = number_at 4 q 0

abbrev pub tail : Bytes → ℕ
tail q = number_at 4 q 4

abbrev pub pending_end : Bytes → ℕ
pending_end q = number_at 4 q 8

abbrev pub flag : Bytes → ℕ
flag q = number_at 4 q 12

-- Q
abbrev pub room : Bytes → ℕ
room q = (length q - 16) / 2

-- ---- the meaning

abbrev pub queued_of : Bytes → Bytes
queued_of q = part q (16 + head q) (tail q - head q)

unfoldable pub pending_of : Bytes → Pending
pending_of q = cond (eqb (flag q) 0) (kept (part q (16 + tail q) (pending_end q - tail q))) overflown

abbrev pub queue_of : Bytes → Queue
queue_of q = queue_with (queued_of q) (pending_of q)

-- ---- the rules

-- At any time: four bytes hold every offset of the region; the numbers are in order and within the room; what is queued
-- and pending leaves `reserve` bytes of Q, 64 while the client is open and 0 once it is shut; the flag is 0 or 1.
pub record InStep (reserve : ℕ) (q : Bytes) : Type 0 where
  pub header : 16 ≤ length q
  pub narrow : length q < 4294967296
  pub head_tail : head q ≤ tail q
  pub tail-end : tail q ≤ pending_end q
  pub within : 16 + pending_end q ≤ length q
  pub reserved : pending_end q + reserve ≤ head q + room q
  pub flag-bit : flag q ≤ 1

-- Between steps: nothing is pending.
pub record AtRest (reserve : ℕ) (q : Bytes) : Type 0 where
  pub in_step : InStep reserve q
  pub none-pending : pending_end q ≡ tail q
  pub flag-clear : flag q ≡ 0

-- The rules between steps as a test.
unfoldable pub queue_fine : ℕ → Bytes → Bool
queue_fine reserve q =
    leb 16 (length q)
    && (ltb (length q) 4294967296
    && (leb (head q) (tail q)
    && (leb (16 + tail q) (length q)
    && (leb (tail q + reserve) (head q + room q)
    && (eqb (pending_end q) (tail q) && eqb (flag q) 0)))))
