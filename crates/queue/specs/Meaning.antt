-- What a client's queue holds during a step, and what each operation makes of it (document 01, "Queues" and
-- "Shutting"; document 02, P2). A step owes a client its messages one by one. They are pending until the step ends:
-- then all of them are queued, or none is and the client is shut. Q is the queue's room.
-- Document 01 judges a step's messages as a whole. That owing them one by one comes to the same is the law
-- `owed_all-kept` (proofs/Owed).
use Rattle.std.specs.Prelude.{List, [], ◌∷◌, ◌++◌, Bool, true, false, cond, ℕ, ◌+◌, leb, length}
use Rattle.octets.specs.Octets.{Bytes}
use Rattle.protocol.specs.declared.Kind.{Kind}
use Rattle.protocol.specs.declared.Refusal.{Refusal}
use Rattle.protocol.specs.Terms.{error}
use Rattle.message.specs.Forms.{written}
use Rattle.queue.specs.Rows.{row, behind_first}

-- what the running step owes the client so far: rows that fit, or more than fits
pub data Pending : Type 0 where
  kept : Bytes → Pending
  overflown : Pending

-- what is queued and untaken, and what is pending
pub record Queue : Type 0 where
  pub queued : Bytes
  pub pending : Pending

abbrev pub queue_with : Bytes → Pending → Queue
queue_with b p = record { queued = b; pending = p }

unfoldable pub is_overflown : Pending → Bool
is_overflown (kept p) = false
is_overflown overflown = true

-- the rows that are pending; more than fits is dropped
unfoldable pub kept_rows : Pending → Bytes
kept_rows (kept p) = p
kept_rows overflown = []

-- whether n bytes more fit beside b queued and p pending: 64 of Q are kept back
unfoldable pub fits : ℕ → Bytes → Bytes → ℕ → Bool
fits Q b p n = leb (length b + length p + n + 64) Q

-- one message more is pending if it fits; the first that does not fit drops all, and from there on the step has
-- overflown
unfoldable pub owed : ℕ → Bytes → Pending → Bytes → Pending
owed Q b overflown m = overflown
owed Q b (kept p) m = cond (fits Q b p (length (row m))) (kept (p ++ row m)) overflown

-- messages owed one after the other
unfoldable pub owed_all : ℕ → Bytes → Pending → List Bytes → Pending
owed_all Q b p [] = p
owed_all Q b p (m ∷ ms) = owed_all Q b (owed Q b p m) ms

-- whether the ERROR of a refusal fits beside what is queued, with 64 of Q kept back
unfoldable pub error_fits : ℕ → Kind → Refusal → Queue → Bool
error_fits Q k r s = fits Q s.queued [] (length (row (written k (error r))))

-- ---- the operations

-- the queue that a client opens with
abbrev pub empty : Queue
empty = queue_with [] (kept [])

-- the queue after a take
abbrev pub taken : Queue → Queue
taken s = queue_with (behind_first s.queued) s.pending

-- an encoded message is owed
abbrev pub owing : ℕ → Bytes → Queue → Queue
owing Q m s = queue_with s.queued (owed Q s.queued s.pending m)

-- the step ends: what is pending is queued
abbrev pub settled : Queue → Queue
settled s = queue_with (s.queued ++ kept_rows s.pending) (kept [])

-- the ERROR of a refusal or of an overflow is queued; what is pending is dropped
abbrev pub with_error : Kind → Refusal → Queue → Queue
with_error k r s = queue_with (s.queued ++ row (written k (error r))) (kept [])
