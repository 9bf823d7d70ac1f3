-- A client's log (document 01, "The list"; demand 3): all messages ever queued to it, what its takes gave, and where
-- each of its patterns was last added.
use Rattle.std.specs.Prelude.{ℕ, ◌+◌, List, [], ◌∷◌, ◌++◌, Bool, true, false, cond, ◌&&◌, eqb, length}
use Rattle.octets.specs.Octets.{Bytes}
use Rattle.octets.specs.Order.{same}
use Rattle.protocol.specs.Terms.{Action, hello, sub, unsub, read, write, ping, Message, error, Protocol}
use Rattle.model.specs.Store.{Store}
use Rattle.model.specs.Patterns.{Patterns, held}
use Rattle.model.specs.Step.{store_after, patterns_after, owes}
use Rattle.model.specs.State.{off, Client, Slot, free, used}
use Rattle.model.specs.State.{with_kind, with_transaction}
use Rattle.model.specs.Queue.{queued_by_step}
use Rattle.model.specs.Events.{Event, idle, opened, closed, took, consumed, refused, slipped, stepped}
use Rattle.model.specs.Decision.{Call, opens, feeds, takes, closes, Reply}

-- Of one client: the messages ever queued to it, ERROR included; the bytes that each of its takes gave; and for each
-- pattern how many messages had been queued when it was last added.
pub record Log : Type 0 where
  pub queued : List Message
  pub taken : List Bytes
  pub added : Bytes → ℕ

-- the log of a client just opened
abbrev pub new_log : Log
new_log = record { queued = []; taken = []; added = λ p. 0 }

-- ---- where a pattern was last added

-- After one action at its turn, before which n messages had been queued or owed: a SUB of a pattern not held adds it
-- there.
unfoldable pub added_after : Bool → Action → Patterns → ℕ → (Bytes → ℕ) → Bytes → ℕ
added_after false a ps n f = f
added_after true (hello t) ps n f = f
added_after true (sub p) ps n f = cond (held p ps) f (λ q. cond (same q p) n (f q))
added_after true (unsub p) ps n f = f
added_after true (read k) ps n f = f
added_after true (write k v) ps n f = f
added_after true (ping i) ps n f = f

-- After the actions of a step: at each turn n has grown by what the earlier actions owe the client.
unfoldable pub added_after_all : Protocol → Bool → List Action → Store → Patterns → ℕ → (Bytes → ℕ) → Bytes → ℕ
added_after_all protocol mine [] s ps n f = f
added_after_all protocol mine (a ∷ xs) s ps n f =
    added_after_all protocol mine xs (store_after a s) (patterns_after mine a ps)
    (n + length (owes protocol mine a s ps)) (added_after mine a ps n f)

-- ---- a client's log after a call

-- the log with more messages queued
abbrev pub log_queued : List Message → Log → Log
log_queued ms l = record { queued = l.queued ++ ms; taken = l.taken; added = l.added }

-- the log after a step that finds the client so, with its kind of now
unfoldable pub log_after_step : Protocol → ℕ → Bool → List Action → Store → Client → Log → Log
log_after_step protocol Q mine xs s c l =
    record {
      queued = l.queued ++ queued_by_step protocol Q mine xs s c;
      taken = l.taken;
      added = added_after_all protocol mine xs s c.patterns (length l.queued) l.added;
    }

-- a change of the log of the client in a slot
unfoldable pub on_log : (Client → Log → Log) → Slot → Log → Log
on_log f free l = l
on_log f (used c) l = f c l

-- The log of slot j after an event that finds this in the slot: a client just opened has a new one, a refusal queues
-- one ERROR, a step queues what it owes. The log of a client that is closed stays until the slot is opened anew.
unfoldable pub log_after_event : Protocol → ℕ → Event → Store → ℕ → Slot → Log → Log
log_after_event protocol Q idle s j x l = l
log_after_event protocol Q (opened i o) s j x l = cond (eqb j i) new_log l
log_after_event protocol Q (closed i) s j x l = l
log_after_event protocol Q (took i) s j x l = l
log_after_event protocol Q (consumed i k t) s j x l = l
log_after_event protocol Q (refused i k r) s j x l = cond (eqb j i) (on_log (λ c. log_queued (error r ∷ [])) x l) l
log_after_event protocol Q (slipped i k r t) s j x l = cond (eqb j i) (on_log (λ c. log_queued (error r ∷ [])) x l) l
log_after_event protocol Q (stepped i k xs) s j x l =
    cond (eqb j i)
    (on_log (λ c. log_after_step protocol Q true xs s (with_transaction off (with_kind k c))) x l)
    (on_log (log_after_step protocol Q false xs s) x l)

-- the log with the bytes that one more take gave
abbrev pub log_taken : Bytes → Log → Log
log_taken bs l = record { queued = l.queued; taken = l.taken ++ (bs ∷ []); added = l.added }

-- the log of slot j with what a call gave: the bytes of a take of that slot answered 0
unfoldable pub log_given : Call → Reply → ℕ → Log → Log
log_given (opens i form) r j l = l
log_given (feeds i bs) r j l = l
log_given (takes i len) r j l = cond (eqb j i && eqb r.answer 0) (log_taken r.bytes l) l
log_given (closes i) r j l = l
