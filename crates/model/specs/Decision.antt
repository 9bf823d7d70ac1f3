-- A call, what it gives back, and what it does (document 01, "The numbers a call gives back").
use Rattle.std.specs.Prelude.{ℕ, []}
use Rattle.octets.specs.Octets.{Bytes}
use Rattle.protocol.specs.Terms.{number}
use Rattle.protocol.specs.declared.Kind.{Kind}
use Rattle.protocol.specs.declared.Refusal.{Refusal}
use Rattle.model.specs.State.{Transaction}
use Rattle.model.specs.Events.{Event, idle, refused, slipped}

-- the calls after set up: open a slot in a form, feed bytes to a slot, take from a slot into so many bytes, close a
-- slot
pub data Call : Type 0 where
  opens : ℕ → ℕ → Call
  feeds : ℕ → Bytes → Call
  takes : ℕ → ℕ → Call
  closes : ℕ → Call

-- a call that gives no bytes: all but a take
abbrev pub Silent : Call → Type 0
Silent (opens i form) = Unit {0}
Silent (feeds i bs) = Unit {0}
Silent (takes i len) = ⊥
Silent (closes i) = Unit {0}

-- what a call gives back: the answer, the number beside it, and the bytes that a take writes
pub record Reply : Type 0 where
  pub answer : ℕ
  pub count : ℕ
  pub bytes : Bytes

-- what a call gives back and does
pub record Decision : Type 0 where
  pub reply : Reply
  pub event : Event

-- answers 1 to 8: nothing altered, and every other number is 0
abbrev pub unaltered : ℕ → Decision
unaltered n = record { reply = record { answer = n; count = 0; bytes = [] }; event = idle }

-- answer 0, with the number beside it and the bytes of a take
abbrev pub done : ℕ → Bytes → Event → Decision
done n bs e = record { reply = record { answer = 0; count = n; bytes = bs }; event = e }

-- answers 100 to 103 to a message of n bytes in the slot i: its client is shut
abbrev pub refusal : ℕ → ℕ → Kind → Refusal → Decision
refusal n i k r = record { reply = record { answer = number r; count = n; bytes = [] }; event = refused i k r }

-- answers 100, 101 and 103 to such a message, whose client stays open with the transaction t
abbrev pub slip : ℕ → ℕ → Kind → Refusal → Transaction → Decision
slip n i k r t = record { reply = record { answer = number r; count = n; bytes = [] }; event = slipped i k r t }
