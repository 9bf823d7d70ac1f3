-- The calls after set up (document 01, "The numbers a call gives back"): the order of checks, the numbers and bytes
-- given back, and the state after. Set up is in State, and feed's checks are in Feed. Answers 7, and 5 of set up, are
-- about lent memory, which the simple server does not have.
use Rattle.std.specs.Prelude.{ℕ, List, [], ◌∷◌, true, false, cond, eqb, leb, ltb, length}
use Rattle.std.proofs.Math.Option.{Option, some, none}
use Rattle.octets.specs.Octets.{Bytes}
use Rattle.protocol.specs.Terms.{Protocol}
use Rattle.protocol.specs.declared.Kind.TheVariants.{Packets, Stream}
use Rattle.model.specs.Queueing.{Queueing}
use Rattle.model.specs.State.{Opening, opening_with, SlotOf, free, used, StateOf, slot_at}
use Rattle.model.specs.Events.{after_event, opened, closed, took}
use Rattle.model.specs.Decision.{Call, opens, feeds, takes, closes, Reply, Decision, unaltered, done}
use Rattle.model.specs.Feed.{context_of, decide_feed}

-- ---- open: 2, 8, 4

-- form 0 is packets, form 1 a stream, and form 2 a stream whose client every refusal shuts; there is no other
unfoldable pub opening_of : ℕ → Option Opening
opening_of form =
    cond (eqb form 0) (some (opening_with Packets false))
    (cond (eqb form 1) (some (opening_with Stream false))
    (cond (eqb form 2) (some (opening_with Stream true)) none))

module _ {queueing : Queueing} where
  -- 8 for a form above 2, then 4 for a slot that is not free
  unfoldable pub decide_open_at : ℕ → Option Opening → SlotOf queueing → Decision
  decide_open_at i none x = unaltered 8
  decide_open_at i (some o) (used c) = unaltered 4
  decide_open_at i (some o) free = done 0 [] (opened i o)

  -- 2 for a slot number N or more, then as above
  unfoldable pub decide_open : ℕ → ℕ → ℕ → SlotOf queueing → Decision
  decide_open N i form x = cond (ltb i N) (decide_open_at i (opening_of form) x) (unaltered 2)

-- ---- take: 2, 6, 5

-- 6 where there is no message, then 5 where the out slice is shorter than the first one
unfoldable pub decide_take_from : ℕ → ℕ → Option Bytes → Decision
decide_take_from i len none = unaltered 6
decide_take_from i len (some m) = cond (leb (length m) len) (done (length m) m (took i)) (unaltered 5)

module _ {queueing : Queueing} where
  open queueing use {first}

  -- 2 for a slot free or N or more; a shut client's messages may still be taken
  unfoldable pub decide_take : ℕ → ℕ → SlotOf queueing → Decision
  decide_take i len free = unaltered 2
  decide_take i len (used c) = decide_take_from i len (first c.queue)

  -- ---- close: 2

  -- 2 for a slot free or N or more; the store stays
  unfoldable pub decide_close : ℕ → SlotOf queueing → Decision
  decide_close i free = unaltered 2
  decide_close i (used c) = done 0 [] (closed i)

-- ---- any call

-- the result of a call
pub record Out (queueing : Queueing) : Type 0 where
  pub reply : Reply
  pub next : StateOf queueing

module _ (protocol : Protocol) {queueing : Queueing} where
  -- what a call gives back and does, from the checks above
  unfoldable pub decide : Call → StateOf queueing → Decision
  decide (opens i form) st = decide_open st.sizes.slot_count i form (slot_at i st)
  decide (feeds i bs) st = decide_feed (context_of protocol st i) bs (slot_at i st)
  decide (takes i len) st = decide_take i len (slot_at i st)
  decide (closes i) st = decide_close i (slot_at i st)

  -- one call: what it gives back, and the state that it leaves
  unfoldable pub serve : Call → StateOf queueing → Out queueing
  serve x st = record { reply = (decide x st).reply; next = after_event protocol (decide x st).event st }

  -- the state after a list of calls
  unfoldable pub after_calls : List Call → StateOf queueing → StateOf queueing
  after_calls [] st = st
  after_calls (x ∷ xs) st = after_calls xs (serve x st).next

  -- what each of a list of calls gives back
  unfoldable pub replies_to : List Call → StateOf queueing → List Reply
  replies_to [] st = []
  replies_to (x ∷ xs) st = (serve x st).reply ∷ replies_to xs (serve x st).next
