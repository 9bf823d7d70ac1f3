-- Feed (document 01, "The numbers a call gives back" and "The simple server"; document 02, P2): the order of checks,
-- and what becomes of the first message of the input.
use Rattle.std.specs.Prelude.{ℕ, List, [], ◌∷◌, ◌++◌, Bool, true, false, cond, not, ◌&&◌}
use Rattle.octets.specs.Octets.{Bytes}
use Rattle.protocol.specs.Terms.{Action, Command, begin, commit, plain, error, Reading, blank, command, invalid}
use Rattle.protocol.specs.Terms.{Cut, incomplete, whole, Protocol}
use Rattle.protocol.specs.declared.Kind.{Kind}
use Rattle.protocol.specs.declared.Kind.TheVariants.{Packets, Stream, Framed, Text}
use Rattle.protocol.specs.declared.Refusal.{Refusal}
use Rattle.protocol.specs.declared.Refusal.TheVariants.{Unknown, Parameter, Room, State as BadState}
use Rattle.model.specs.Store.{Store}
use Rattle.model.specs.Step.{refuses_any}
use Rattle.model.specs.Queueing.{Queueing}
use Rattle.model.specs.State.{Sizes, Transaction, off, begun, spoiled, after_slip, recording_fits}
use Rattle.model.specs.State.{ClientOf, SlotOf, free, used, StateOf, with_kind}
use Rattle.model.specs.Queue.{fits_all}
use Rattle.model.specs.Events.{consumed, stepped}
use Rattle.model.specs.Decision.{Decision, unaltered, done, refusal, slip}

-- where a message is judged: by this protocol, in a server of these sizes, with this store, as a message of the
-- client in this slot
pub record Context : Type 0 where
  pub protocol : Protocol
  pub sizes : Sizes
  pub store : Store
  pub slot : ℕ

-- a message of slot i, in this state
abbrev pub context_of : {queueing : Queueing} → Protocol → StateOf queueing → ℕ → Context
context_of protocol st i = record { protocol = protocol; sizes = st.sizes; store = st.store; slot = i }

-- whether a refusal is a slip: 100, 101 and 103 are
abbrev pub is_slip : Refusal → Bool
is_slip Unknown = true
is_slip Parameter = true
is_slip Room = false
is_slip BadState = true

-- whether slips leave a client open: "In form 1, text clients should now stay open after 100, 101 and 103"
abbrev pub forgives : Kind → Bool → Bool
forgives Packets hangs_up = false
forgives Stream hangs_up = false
forgives Framed hangs_up = false
forgives Text hangs_up = not hangs_up

-- whether a client of this kind and form stays open after a refusal
abbrev pub stays_open : Kind → Bool → Refusal → Bool
stays_open k hangs_up r = forgives k hangs_up && is_slip r

module _ {queueing : Queueing} where
  -- whether the ERROR of a refused message, which fixes the kind k, fits in Q − 64
  abbrev pub error_fits : Context → Kind → ClientOf queueing → Refusal → Bool
  error_fits x k c r = fits_all x.protocol x.sizes.queue_room (error r ∷ []) (with_kind k c)

  -- A refused message of n bytes, in the kind k. Its client is shut; or it stays open with the transaction t, and "if
  -- that ERROR doesn't fit in Q − 64, the client is shut with 102 instead and feed answers 102".
  unfoldable pub decide_refusal : Context → ℕ → Kind → ClientOf queueing → Refusal → Transaction → Decision
  decide_refusal x n k c r t =
      cond (stays_open k c.hangs_up r)
      (cond (error_fits x k c r) (slip n x.slot k r t) (refusal n x.slot k Room))
      (refusal n x.slot k r)

  -- a step of the client: refused with 102 where one of its actions would be refused at its turn, else done
  unfoldable pub decide_step : Context → ℕ → Kind → ClientOf queueing → List Action → Decision
  decide_step x n k c xs =
      cond (refuses_any x.sizes.store_room xs x.store c.patterns)
      (refusal n x.slot k Room)
      (done n [] (stepped x.slot k xs))

  -- A command of the client, by its transaction. BEGIN starts recording, and is 103 in a transaction, which it spoils.
  -- COMMIT runs the recorded actions as one step; without a BEGIN it has no effect; in a spoiled transaction it "gives
  -- 103, does nothing and ends the transaction". An action runs at once, or is recorded, which is 102 where it does not
  -- fit; in a spoiled transaction it does nothing.
  unfoldable pub decide_command : Context → ℕ → Kind → ClientOf queueing → Command → Transaction → Decision
  decide_command x n k c begin off = done n [] (consumed x.slot k (begun []))
  decide_command x n k c begin (begun xs) = decide_refusal x n k c BadState spoiled
  decide_command x n k c begin spoiled = decide_refusal x n k c BadState spoiled
  decide_command x n k c commit off = done n [] (consumed x.slot k off)
  decide_command x n k c commit (begun xs) = decide_step x n k c xs
  decide_command x n k c commit spoiled = decide_refusal x n k c BadState off
  decide_command x n k c (plain a) off = decide_step x n k c (a ∷ [])
  decide_command x n k c (plain a) (begun xs) =
      cond (recording_fits x.sizes.record_room (xs ++ (a ∷ [])))
      (done n [] (consumed x.slot k (begun (xs ++ (a ∷ [])))))
      (refusal n x.slot k Room)
  decide_command x n k c (plain a) spoiled = done n [] (consumed x.slot k spoiled)

  -- a whole message of n bytes, in the kind k: a blank line has no effect, a command is obeyed, an invalid message is
  -- refused, and where its client stays open spoils a transaction
  unfoldable pub decide_reading : Context → ℕ → Kind → Reading → ClientOf queueing → Decision
  decide_reading x n k blank c = done n [] (consumed x.slot k c.transaction)
  decide_reading x n k (command a) c = decide_command x n k c a c.transaction
  decide_reading x n k (invalid r) c = decide_refusal x n k c r (after_slip c.transaction)

  -- 1 where the input does not hold a whole message
  unfoldable pub decide_cut : Context → Cut → ClientOf queueing → Decision
  decide_cut x incomplete c = unaltered 1
  decide_cut x (whole n k r) c = decide_reading x n k r c

  -- 2 for a slot free or N or more, 3 for a shut client, then the first message of the input
  unfoldable pub decide_feed : Context → Bytes → SlotOf queueing → Decision
  decide_feed x bs free = unaltered 2
  decide_feed x bs (used c) =
      cond c.shut (unaltered 3) (decide_cut x (x.protocol.cut c.kind bs) c)
