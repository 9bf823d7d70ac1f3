-- Demand 3: what further takes with room enough give is exactly what waits.
use mathlib.Core.Path.{◌≡◌, refl, sym, ap, ◌∙◌}
use mathlib.Core.List.{List, [], ◌∷◌, ◌++◌}
use mathlib.Core.Bool.{Bool, true}
use Prim.Native.Nat.{ℕ, zero, suc, ◌≤◌}
use native.Mathlib.Omega.{arith}
use lib.ListN.{length}
use borrow.Author.Tests.{eq-eqb}
use Rattle.octets.specs.Octets.{Bytes}
use Rattle.protocol.specs.Terms.{Protocol}
use Rattle.model.specs.Queueing.{first}
use Rattle.model.specs.State.{Sizes, in_range, Client, used, State, slot_at}
use Rattle.model.specs.State.{with_queue}
use Rattle.model.specs.Queueing.{queue_charge, rest}
use Rattle.model.specs.Queue.{after_take, encoded}
use Rattle.model.specs.Events.{took, on_client, slot_after_event, after_event}
use Rattle.model.specs.Decision.{Call}
use Rattle.model.specs.Calls.{serve}
use Rattle.model.specs.History.{history_of, drain}
use Rattle.model.specs.Lawful.{Lawful}
use Rattle.model.specs.Invariant.{Each}
use Rattle.model.proofs.Slots.{slot-after-used}
use Rattle.model.proofs.Decisions.{take-empty, take-first}
use Rattle.model.proofs.Taken.{queued-is-taken-then-waiting}

-- messages that charge no more than len are each no longer
pub short-messages : (len : ℕ) (q : List Bytes) → queue_charge q ≤ len → Each (λ m. length m ≤ len) q
unfolding queue_charge
short-messages len [] h = tt
short-messages len (m ∷ q) h = (omega arith, short-messages len q (omega arith))

module _ (protocol : Protocol) where
  after-take : (j : ℕ) (st : State) (c : Client) → slot_at j st ≡ used c
      → slot_at j (after_event protocol (took j) st) ≡ used (after_take c)
  unfolding slot_after_event on_client
  after-take j st c w = slot-after-used protocol (took j) st j c w ∙ rw (eq-eqb j j refl)

  taken-queue : (c : Client) (m : Bytes) (q : List Bytes) → c.queue ≡ m ∷ q → (after_take c).queue ≡ q
  unfolding after_take with_queue rest
  taken-queue c m q e = rw e

  -- Takes with room for each waiting message give them all, in order, and then no more.
  pub drain-queue : (q : List Bytes) (n j len : ℕ) (st : State) (c : Client) → slot_at j st ≡ used c → c.queue ≡ q
      → length q ≤ n → Each (λ m. length m ≤ len) q → drain protocol n j len st ≡ q
  unfolding drain serve
  drain-queue [] zero j len st c w e h r = refl
  drain-queue [] (suc n) j len st c w e h r = rw (take-empty protocol st j len c w (ap first e))
  drain-queue (m ∷ q) zero j len st c w e h r = absurd (omega arith)
  drain-queue (m ∷ q) (suc n) j len st c w e h r =
      rw (take-first protocol st j len c m w (ap first e) r.0)
      (ap (λ (l : List Bytes). m ∷ l)
      (drain-queue q n j len (after_event protocol (took j) st) (after_take c) (after-take j st c w)
      (taken-queue c m q e)
      (omega arith) r.1))

  -- Demand 3: what a client's takes gave, then what further takes with room enough would give, is exactly what was
  -- queued to it, in order and byte for byte.
  pub taken-then-drained : (valid : Bytes → Bool) → Lawful protocol valid → (z : Sizes) → in_range z ≡ true
      → (xs : List Call)
      → (j : ℕ) (c : Client) → slot_at j (history_of protocol z xs).state ≡ used c
      → (n len : ℕ) → length c.queue ≤ n → Each (λ m. length m ≤ len) c.queue
      → ((history_of protocol z xs).logs j).taken ++ drain protocol n j len (history_of protocol z xs).state
      ≡ encoded protocol c.kind ((history_of protocol z xs).logs j).queued
  taken-then-drained valid law z h xs j c w n len enough room =
      rw (drain-queue c.queue n j len (history_of protocol z xs).state c w refl enough room)
      (sym (queued-is-taken-then-waiting protocol valid law z h xs j c w))
