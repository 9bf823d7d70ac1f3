-- What a call does to the state, and the state after it.
use Rattle.std.specs.Prelude.{ℕ, suc, List, [], ◌∷◌, true, false, cond, eqb}
use Rattle.protocol.specs.Terms.{Action, Protocol}
use Rattle.protocol.specs.declared.Kind.{Kind}
use Rattle.protocol.specs.declared.Refusal.{Refusal}
use Rattle.model.specs.Store.{Store}
use Rattle.model.specs.Step.{store_after_all}
use Rattle.model.specs.Queueing.{Queueing}
use Rattle.model.specs.State.{Opening, Transaction, off, ClientOf, SlotOf, free, used, StateOf, new_client}
use Rattle.model.specs.State.{with_kind, with_transaction}
use Rattle.model.specs.Queue.{after_take, shut_by, with_error, after_step}

-- What a call does. Each event but `idle` names its slot; of those that come from a message the kind is the client's
-- from then on.
pub data Event : Type 0 where
  -- nothing is altered
  idle : Event
  -- a client is opened
  opened : ℕ → Opening → Event
  -- the client is closed
  closed : ℕ → Event
  -- the client's first message is taken
  took : ℕ → Event
  -- a message is consumed that leaves this transaction and has no other effect
  consumed : ℕ → Kind → Transaction → Event
  -- a message is refused, and its client is shut
  refused : ℕ → Kind → Refusal → Event
  -- a message is refused, and its client stays open with this transaction
  slipped : ℕ → Kind → Refusal → Transaction → Event
  -- one step is done: a single action, or those of a commit
  stepped : ℕ → Kind → List Action → Event

-- the store after an event: only a step changes it
unfoldable pub store_after_event : Event → Store → Store
store_after_event idle s = s
store_after_event (opened i o) s = s
store_after_event (closed i) s = s
store_after_event (took i) s = s
store_after_event (consumed i k t) s = s
store_after_event (refused i k r) s = s
store_after_event (slipped i k r t) s = s
store_after_event (stepped i k xs) s = store_after_all xs s

module _ {queueing : Queueing} where
  -- a slot with its client changed; a free slot stays free
  unfoldable pub on_client : (ClientOf queueing → ClientOf queueing) → SlotOf queueing → SlotOf queueing
  on_client f free = free
  on_client f (used c) = used (f c)

  -- all slots, each changed by its number, the first of which is n
  unfoldable pub each_slot : (ℕ → SlotOf queueing → SlotOf queueing) → ℕ → List (SlotOf queueing)
      → List (SlotOf queueing)
  each_slot f n [] = []
  each_slot f n (x ∷ xs) = f n x ∷ each_slot f (suc n) xs

module _ (protocol : Protocol) {queueing : Queueing} where
  -- the slot j after an event, from what it was and the store before: only a step changes slots other than its own
  unfoldable pub slot_after_event : ℕ → Event → Store → ℕ → SlotOf queueing → SlotOf queueing
  slot_after_event Q idle s j x = x
  slot_after_event Q (opened i o) s j x = cond (eqb j i) (used (new_client o)) x
  slot_after_event Q (closed i) s j x = cond (eqb j i) free x
  slot_after_event Q (took i) s j x = cond (eqb j i) (on_client after_take x) x
  slot_after_event Q (consumed i k t) s j x = cond (eqb j i) (on_client (λ c. with_transaction t (with_kind k c)) x) x
  slot_after_event Q (refused i k r) s j x =
      cond (eqb j i) (on_client (λ c. shut_by protocol.written r (with_transaction off (with_kind k c))) x) x
  slot_after_event Q (slipped i k r t) s j x =
      cond (eqb j i) (on_client (λ c. with_error protocol.written r (with_transaction t (with_kind k c))) x) x
  slot_after_event Q (stepped i k xs) s j x =
      cond (eqb j i)
      (on_client (λ c. after_step protocol Q true xs s (with_transaction off (with_kind k c))) x)
      (on_client (λ c. after_step protocol Q false xs s c) x)

  -- the state after an event: the sizes stay
  unfoldable pub after_event : Event → StateOf queueing → StateOf queueing
  after_event e st =
      record {
        sizes = st.sizes;
        store = store_after_event e st.store;
        slots = each_slot (slot_after_event st.sizes.queue_room e st.store) 0 st.slots;
      }
