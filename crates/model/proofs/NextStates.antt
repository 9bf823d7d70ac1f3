-- The state after each event, as a change of one slot or slot by slot: the equations by which what the memory holds
-- after a call is compared with the simple server's next state.
use mathlib.Core.Path.{◌≡◌, refl, ap, sym, subst, ◌∙◌}
use mathlib.Core.List.{List, [], ◌∷◌}
use mathlib.Core.Bool.{true, false, cond}
use Prim.Native.Nat.{ℕ, zero, suc, ◌+◌, ◌<◌}
use native.Mathlib.Nat.{zero-add}
use native.Mathlib.Omega.{arith}
use lib.Dec.{eqb}
use lib.ListN.{length, get_or, set}
use lib.Seq.{ext_get_or}
use borrow.Author.Tests.{eq-eqb, ne_eqb}
use Rattle.protocol.specs.Terms.{Action, Protocol}
use Rattle.protocol.specs.declared.Kind.{Kind}
use Rattle.protocol.specs.declared.Refusal.{Refusal}
use Rattle.model.specs.Store.{Store}
use Rattle.model.specs.Step.{store_after_all}
use Rattle.model.specs.Queueing.{Queueing}
use Rattle.model.specs.State.{Sizes, Opening, Transaction, off, ClientOf, SlotOf, free, used, StateOf, slot_at}
use Rattle.model.specs.State.{new_client, with_kind, with_transaction}
use Rattle.model.specs.Queue.{after_take, shut_by, with_error, after_step}
use Rattle.model.specs.Events.{opened, closed, took, consumed, refused, slipped, stepped}
use Rattle.model.specs.Events.{on_client, each_slot, slot_after_event, store_after_event, after_event}
use Rattle.model.proofs.Slots.{SlotAfter, inside, outside, slot-after}

made : {queueing : Queueing} → Sizes → Store → List (SlotOf queueing) → StateOf queueing
made z s l = record { sizes = z; store = s; slots = l }

made-equal : {queueing : Queueing} (z y : Sizes) (s t : Store) (l m : List (SlotOf queueing)) → z ≡ y → s ≡ t → l ≡ m
    → made z s l ≡ made y t m
made-equal z y s t l m a b c = cc

-- Two states are equal where their sizes and stores are, and their slots one by one.
pub state-equal : {queueing : Queueing} (a b : StateOf queueing) → a.sizes ≡ b.sizes → a.store ≡ b.store
    → length a.slots ≡ length b.slots
    → ((j : ℕ) → j < length a.slots → slot_at j a ≡ slot_at j b) → a ≡ b
unfolding slot_at made
state-equal a b z s n h =
    made-equal a.sizes b.sizes a.store b.store a.slots b.slots z s
    (ext_get_or free a.slots b.slots n h)

-- the state with this in a slot
unfoldable pub with_slot : {queueing : Queueing} → ℕ → SlotOf queueing → StateOf queueing → StateOf queueing
with_slot i x st = record { sizes = st.sizes; store = st.store; slots = set st.slots i x }

-- slots past the one that is changed stay
each-beyond : {queueing : Queueing} (g : SlotOf queueing → SlotOf queueing) (i m : ℕ) → i < m
    → (l : List (SlotOf queueing)) → each_slot (λ j x. cond (eqb j i) (g x) x) m l ≡ l
unfolding each_slot
each-beyond g i m h [] = refl
each-beyond g i m h (x ∷ l) = rw (ne_eqb m i (λ e. omega arith), each-beyond g i (suc m) (omega arith) l)

-- a change of one slot is a change of all of them that leaves the others
pub each-one : {queueing : Queueing} (g : SlotOf queueing → SlotOf queueing) (n i : ℕ) (l : List (SlotOf queueing))
    → each_slot (λ j x. cond (eqb j (n + i)) (g x) x) n l ≡ set l i (g (get_or l i free))
unfolding each_slot
each-one g n i [] = refl
each-one g n zero (x ∷ l) =
    rw (eq-eqb n (n + 0) (omega arith), each-beyond g (n + 0) (suc n) (omega arith) l)
each-one g n (suc i) (x ∷ l) =
    let e : n + suc i ≡ suc n + i = omega arith in
    rw (ne_eqb n (n + suc i) (λ q. omega arith))
    (subst (λ m. x ∷ each_slot (λ j y. cond (eqb j m) (g y) y) (suc n) l ≡ x ∷ set l i (g (get_or l i free))) (sym e)
    (ap (◌∷◌ x) (each-one g (suc n) i l)))

module _ (protocol : Protocol) {queueing : Queueing} (st : StateOf queueing) (i : ℕ) where
  one-slot : (g : SlotOf queueing → SlotOf queueing)
      → each_slot (λ j x. cond (eqb j i) (g x) x) 0 st.slots ≡ set st.slots i (g (slot_at i st))
  unfolding slot_at
  one-slot g = rw (zero-add i) at (each-one g 0 i st.slots)

  pub after-opened : (k : Opening) → after_event protocol (opened i k) st ≡ with_slot i (used (new_client k)) st
  unfolding after_event store_after_event slot_after_event with_slot
  after-opened k = rw (one-slot (λ x. used (new_client k)))

  pub after-closed : after_event protocol (closed i) st ≡ with_slot i free st
  unfolding after_event store_after_event slot_after_event with_slot
  after-closed = rw (one-slot (λ x. free))

  module _ (c : ClientOf queueing) (w : slot_at i st ≡ used c) where
    pub after-took : after_event protocol (took i) st ≡ with_slot i (used (after_take c)) st
    unfolding after_event store_after_event slot_after_event with_slot on_client
    after-took = rw (one-slot (on_client after_take), w)

    pub after-consumed : (k : Kind) (r : Transaction)
        → after_event protocol (consumed i k r) st ≡ with_slot i (used (with_transaction r (with_kind k c))) st
    unfolding after_event store_after_event slot_after_event with_slot on_client
    after-consumed k r = rw (one-slot (on_client (λ d. with_transaction r (with_kind k d))), w)

    pub after-refused : (k : Kind) (r : Refusal)
        → after_event protocol (refused i k r) st ≡ with_slot i (used (shut_by protocol.written r (with_transaction off (with_kind k c)))) st
    unfolding after_event store_after_event slot_after_event with_slot on_client
    after-refused k r = rw (one-slot (on_client (λ d. shut_by protocol.written r (with_transaction off (with_kind k d)))), w)

    pub after-slipped : (k : Kind) (r : Refusal) (t : Transaction)
        → after_event protocol (slipped i k r t) st
        ≡ with_slot i (used (with_error protocol.written r (with_transaction t (with_kind k c)))) st
    unfolding after_event store_after_event slot_after_event with_slot on_client
    after-slipped k r t =
        rw (one-slot (on_client (λ d. with_error protocol.written r (with_transaction t (with_kind k d)))), w)

  -- ---- a step

  pub store-stepped : (k : Kind) (xs : List Action)
      → (after_event protocol (stepped i k xs) st).store ≡ store_after_all xs st.store
  unfolding after_event store_after_event
  store-stepped k xs = refl

  -- the feeder after its step
  pub slot-stepped-own : (k : Kind) (xs : List Action)
      → slot_at i (after_event protocol (stepped i k xs) st)
      ≡ on_client (λ c. after_step protocol st.sizes.queue_room true xs st.store (with_transaction off (with_kind k c)))
      (slot_at i st)
  unfolding slot_after_event on_client
  slot-stepped-own k xs = go (slot-after protocol (stepped i k xs) st i)
    where
      go : SlotAfter protocol (stepped i k xs) st i
          → slot_at i (after_event protocol (stepped i k xs) st)
          ≡ on_client (λ c. after_step protocol st.sizes.queue_room true xs st.store (with_transaction off (with_kind k c)))
          (slot_at i st)
      go (inside h) = h ∙ rw (eq-eqb i i refl)
      go (outside h f) = h ∙ rw f

  -- every other client after it
  pub slot-stepped-other : (k : Kind) (xs : List Action) (j : ℕ) → (j ≡ i → ⊥)
      → slot_at j (after_event protocol (stepped i k xs) st)
      ≡ on_client (λ c. after_step protocol st.sizes.queue_room false xs st.store c) (slot_at j st)
  unfolding slot_after_event on_client
  slot-stepped-other k xs j n = go (slot-after protocol (stepped i k xs) st j)
    where
      go : SlotAfter protocol (stepped i k xs) st j
          → slot_at j (after_event protocol (stepped i k xs) st)
          ≡ on_client (λ c. after_step protocol st.sizes.queue_room false xs st.store c) (slot_at j st)
      go (inside h) = h ∙ rw (ne_eqb j i n)
      go (outside h f) = h ∙ rw f
