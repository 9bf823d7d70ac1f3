-- Demand 1 for the simple server: which answers there are, and what a call that is turned away, or a message that is
-- refused, leaves.
use mathlib.Core.Path.{◌≡◌, refl, sym, ap, ◌∙◌}
use mathlib.Core.List.{[], ◌∷◌}
use mathlib.Core.Bool.{Bool, true, false, cond}
use mathlib.Core.Logic.{◌⊎◌, inl, inr}
use Prim.Native.Nat.{ℕ, ◌≤◌}
use native.Mathlib.Omega.{arith}
use lib.Dec.{eqb}
use lib.ListN.{length}
use borrow.Author.Tests.{eq-eqb, ne_eqb}
use Rattle.octets.specs.Octets.{Bytes}
use Rattle.protocol.specs.Terms.{number, error, Reading, whole, Protocol}
use Rattle.protocol.specs.declared.Kind.{Kind}
use Rattle.protocol.specs.declared.Refusal.{Refusal}
use Rattle.protocol.specs.declared.Refusal.TheVariants.{Unknown, Parameter, Room, State as BadState}
use Rattle.model.specs.Queueing.{Queueing}
use Rattle.model.specs.Store.{Store}
use Rattle.model.specs.State.{Transaction, off, ClientOf, SlotOf, used, StateOf, slot_at}
use Rattle.model.specs.State.{with_kind, with_transaction, with_queue}
use Rattle.model.specs.Queue.{shut_by, with_error, fits_all}
use Rattle.model.specs.Events.{Event, idle, refused, slipped, on_client, slot_after_event, store_after_event}
use Rattle.model.specs.Events.{after_event}
use Rattle.model.specs.Feed.{stays_open}
use Rattle.model.specs.Refusals.{Spoils, Leaves, shut-alone, stayed-alone}
use Rattle.model.specs.Decision.{Call, feeds, takes, Silent, Decision, unaltered}
use Rattle.model.specs.Calls.{decide, serve}
use Rattle.model.specs.Lawful.{Lawful}
use Rattle.model.proofs.Slots.{SlotAfter, inside, outside, slot-after, slot-after-used, after-idle}
use Rattle.model.proofs.Outcomes.{Outcome, turned-away, opening, consuming, refusing, slipping, running, giving}
use Rattle.model.proofs.Outcomes.{closing, outcome}

pub number-large : (r : Refusal) → 100 ≤ number r
number-large Unknown = omega arith
number-large Parameter = omega arith
number-large Room = omega arith
number-large BadState = omega arith

module _ (protocol : Protocol) {queueing : Queueing} where
  -- What a refusal leaves: the client of the slot i, which was open, has become d; nothing else is touched.
  pub record TouchedAlone (i : ℕ) (c d : ClientOf queueing) (old new : StateOf queueing) : Type 0 where
    pub store_kept : new.store ≡ old.store
    pub sizes-kept : new.sizes ≡ old.sizes
    pub others-kept : (j : ℕ) → (j ≡ i → ⊥) → slot_at j new ≡ slot_at j old
    pub was-open : c.shut ≡ false
    pub before : slot_at i old ≡ used c
    pub after : slot_at i new ≡ used d

  module _ (st : StateOf queueing) where
    -- ---- answers 1 to 8

    not-altered : (x : Call) (d : Decision) → Outcome protocol st x d → 1 ≤ d.reply.answer → d.reply.answer ≤ 8
        → d ≡ unaltered d.reply.answer
    not-altered x d (turned-away _ n h l u) p q = refl
    not-altered x d (opening i form k h e w) p q = absurd (omega arith)
    not-altered x d (consuming i bs n k y c r sp rec) p q = absurd (omega arith)
    not-altered x d (refusing i bs n k y c r sp why shuts) p q = absurd (omega (arith, number-large r))
    not-altered x d (slipping i bs n k y c r t sp why stays fits left) p q = absurd (omega (arith, number-large r))
    not-altered x d (running i bs n k y c xs sp run ok) p q = absurd (omega arith)
    not-altered x d (giving i len c m w e h) p q = absurd (omega arith)
    not-altered x d (closing i c w) p q = absurd (omega arith)

    -- A call answered 1 to 8 gives no other number and no byte, and leaves the state as it was.
    pub unaltered-decision : (x : Call) → 1 ≤ (serve protocol x st).reply.answer
        → (serve protocol x st).reply.answer ≤ 8
        → decide protocol x st ≡ unaltered (serve protocol x st).reply.answer
    unfolding serve
    unaltered-decision x p q = not-altered x _ (outcome protocol st x) p q

    pub unaltered-state : (x : Call) → 1 ≤ (serve protocol x st).reply.answer → (serve protocol x st).reply.answer ≤ 8
        → (serve protocol x st).next ≡ st
    unfolding serve
    unaltered-state x p q =
        let e : (decide protocol x st).event ≡ idle = ap (λ (d : Decision). d.event) (unaltered-decision x p q) in
        rw e (after-idle protocol st)

    -- ---- answers 100 to 103

    -- an event that leaves the store and changes the client of one slot alone
    record Own (i : ℕ) (e : Event) (f : ClientOf queueing → ClientOf queueing) : Type 0 where
      pub of-store : (s : Store) → store_after_event e s ≡ s
      pub of-slot : (Q : ℕ) (s : Store) (j : ℕ) (x : SlotOf queueing)
          → slot_after_event protocol Q e s j x ≡ cond (eqb j i) (on_client f x) x

    touches-alone : (i : ℕ) (e : Event) (f : ClientOf queueing → ClientOf queueing) → Own i e f
        → (c : ClientOf queueing) → c.shut ≡ false → slot_at i st ≡ used c
        → TouchedAlone i c (f c) st (after_event protocol e st)
    unfolding after_event on_client
    touches-alone i e f own c o w =
        record {
          store_kept = own.of-store st.store;
          sizes-kept = refl;
          others-kept = λ j n. other j n (slot-after protocol e st j);
          was-open = o;
          before = w;
          after = slot-after-used protocol e st i c w
              ∙ (own.of-slot st.sizes.queue_room st.store i (used c) ∙ rw (eq-eqb i i refl));
        }
      where
        other : (j : ℕ) → (j ≡ i → ⊥) → SlotAfter protocol e st j → slot_at j (after_event protocol e st) ≡ slot_at j st
        other j n (inside h) =
            h ∙ (own.of-slot st.sizes.queue_room st.store j (slot_at j st) ∙ rw (ne_eqb j i n))
        other j n (outside h g) = h ∙ sym g

    own-refused : (i : ℕ) (k : Kind) (r : Refusal)
        → Own i (refused i k r) (λ c. shut_by protocol.written r (with_transaction off (with_kind k c)))
    unfolding store_after_event slot_after_event
    own-refused i k r = record { of-store = λ s. refl; of-slot = λ Q s j x. refl }

    own-slipped : (i : ℕ) (k : Kind) (r : Refusal) (t : Transaction)
        → Own i (slipped i k r t) (λ c. with_error protocol.written r (with_transaction t (with_kind k c)))
    unfolding store_after_event slot_after_event
    own-slipped i k r t = record { of-store = λ s. refl; of-slot = λ Q s j x. refl }

    -- a feed refused: its slot, the refusal, the client, the message that it took, and what is left of the client
    pub record RefusedAlone (x : Call) (answer : ℕ) (new : StateOf queueing) : Type 0 where
      pub slot : ℕ
      pub input : Bytes
      pub fed : x ≡ feeds slot input
      pub reason : Refusal
      pub numbered : answer ≡ number reason
      pub client : ClientOf queueing
      pub consumed : ℕ
      pub kind-now : Kind
      pub reading : Reading
      pub reads : protocol.cut client.kind input ≡ whole consumed kind-now reading
      pub left : ClientOf queueing
      pub leaves : Leaves protocol st.sizes.queue_room reading kind-now reason client left
      pub touched : TouchedAlone slot client left st new

    left-shut : (x : Reading) (k : Kind) (r : Refusal) (c : ClientOf queueing) → stays_open k c.hangs_up r ≡ false
        → Leaves protocol st.sizes.queue_room x k r c
        (shut_by protocol.written r (with_transaction off (with_kind k c)))
    unfolding shut_by with_transaction with_kind
    left-shut x k r c shuts = shut-alone shuts

    left_open : (x : Reading) (k : Kind) (r : Refusal) (c : ClientOf queueing) (t : Transaction) → c.shut ≡ false
        → stays_open k c.hangs_up r ≡ true
        → fits_all protocol st.sizes.queue_room (error r ∷ []) (with_kind k c) ≡ true → Spoils x c.transaction t
        → Leaves protocol st.sizes.queue_room x k r c
        (with_error protocol.written r (with_transaction t (with_kind k c)))
    unfolding with_error with_queue with_transaction with_kind fits_all
    left_open x k r c t o stays fits left = rw o (stayed-alone t stays fits left)

    refused-by : (x : Call) (d : Decision) → Outcome protocol st x d → 100 ≤ d.reply.answer
        → RefusedAlone x d.reply.answer (after_event protocol d.event st)
    refused-by x d (turned-away _ n p q u) l = absurd (omega arith)
    refused-by x d (opening i form k h e w) l = absurd (omega arith)
    refused-by x d (consuming i bs n k y c r sp rec) l = absurd (omega arith)
    refused-by x d (refusing i bs n k y c r sp why shuts) l =
        record {
          slot = i;
          input = bs;
          fed = refl;
          reason = r;
          numbered = refl;
          client = c;
          consumed = n;
          kind-now = k;
          reading = y;
          reads = sp.cuts;
          left = _;
          leaves = left-shut y k r c shuts;
          touched = touches-alone i (refused i k r) _ (own-refused i k r) c sp.is_open sp.at;
        }
    refused-by x d (slipping i bs n k y c r t sp why stays fits left) l =
        record {
          slot = i;
          input = bs;
          fed = refl;
          reason = r;
          numbered = refl;
          client = c;
          consumed = n;
          kind-now = k;
          reading = y;
          reads = sp.cuts;
          left = _;
          leaves = left_open y k r c t sp.is_open stays fits left;
          touched = touches-alone i (slipped i k r t) _ (own-slipped i k r t) c sp.is_open sp.at;
        }
    refused-by x d (running i bs n k y c xs sp run ok) l = absurd (omega arith)
    refused-by x d (giving i len c m w e h) l = absurd (omega arith)
    refused-by x d (closing i c w) l = absurd (omega arith)

    -- A command refused with 100 to 103 queues one ERROR, shuts that client, drops its patterns and its recording, or
    -- leaves it open, and touches neither store nor other clients.
    pub refused-alone : (x : Call) → 100 ≤ (serve protocol x st).reply.answer
        → RefusedAlone x (serve protocol x st).reply.answer (serve protocol x st).next
    unfolding serve
    refused-alone x l = refused-by x _ (outcome protocol st x) l

    -- ---- which answers there are

    answered : (x : Call) (d : Decision) → Outcome protocol st x d
        → (d.reply.answer ≤ 8) ⊎ ((r : Refusal) × (d.reply.answer ≡ number r))
    answered x d (turned-away _ n p q u) = inl q
    answered x d (opening i form k h e w) = inl (omega arith)
    answered x d (consuming i bs n k y c r sp rec) = inl (omega arith)
    answered x d (refusing i bs n k y c r sp why shuts) = inr (r, refl)
    answered x d (slipping i bs n k y c r t sp why stays fits left) = inr (r, refl)
    answered x d (running i bs n k y c xs sp run ok) = inl (omega arith)
    answered x d (giving i len c m w e h) = inl (omega arith)
    answered x d (closing i c w) = inl (omega arith)

    unbroken-by : (x : Call) (d : Decision) → Outcome protocol st x d → d.reply.answer ≡ 7 → ⊥
    unbroken-by x d (turned-away _ n p q u) = u
    unbroken-by x d (opening i form k h e w) = omega arith
    unbroken-by x d (consuming i bs n k y c r sp rec) = omega arith
    unbroken-by x d (refusing i bs n k y c r sp why shuts) = λ e. absurd (omega (arith, number-large r))
    unbroken-by x d (slipping i bs n k y c r t sp why stays fits left) =
        λ e. absurd (omega (arith, number-large r))
    unbroken-by x d (running i bs n k y c xs sp run ok) = omega arith
    unbroken-by x d (giving i len c m w e h) = omega arith
    unbroken-by x d (closing i c w) = omega arith

    -- No answer is 7, which is about lent memory.
    pub unbroken : (x : Call) → (serve protocol x st).reply.answer ≡ 7 → ⊥
    unfolding serve
    unbroken x = unbroken-by x _ (outcome protocol st x)

    -- Every answer is one of 0 to 8, or the number of a refusal.
    pub answers : (x : Call)
        → ((serve protocol x st).reply.answer ≤ 8) ⊎ ((r : Refusal) × ((serve protocol x st).reply.answer ≡ number r))
    unfolding serve
    answers x = answered x _ (outcome protocol st x)

    -- ---- the numbers beside the answers

    fed-count : (valid : Bytes → Bool) → Lawful protocol valid → (i : ℕ) (bs : Bytes) (d : Decision)
        → Outcome protocol st (feeds i bs) d → d.reply.count ≤ length bs
    fed-count valid law i bs d (turned-away _ n p q u) = omega arith
    fed-count valid law i bs d (consuming _ _ n k y c r sp rec) = law.consumes c.kind k bs n y sp.cuts
    fed-count valid law i bs d (refusing _ _ n k y c r sp why shuts) = law.consumes c.kind k bs n y sp.cuts
    fed-count valid law i bs d (slipping _ _ n k y c r t sp why stays fits left) =
        law.consumes c.kind k bs n y sp.cuts
    fed-count valid law i bs d (running _ _ n k y c xs sp run ok) = law.consumes c.kind k bs n y sp.cuts

    -- No more is consumed than was fed.
    pub feed-count : (valid : Bytes → Bool) → Lawful protocol valid → (i : ℕ) (bs : Bytes)
        → (serve protocol (feeds i bs) st).reply.count ≤ length bs
    unfolding serve
    feed-count valid law i bs = fed-count valid law i bs _ (outcome protocol st (feeds i bs))

    -- a call but a take gives no bytes
    given-none : (x : Call) → Silent x → (d : Decision) → Outcome protocol st x d → d.reply.bytes ≡ []
    given-none x h d (turned-away _ n p q u) = refl
    given-none x h d (opening i form k l e w) = refl
    given-none x h d (consuming i bs n k y c r sp rec) = refl
    given-none x h d (refusing i bs n k y c r sp why shuts) = refl
    given-none x h d (slipping i bs n k y c r t sp why stays fits left) = refl
    given-none x h d (running i bs n k y c xs sp run ok) = refl
    given-none x h d (giving i len c m w e l) = absurd h
    given-none x h d (closing i c w) = refl

    -- Only a take gives bytes.
    pub silent-bytes : (x : Call) → Silent x → (serve protocol x st).reply.bytes ≡ []
    unfolding serve
    silent-bytes x h = given-none x h _ (outcome protocol st x)

    taken-count : (i len : ℕ) (d : Decision) → Outcome protocol st (takes i len) d
        → (d.reply.count ≡ length d.reply.bytes) × (d.reply.count ≤ len)
    taken-count i len d (turned-away _ n p q u) = (refl, omega arith)
    taken-count i len d (giving _ _ c m w e h) = (refl, h)

    -- A take gives as many bytes as it says, and no more than the out slice holds.
    pub take_count : (i len : ℕ)
        → ((serve protocol (takes i len) st).reply.count ≡ length (serve protocol (takes i len) st).reply.bytes)
        × ((serve protocol (takes i len) st).reply.count ≤ len)
    unfolding serve
    take_count i len = taken-count i len _ (outcome protocol st (takes i len))
