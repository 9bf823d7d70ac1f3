-- Every state that a list of calls reaches from a set up answered 0 keeps to the limits.
use mathlib.Core.Path.{◌≡◌, ◌∙◌}
use mathlib.Core.List.{List, [], ◌∷◌}
use mathlib.Core.Bool.{Bool, true, false}
use Prim.Native.Nat.{ℕ, ◌≤◌}
use native.Mathlib.Omega.{arith}
use lib.Dec.{leb-zero}
use lib.ListN.{length-replicate}
use borrow.Author.Tests.{leb-true}
use Rattle.octets.specs.Octets.{Bytes}
use Rattle.protocol.specs.Terms.{Reading, Protocol}
use Rattle.protocol.specs.declared.Kind.{Kind}
use Rattle.model.specs.Store.{Store, store_charge, store_fits}
use Rattle.model.specs.State.{Sizes, in_range, within, off, Client, free, used, State, slot_at}
use Rattle.model.specs.State.{with_kind, with_transaction}
use Rattle.model.specs.Queue.{fits_all}
use Rattle.model.specs.State.{empty_server, empty_state}
use Rattle.model.specs.Events.{store_after_event, after_event}
use Rattle.model.specs.Decision.{Call, Decision}
use Rattle.model.specs.Calls.{decide, serve, after_calls}
use Rattle.model.specs.Log.{Log, new_log}
use Rattle.model.specs.Lawful.{Fixes, Lawful}
use Rattle.model.specs.Invariant.{Ascending, ClientInvariant, SlotInvariant, Invariant, Reachable}
use Rattle.model.proofs.Tests.{and_left, and_right}
use Rattle.model.proofs.Slots.{length-each_slot, slot_at-empty}
use Rattle.model.proofs.Steps.{patterns_after_all-other, owes_all-none}
use Rattle.model.proofs.Limits.{StoreLimits, limits-store_after_all, PatternLimits, limits-patterns_after_all}
use Rattle.model.proofs.Outcomes.{Speaks}
use Rattle.model.proofs.Outcomes.{Outcome, turned-away, opening, consuming, refusing, slipping, running, giving}
use Rattle.model.proofs.Outcomes.{closing, outcome}
use Rattle.model.proofs.Changes.{Change, kept, served, spoke, was-refused, stayed, ran, watched}
use Rattle.model.proofs.Changes.{SlotChange, vacant, closed-now, opened-now, changed, slot-change}
use Rattle.model.proofs.ClientInvariants.{ValidReading, runs-valid, records-valid, spoils-valid}
use Rattle.model.proofs.ClientInvariants.{invariant-new_client, invariant-with_error}
use Rattle.model.proofs.ClientInvariants.{invariant-after_take}
use Rattle.model.proofs.ClientInvariants.{invariant-with_transaction, invariant-feeder, invariant-shut_by}
use Rattle.model.proofs.ClientInvariants.{invariant-after_step}

module _ (protocol : Protocol) (valid : Bytes → Bool) (law : Lawful protocol valid) where
  module _ (st : State) (inv : Invariant protocol valid st) where
    abbrev Good : Client → Type 0
    Good c = ClientInvariant protocol valid st.sizes c

    -- 64 are kept back of at least 1,024
    queue-large : 64 ≤ st.sizes.queue_room
    unfolding in_range
    queue-large =
        let z : Sizes = st.sizes in
        let a = and_right (within 1 32 z.slot_count) _ inv.sizes-in-range in
        let b = and_right (within 256 1048576 z.store_room) _ a in
        let d = and_left (within 1024 1048576 z.queue_room) _ b in
        let e = leb-true 1024 z.queue_room (and_left _ _ d) in
        omega arith

    pub client-at : (j : ℕ) (c : Client) → slot_at j st ≡ used c → Good c
    client-at j c w = rw w at (inv.clients j)

    limits-at : (c : Client) → Good c → PatternLimits valid c.patterns
    limits-at c g = record { few = g.few; distinct = g.distinct; valid-patterns = g.patterns-valid }

    fixes-at : (i : ℕ) (bs : Bytes) (n : ℕ) (k : Kind) (x : Reading) (c : Client) → Speaks protocol st i bs n k x c
        → Fixes c.kind k
    fixes-at i bs n k x c sp = law.fixes c.kind k bs n x sp.cuts

    reading-at : (i : ℕ) (bs : Bytes) (n : ℕ) (k : Kind) (x : Reading) (c : Client) → Speaks protocol st i bs n k x c
        → ValidReading protocol valid x
    reading-at i bs n k x c sp a e = law.reads c.kind k bs n a (rw e at sp.cuts)

    -- ---- clients

    client-after : (c : Client) (l : Log) → Good c → {x : Call} {s : Store} {d : Client} {m : Log}
        → Change protocol st c l x s d m → Good d
    unfolding with_transaction with_kind fits_all
    client-after c l g (kept y) = g
    client-after c l g (served i len m ms v q) = invariant-after_take protocol valid law st.sizes c g
    client-after c l g (spoke i bs n k x r sp rec) =
        invariant-with_transaction protocol valid law st.sizes k r c g sp.is_open (fixes-at i bs n k x c sp)
        (records-valid protocol valid st.sizes.record_room x c.transaction r rec (reading-at i bs n k x c sp)
        g.recording-valid)
    client-after c l g (was-refused i bs n k x r sp why) =
        let f = fixes-at i bs n k x c sp in
        invariant-shut_by protocol valid law st.sizes r (with_transaction off (with_kind k c))
        (invariant-feeder protocol valid law st.sizes k c g sp.is_open f) sp.is_open f.fixed
    client-after c l g (stayed i bs n k x r t sp why stays fits left) =
        let f = fixes-at i bs n k x c sp in
        invariant-with_error protocol valid law st.sizes r (with_transaction t (with_kind k c))
        (invariant-with_transaction protocol valid law st.sizes k t c g sp.is_open f
        (spoils-valid protocol valid st.sizes.record_room x c.transaction t left))
        sp.is_open f.fixed fits
    client-after c l g (ran i bs n k x xs sp run ok) =
        let f = fixes-at i bs n k x c sp in
        let v = runs-valid protocol valid st.sizes.record_room x c.transaction xs run
        (reading-at i bs n k x c sp) g.recording-valid in
        invariant-after_step protocol valid law st.sizes true xs st.store (with_transaction off (with_kind k c))
        (invariant-feeder protocol valid law st.sizes k c g sp.is_open f)
        (λ p. absurd (f.fixed p))
        (limits-patterns_after_all valid st.sizes.store_room xs st.store c.patterns v (limits-at c g) ok)
    client-after c l g (watched i bs n k x feeder xs sp run ok) =
        invariant-after_step protocol valid law st.sizes false xs st.store c g
        (λ p. let e : c.patterns ≡ [] = (g.stream-empty p).1 in
        (rw e (owes_all-none protocol xs st.store), rw e (patterns_after_all-other xs [])))
        (rw (patterns_after_all-other xs c.patterns) (limits-at c g))

    slot-after-call : (x : Call) (j : ℕ) → SlotChange protocol st (λ i. new_log) j x (decide protocol x st)
        → SlotInvariant protocol valid st.sizes (slot_at j (serve protocol x st).next)
    unfolding serve
    slot-after-call x j (vacant w e) = rw e tt
    slot-after-call x j (closed-now c w e v) = rw e tt
    slot-after-call x j (opened-now k w e l) = rw e (invariant-new_client protocol valid law st.sizes k queue-large)
    slot-after-call x j (changed c d w e h) = rw e (client-after c new_log (client-at j c w) h)

    -- ---- the store

    limits-now : StoreLimits st.sizes.store_room st.store
    limits-now = record { ascends = inv.keys-ascend; fits = inv.store-fits; valid-entries = inv.entries-valid }

    store-after : (x : Call) (d : Decision) → Outcome protocol st x d
        → StoreLimits st.sizes.store_room (store_after_event d.event st.store)
    unfolding store_after_event
    store-after x d (turned-away _ n p q u) = limits-now
    store-after x d (opening i form k h e w) = limits-now
    store-after x d (consuming i bs n k y c r sp rec) = limits-now
    store-after x d (refusing i bs n k y c r sp why shuts) = limits-now
    store-after x d (slipping i bs n k y c r t sp why stays fits left) = limits-now
    store-after x d (running i bs n k y c xs sp run ok) =
        let g = client-at i c sp.at in
        let v = runs-valid protocol valid st.sizes.record_room y c.transaction xs run
        (reading-at i bs n k y c sp) g.recording-valid in
        limits-store_after_all valid st.sizes.store_room xs st.store c.patterns v limits-now ok
    store-after x d (giving i len c m w q h) = limits-now
    store-after x d (closing i c w) = limits-now

    -- ---- the state

    pub invariant-serve : (x : Call) → Invariant protocol valid (serve protocol x st).next
    unfolding serve after_event
    invariant-serve x =
        let s = store-after x (decide protocol x st) (outcome protocol st x) in
        record {
          sizes-in-range = inv.sizes-in-range;
          slots-counted = length-each_slot _ 0 st.slots ∙ inv.slots-counted;
          keys-ascend = s.ascends;
          store-fits = s.fits;
          entries-valid = s.valid-entries;
          clients = λ j. slot-after-call x j (slot-change protocol st (λ i. new_log) j x);
        }

  pub invariant-after_calls : (xs : List Call) (st : State) → Invariant protocol valid st
      → Invariant protocol valid (after_calls protocol xs st)
  unfolding after_calls
  invariant-after_calls [] st inv = inv
  invariant-after_calls (x ∷ xs) st inv =
      invariant-after_calls xs (serve protocol x st).next (invariant-serve st inv x)

  pub invariant-empty_server : (z : Sizes) → in_range z ≡ true → Invariant protocol valid (empty_server z)
  unfolding empty_state Ascending store_fits store_charge
  invariant-empty_server z h =
      record {
        sizes-in-range = h;
        slots-counted = length-replicate z.slot_count free;
        keys-ascend = tt;
        store-fits = rw (leb-zero z.store_room);
        entries-valid = tt;
        clients = λ j. rw (slot_at-empty z j) tt;
      }

  -- Every state that a list of calls reaches from a set up answered 0 keeps to the limits.
  pub invariant-reachable : (st : State) → Reachable protocol st → Invariant protocol valid st
  invariant-reachable st r =
      rw r.reaches at (invariant-after_calls r.calls (empty_server r.sizes-used)
      (invariant-empty_server r.sizes-used r.in-range))
