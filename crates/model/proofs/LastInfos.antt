-- Demand 3's long sentence: for every open client, each pattern that it holds and each key that this matches, the
-- last INFO for the key queued since the pattern was last added carries the key's present value.
use mathlib.Core.Path.{◌≡◌, sym, ◌∙◌}
use mathlib.Core.List.{List, ◌++◌}
use mathlib.Core.Bool.{Bool, true, false}
use Prim.Native.Nat.{ℕ}
use lib.ListN.{drop}
use Rattle.octets.specs.Octets.{Bytes}
use Rattle.protocol.specs.Terms.{Action, Message, Protocol}
use Rattle.model.specs.Store.{Store, lookup}
use Rattle.model.specs.Patterns.{held}
use Rattle.model.specs.Step.{store_after_all}
use Rattle.model.specs.State.{Sizes, off, Client, used, State, empty_state, slot_at, new_client}
use Rattle.model.specs.State.{with_kind, with_patterns, with_transaction, with_queue}
use Rattle.model.specs.Queue.{after_take, shut_by, with_error, with_messages, after_step}
use Rattle.model.specs.Events.{store_after_event, after_event}
use Rattle.model.specs.Decision.{Call, Decision}
use Rattle.model.specs.Calls.{decide, serve}
use Rattle.model.specs.Log.{Log, log_after_step}
use Rattle.model.specs.History.{history_of}
use Rattle.model.specs.LastInfo.{last_info, UpToDate}
use Rattle.model.specs.Invariant.{Ascending}
use Rattle.model.proofs.Tests.{never}
use Rattle.model.proofs.Steps.{ascending-store_after_all}
use Rattle.model.proofs.Queues.{StepOutcome, was-shut, got-all, got-none, step-outcome}
use Rattle.model.proofs.Outcomes.{Outcome, turned-away, opening, consuming, refusing, slipping, running, giving}
use Rattle.model.proofs.Outcomes.{closing, outcome}
use Rattle.model.proofs.Changes.{Change, kept, served, spoke, was-refused, stayed, ran, watched}
use Rattle.model.proofs.Always.{Always, Preserved, always}
use Rattle.model.proofs.Informing.{up-to-date, Informed, after-error, turns}

module _ (protocol : Protocol) where
  -- an open client is informed
  abbrev Knows : Store → Client → Log → Type 0
  Knows s c l = c.shut ≡ false → Informed protocol s c.patterns l.queued l.added

  step-knows : (Q : ℕ) (mine : Bool) (xs : List Action) (s : Store) (c : Client) (l : Log) → Ascending s → Knows s c l
      → Knows (store_after_all xs s) (after_step protocol Q mine xs s c) (log_after_step protocol Q mine xs s c l)
  unfolding log_after_step with_messages with_patterns with_queue shut_by
  step-knows Q mine xs s c l a h = go (step-outcome protocol Q mine xs s c)
    where
      go : {d : Client} {ms : List Message} → StepOutcome protocol Q mine xs s c d ms
          → Knows (store_after_all xs s) d
          (record {
            queued = l.queued ++ ms;
            taken = l.taken;
            added = (log_after_step protocol Q mine xs s c l).added;
          })
      go (was-shut o) p = never (sym o ∙ p)
      go (got-all o f) p = turns protocol mine xs s c.patterns l.queued l.added a (h o)
      go (got-none o f) p = never p

  knows-next : (st : State) → Ascending st.store → (c : Client) (l : Log) → Knows st.store c l
      → {x : Call} {s : Store} {d : Client} {m : Log} → Change protocol st c l x s d m → Knows s d m
  unfolding with_transaction with_kind shut_by with_error after_take with_queue
  knows-next st a c l h (kept y) = h
  knows-next st a c l h (served i len m ms v q) = h
  knows-next st a c l h (spoke i bs n k x r sp rec) = h
  knows-next st a c l h (was-refused i bs n k x r sp why) = λ p. never p
  knows-next st a c l h (stayed i bs n k x r t sp why stays fits left) =
      λ p. after-error protocol st.store c.patterns l.queued l.added (h p) r
  knows-next st a c l h (ran i bs n k x xs sp run ok) =
      step-knows st.sizes.queue_room true xs st.store (with_transaction off (with_kind k c)) l a h
  knows-next st a c l h (watched i bs n k x feeder xs sp run ok) =
      step-knows st.sizes.queue_room false xs st.store c l a h

  abbrev InOrder : State → Type 0
  InOrder st = Ascending st.store

  order-after : (st : State) → InOrder st → (x : Call) (d : Decision) → Outcome protocol st x d
      → Ascending (store_after_event d.event st.store)
  unfolding store_after_event
  order-after st a x d (turned-away _ n p q u) = a
  order-after st a x d (opening i form k h e w) = a
  order-after st a x d (consuming i bs n k y c r sp rec) = a
  order-after st a x d (refusing i bs n k y c r sp why shuts) = a
  order-after st a x d (slipping i bs n k y c r t sp why stays fits left) = a
  order-after st a x d (running i bs n k y c xs sp run ok) = ascending-store_after_all xs st.store a
  order-after st a x d (giving i len c m w q h) = a
  order-after st a x d (closing i c w) = a

  order-next : (st : State) (x : Call) → InOrder st → InOrder (serve protocol x st).next
  unfolding serve after_event
  order-next st x a = order-after st a x (decide protocol x st) (outcome protocol st x)

  abbrev Nothing : Client → Log → Type 0
  Nothing c l = Unit {0}

  knows-kept : Preserved protocol InOrder Knows Nothing
  unfolding new_client held
  knows-kept =
      record {
        state-next = order-next;
        client-new = λ s k o. record { within = λ p h. never (sym h); last = λ p x h m. never (sym h) };
        client-next = λ st a j c l w h. knows-next st a c l h;
        client-closed = λ s c l h. tt;
      }

  knowing : (z : Sizes) (xs : List Call) → Always protocol Knows Nothing (history_of protocol z xs)
  unfolding empty_state Ascending
  knowing z xs = always protocol InOrder Knows Nothing knows-kept z xs tt

  -- Demand 3: of the INFO messages for a key queued to an open client from the SUB that last added a pattern which
  -- matches the key, within a commit from that SUB's own turn on, the last carries the key's present value, or none
  -- if it is absent; without any the key is absent.
  pub last-info : (z : Sizes) (xs : List Call) (j : ℕ) (c : Client)
      → slot_at j (history_of protocol z xs).state ≡ used c
      → c.shut ≡ false → (p : Bytes) → held p c.patterns ≡ true → (k : Bytes) → protocol.matches p k ≡ true
      → UpToDate (last_info k (drop (((history_of protocol z xs).logs j).added p)
      ((history_of protocol z xs).logs j).queued))
      (lookup k (history_of protocol z xs).state.store)
  last-info z xs j c w o p h k m = up-to-date k _ _ (((knowing z xs).now j c w o).last p k h m)
