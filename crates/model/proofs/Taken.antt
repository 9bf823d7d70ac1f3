-- Demand 3, byte for byte: what a client's takes gave, then what further takes with room enough would give, is what
-- was queued to it, each message written in the client's kind. Of a client since closed, what was taken is the first
-- part.
use mathlib.Core.Path.{◌≡◌, refl, sym, ◌∙◌}
use mathlib.Core.List.{List, [], ◌∷◌, ◌++◌, append_assoc, append-nil}
use mathlib.Core.Bool.{Bool, true, false}
use mathlib.Core.Logic.{◌⊎◌, inl, inr}
use Prim.Native.Nat.{ℕ}
use native.Mathlib.Omega.{arith}
use Rattle.octets.specs.Octets.{Bytes}
use Rattle.protocol.specs.Terms.{Action, Message, error, Protocol}
use Rattle.protocol.specs.declared.Kind.{Kind}
use Rattle.protocol.specs.declared.Kind.TheVariants.{Stream}
use Rattle.model.specs.Store.{Store}
use Rattle.model.specs.State.{Sizes, in_range, Transaction, off, Client, used, State, slot_at, new_client}
use Rattle.model.specs.State.{with_kind, with_patterns, with_transaction, with_queue}
use Rattle.model.specs.Queueing.{rest}
use Rattle.model.specs.Queue.{after_take, encoded, shut_by, with_error}
use Rattle.model.specs.Queue.{with_messages}
use Rattle.model.specs.Queue.{after_step, queued_by_step}
use Rattle.model.specs.Decision.{Call}
use Rattle.model.specs.Log.{Log, log_taken, log_after_step}
use Rattle.model.specs.History.{history_of}
use Rattle.model.specs.Lawful.{Fixes, Lawful}
use Rattle.model.specs.Invariant.{Each, ClientInvariant, Invariant}
use Rattle.model.proofs.Steps.{patterns_after_all-other, owes_all-none}
use Rattle.model.proofs.Queues.{encoded-append, StepOutcome, was-shut, got-all, got-none, step-outcome}
use Rattle.model.proofs.Changes.{Change, kept, served, spoke, was-refused, stayed, ran, watched}
use Rattle.model.proofs.Invariants.{client-at, invariant-serve, invariant-empty_server}
use Rattle.model.proofs.ClientInvariants.{Calm, never-shut}
use Rattle.model.proofs.Always.{Always, Preserved, always}

append-none : (a b : List Bytes) → a ++ b ≡ [] → a ≡ []
append-none [] b e = refl
append-none (x ∷ a) b e = let z : ◌≡◌ {A = ℕ} 0 1 = cc in absurd (omega arith)

module _ (protocol : Protocol) where
  -- the messages queued to the client are, in its kind, those taken and then those waiting; none is queued before the
  -- kind is fixed
  pub record Accounted (c : Client) (l : Log) : Type 0 where
    pub queued-bytes : encoded protocol c.kind l.queued ≡ l.taken ++ c.queue
    pub none_before : c.kind ≡ Stream → l.queued ≡ []

  -- the messages that were taken are, in the client's kind, the first of those queued to it
  pub record TakenFirst (c : Client) (l : Log) : Type 0 where
    pub waiting : List Bytes
    pub queued-bytes : encoded protocol c.kind l.queued ≡ l.taken ++ waiting

  -- more messages queued
  more : (c d : Client) (l : Log) (ms : List Message) (f : Bytes → ℕ) → d.kind ≡ c.kind
      → (c.kind ≡ Stream → ms ≡ [])
      → d.queue ≡ c.queue ++ encoded protocol c.kind ms → Accounted c l
      → Accounted d (record { queued = l.queued ++ ms; taken = l.taken; added = f })
  more c d l ms f k n e a =
      record {
        queued-bytes =
            rw (k, encoded-append protocol c.kind l.queued ms, a.queued-bytes, e)
            (append_assoc l.taken c.queue (encoded protocol c.kind ms));
        none_before = λ p. let q : c.kind ≡ Stream = sym k ∙ p in rw (a.none_before q, n q);
      }

  -- a message fixes the kind
  fixing : (k : Kind) (r : Transaction) (c : Client) (l : Log) → Fixes c.kind k → Accounted c l
      → Accounted (with_transaction r (with_kind k c)) l
  unfolding with_transaction with_kind
  fixing k r c l f a = go f.keeps
    where
      go : (c.kind ≡ Stream) ⊎ (k ≡ c.kind) → Accounted (with_transaction r (with_kind k c)) l
      go (inl e) =
          let q : l.queued ≡ [] = a.none_before e in
          record { queued-bytes = rw q (rw q at a.queued-bytes); none_before = λ p. q }
      go (inr e) = record { queued-bytes = rw e a.queued-bytes; none_before = λ p. absurd (f.fixed p) }

  step-accounted : (Q : ℕ) (mine : Bool) (xs : List Action) (s : Store) (c : Client) (l : Log)
      → (c.kind ≡ Stream → queued_by_step protocol Q mine xs s c ≡ []) → Accounted c l
      → Accounted (after_step protocol Q mine xs s c) (log_after_step protocol Q mine xs s c l)
  unfolding log_after_step with_messages with_patterns with_queue shut_by
  step-accounted Q mine xs s c l n a = go n (step-outcome protocol Q mine xs s c)
    where
      go : {d : Client} {ms : List Message} → (c.kind ≡ Stream → ms ≡ []) → StepOutcome protocol Q mine xs s c d ms
          → Accounted d (record {
            queued = l.queued ++ ms;
            taken = l.taken;
            added = (log_after_step protocol Q mine xs
                s c l).added;
          })
      go h (was-shut o) = more c c l [] _ refl h (sym (append-nil c.queue)) a
      go h (got-all o f) = more c _ l _ _ refl h refl a
      go h (got-none o f) = more c _ l _ _ refl h refl a

  take-accounted : (c : Client) (l : Log) (m : Bytes) (ms : List Bytes) → c.queue ≡ m ∷ ms → Accounted c l
      → Accounted (after_take c) (log_taken m l)
  unfolding after_take with_queue rest
  take-accounted c l m ms q a =
      record {
        queued-bytes = rw (q, append_assoc l.taken (m ∷ []) ms) (rw q at a.queued-bytes);
        none_before = a.none_before;
      }

  module _ (valid : Bytes → Bool) (law : Lawful protocol valid) where
    -- a step of another queues nothing to a client whose kind is not fixed
    quiet : (z : Sizes) (xs : List Action) (s : Store) (c : Client) → ClientInvariant protocol valid z c
        → c.kind ≡ Stream
        → queued_by_step protocol z.queue_room false xs s c ≡ []
    quiet z xs s c g p = go (step-outcome protocol z.queue_room false xs s c)
      where
        none-held : c.patterns ≡ []
        none-held = (g.stream-empty p).1

        calm : Calm protocol valid law z false xs s c g
        calm q = (rw none-held (owes_all-none protocol xs s), rw none-held (patterns_after_all-other xs []))

        go : {d : Client} {ms : List Message} → StepOutcome protocol z.queue_room false xs s c d ms → ms ≡ []
        go (was-shut o) = refl
        go (got-all o f) = rw none-held (owes_all-none protocol xs s)
        go (got-none o f) = absurd (never-shut protocol valid law z false xs s c g calm o f p)

    accounted-next : (st : State) → Invariant protocol valid st → (j : ℕ) (c : Client) (l : Log)
        → slot_at j st ≡ used c
        → Accounted c l → {x : Call} {s : Store} {d : Client} {m : Log} → Change protocol st c l x s d m
        → Accounted d m
    unfolding with_transaction with_kind shut_by with_error with_queue
    accounted-next st inv j c l w a (kept y) = a
    accounted-next st inv j c l w a (served i len m ms v q) = take-accounted c l m ms q a
    accounted-next st inv j c l w a (spoke i bs n k x r sp rec) =
        fixing k r c l (law.fixes c.kind k bs n x sp.cuts) a
    accounted-next st inv j c l w a (was-refused i bs n k x r sp why) =
        let f = law.fixes c.kind k bs n x sp.cuts in
        more (with_transaction off (with_kind k c)) (shut_by protocol.written r (with_transaction off (with_kind k c))) l (error r ∷ []) l.added
        refl (λ p. absurd (f.fixed p)) refl (fixing k off c l f a)
    accounted-next st inv j c l w a (stayed i bs n k x r t sp why stays fits left) =
        let f = law.fixes c.kind k bs n x sp.cuts in
        more (with_transaction t (with_kind k c)) (with_error protocol.written r (with_transaction t (with_kind k c))) l
        (error r ∷ []) l.added refl (λ p. absurd (f.fixed p)) refl (fixing k t c l f a)
    accounted-next st inv j c l w a (ran i bs n k x xs sp run ok) =
        let f = law.fixes c.kind k bs n x sp.cuts in
        step-accounted st.sizes.queue_room true xs st.store (with_transaction off (with_kind k c)) l
        (λ p. absurd (f.fixed p)) (fixing k off c l f a)
    accounted-next st inv j c l w a (watched i bs n k x feeder xs sp run ok) =
        step-accounted st.sizes.queue_room false xs st.store c l
        (quiet st.sizes xs st.store c (client-at protocol valid law st inv j c w)) a

    abbrev Accounts : Store → Client → Log → Type 0
    Accounts s c l = Accounted c l

    accounts-kept : Preserved protocol (Invariant protocol valid) Accounts TakenFirst
    unfolding new_client
    accounts-kept =
        record {
          state-next = λ st x inv. invariant-serve protocol valid law st inv x;
          client-new = λ s k. record { queued-bytes = refl; none_before = λ p. refl };
          client-next = accounted-next;
          client-closed = λ s c l a. record { waiting = c.queue; queued-bytes = a.queued-bytes };
        }

    module _ (z : Sizes) (h : in_range z ≡ true) (xs : List Call) where
      accounts : Always protocol Accounts TakenFirst (history_of protocol z xs)
      accounts =
          always protocol (Invariant protocol valid) Accounts TakenFirst accounts-kept z xs
          (invariant-empty_server protocol valid law z h)

      -- The messages ever queued to a client, written in its kind, are those that its takes gave and then those
      -- waiting.
      pub queued-is-taken-then-waiting : (j : ℕ) (c : Client) → slot_at j (history_of protocol z xs).state ≡ used c
          → encoded protocol c.kind ((history_of protocol z xs).logs j).queued
          ≡ ((history_of protocol z xs).logs j).taken ++ c.queue
      queued-is-taken-then-waiting j c w = (accounts.now j c w).queued-bytes

      -- Of a client since closed, those taken are the first ones queued.
      pub closed-taken-first : Each (λ p. TakenFirst p.client p.log) (history_of protocol z xs).past
      closed-taken-first = accounts.since-closed
