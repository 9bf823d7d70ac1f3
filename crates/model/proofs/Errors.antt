-- A shut client's messages end with an ERROR. Of a client that no slip leaves open that is its only one: none is queued
-- while the client is open.
use mathlib.Core.Path.{◌≡◌, refl, sym, ◌∙◌}
use mathlib.Core.List.{List, [], ◌∷◌, ◌++◌, append-nil}
use mathlib.Core.Bool.{Bool, true, false, ◌&&◌}
use mathlib.Core.Logic.{◌⊎◌, inl, inr}
use Prim.Native.Nat.{ℕ}
use Rattle.octets.specs.Octets.{Bytes}
use Rattle.protocol.specs.Terms.{Action, hello, sub, unsub, read, write, ping, Message, version, info, pong, error}
use Rattle.protocol.specs.Terms.{Protocol}
use Rattle.protocol.specs.declared.Kind.{Kind}
use Rattle.protocol.specs.declared.Kind.TheVariants.{Stream}
use Rattle.protocol.specs.declared.Refusal.{Refusal}
use Rattle.protocol.specs.declared.Refusal.TheVariants.{Room}
use Rattle.model.specs.Store.{Store, changes}
use Rattle.model.specs.Patterns.{Patterns}
use Rattle.model.specs.Step.{store_after, patterns_after, subscribed, infos, replies, notices, owes, owes_all}
use Rattle.model.specs.State.{Sizes, Transaction, off, Client, used, State, slot_at, new_client}
use Rattle.model.specs.State.{with_kind, with_patterns, with_transaction, with_queue}
use Rattle.model.specs.Queue.{after_take, shut_by, with_error, with_messages, after_step}
use Rattle.model.specs.Decision.{Call}
use Rattle.model.specs.Feed.{is_slip, forgives, stays_open}
use Rattle.model.specs.Log.{Log, log_queued, log_after_step}
use Rattle.model.specs.History.{history_of}
use Rattle.model.specs.Lawful.{Fixes, Lawful}
use Rattle.model.specs.Invariant.{Each}
use Rattle.model.proofs.Tests.{by-test, never, and_left}
use Rattle.model.proofs.Subscriptions.{each_append}
use Rattle.model.proofs.Queues.{StepOutcome, was-shut, got-all, got-none, step-outcome}
use Rattle.model.proofs.Changes.{Change, kept, served, spoke, was-refused, stayed, ran, watched}
use Rattle.model.proofs.Always.{Always, Preserved, always}

-- a message that is no ERROR
abbrev pub NotError : Message → Type 0
NotError version = Unit {0}
NotError (info k v) = Unit {0}
NotError (pong i) = Unit {0}
NotError (error r) = ⊥

abbrev pub NoError : List Message → Type 0
NoError ms = Each NotError ms

module _ (protocol : Protocol) where
  no-error-infos : (p : Bytes) (s : Store) → NoError (infos protocol p s)
  unfolding infos
  no-error-infos p [] = tt
  no-error-infos p (e ∷ s) =
      by-test NoError (protocol.matches p e.key) (λ m. (tt, no-error-infos p s)) (λ m. no-error-infos p s)

  no-error-replies : (a : Action) (s : Store) → NoError (replies protocol a s)
  unfolding replies
  no-error-replies (hello t) s = (tt, tt)
  no-error-replies (sub p) s = no-error-infos p s
  no-error-replies (unsub p) s = tt
  no-error-replies (read k) s = (tt, tt)
  no-error-replies (write k v) s = tt
  no-error-replies (ping i) s = (tt, tt)

  no-error-notices : (a : Action) (s : Store) (ps : Patterns) → NoError (notices protocol a s ps)
  unfolding notices
  no-error-notices (hello t) s ps = tt
  no-error-notices (sub p) s ps = tt
  no-error-notices (unsub p) s ps = tt
  no-error-notices (read k) s ps = tt
  no-error-notices (write k v) s ps =
      by-test NoError (changes k v s && subscribed protocol ps k) (λ e. (tt, tt)) (λ e. tt)
  no-error-notices (ping i) s ps = tt

  no-error-owes : (mine : Bool) (a : Action) (s : Store) (ps : Patterns) → NoError (owes protocol mine a s ps)
  unfolding owes
  no-error-owes true a s ps =
      each_append NotError (replies protocol a s) _ (no-error-replies a s) (no-error-notices a s ps)
  no-error-owes false a s ps = no-error-notices a s ps

  -- A step owes no ERROR.
  pub no-error-owes_all : (mine : Bool) (xs : List Action) (s : Store) (ps : Patterns)
      → NoError (owes_all protocol mine xs s ps)
  unfolding owes_all
  no-error-owes_all mine [] s ps = tt
  no-error-owes_all mine (a ∷ xs) s ps =
      each_append NotError (owes protocol mine a s ps) _ (no-error-owes mine a s ps)
      (no-error-owes_all mine xs (store_after a s) (patterns_after mine a ps))

  -- a client that every refusal shuts: a binary one, or one of form 2
  abbrev pub Strict : Client → Type 0
  Strict c = forgives c.kind c.hangs_up ≡ false

  -- some messages, and then an ERROR, which is the only one of a strict client
  pub record EndsWithError (c : Client) (queued : List Message) : Type 0 where
    pub front : List Message
    pub refusal : Refusal
    pub ends : queued ≡ front ++ (error refusal ∷ [])
    pub none-in-front : Strict c → NoError front

  -- of all messages queued to a client: none is an ERROR while a strict one is open, and the last where it is shut
  pub record OneError (c : Client) (l : Log) : Type 0 where
    pub while-open : c.shut ≡ false → Strict c → NoError l.queued
    pub once-shut : c.shut ≡ true → EndsWithError c l.queued

  -- a client that is shut
  shut-now : (d : Client) (r : Refusal) (l : Log) (f : Bytes → ℕ) → d.shut ≡ true → (Strict d → NoError l.queued)
      → OneError d (record { queued = l.queued ++ (error r ∷ []); taken = l.taken; added = f })
  shut-now d r l f o h =
      record {
        while-open = λ p. never (sym o ∙ p);
        once-shut = λ p. record { front = l.queued; refusal = r; ends = refl; none-in-front = h };
      }

  step-error : (Q : ℕ) (mine : Bool) (xs : List Action) (s : Store) (c : Client) (l : Log) → OneError c l
      → OneError (after_step protocol Q mine xs s c) (log_after_step protocol Q mine xs s c l)
  unfolding log_after_step with_messages with_patterns with_queue shut_by
  step-error Q mine xs s c l h = go (step-outcome protocol Q mine xs s c)
    where
      go : {d : Client} {ms : List Message} → StepOutcome protocol Q mine xs s c d ms
          → OneError d (record {
            queued = l.queued ++ ms;
            taken = l.taken;
            added = (log_after_step protocol Q mine xs
                s c l).added;
          })
      go (was-shut o) =
          rw append-nil (record { while-open = h.while-open; once-shut = h.once-shut })
      go (got-all o f) =
          record {
            while-open =
                λ p q.
                each_append NotError l.queued _ (h.while-open o q) (no-error-owes_all mine xs s c.patterns);
            once-shut = λ p. never (sym p ∙ o);
          }
      go (got-none o f) = shut-now (shut_by protocol.written Room c) Room l _ refl (h.while-open o)

  module _ (valid : Bytes → Bool) (law : Lawful protocol valid) where
    -- a client that is strict once a message has fixed its kind was so before
    strict-before : (old new : Kind) (hangs_up : Bool) → Fixes old new → forgives new hangs_up ≡ false
        → forgives old hangs_up ≡ false
    strict-before old new hangs_up f h = go f.keeps
      where
        go : (old ≡ Stream) ⊎ (new ≡ old) → forgives old hangs_up ≡ false
        go (inl e) = rw e
        go (inr e) = rw (← e) h

    -- the client once a message has fixed its kind
    error-fixed : (k : Kind) (t : Transaction) (c : Client) (l : Log) → c.shut ≡ false → Fixes c.kind k
        → OneError c l → OneError (with_transaction t (with_kind k c)) l
    unfolding with_transaction with_kind
    error-fixed k t c l o f h =
        record {
          while-open = λ p q. h.while-open p (strict-before c.kind k c.hangs_up f q);
          once-shut = λ p. never (sym p ∙ o);
        }

    -- a slip of a client, which is not strict
    error-slip : (k : Kind) (r : Refusal) (t : Transaction) (c : Client) (l : Log) → c.shut ≡ false
        → stays_open k c.hangs_up r ≡ true
        → OneError (with_error protocol.written r (with_transaction t (with_kind k c)))
        (log_queued (error r ∷ []) l)
    unfolding with_error with_queue with_transaction with_kind
    error-slip k r t c l o stays =
        record {
          while-open = λ p q. never (sym (and_left (forgives k c.hangs_up) (is_slip r) stays) ∙ q);
          once-shut = λ p. never (sym p ∙ o);
        }

    error-next : (st : State) (j : ℕ) (c : Client) (l : Log) → OneError c l
        → {x : Call} {s : Store} {d : Client} {m : Log} → Change protocol st c l x s d m → OneError d m
    unfolding after_take with_queue with_transaction with_kind shut_by
    error-next st j c l h (kept y) = h
    error-next st j c l h (served i len m ms v q) =
        record {
          while-open = h.while-open;
          once-shut = λ p. let e = h.once-shut p in
              record { front = e.front; refusal = e.refusal; ends = e.ends; none-in-front = e.none-in-front };
        }
    error-next st j c l h (spoke i bs n k x r sp rec) =
        error-fixed k r c l sp.is_open (law.fixes c.kind k bs n x sp.cuts) h
    error-next st j c l h (was-refused i bs n k x r sp why) =
        let g = error-fixed k off c l sp.is_open (law.fixes c.kind k bs n x sp.cuts) h in
        shut-now (shut_by protocol.written r (with_transaction off (with_kind k c))) r l l.added refl
        (g.while-open sp.is_open)
    error-next st j c l h (stayed i bs n k x r t sp why stays fits left) = error-slip k r t c l sp.is_open stays
    error-next st j c l h (ran i bs n k x xs sp run ok) =
        step-error st.sizes.queue_room true xs st.store (with_transaction off (with_kind k c)) l
        (error-fixed k off c l sp.is_open (law.fixes c.kind k bs n x sp.cuts) h)
    error-next st j c l h (watched i bs n k x feeder xs sp run ok) =
        step-error st.sizes.queue_room false xs st.store c l h

    abbrev Errors : Store → Client → Log → Type 0
    Errors s c l = OneError c l

    abbrev AnyState : State → Type 0
    AnyState st = Unit {0}

    errors-kept : Preserved protocol AnyState Errors OneError
    unfolding new_client
    errors-kept =
        record {
          state-next = λ st x g. tt;
          client-new = λ s k. record { while-open = λ p q. tt; once-shut = λ p. never (sym p) };
          client-next = λ st g j c l w h. error-next st j c l h;
          client-closed = λ s c l h. h;
        }

    module _ (z : Sizes) (xs : List Call) where
      errors : Always protocol Errors OneError (history_of protocol z xs)
      errors = always protocol AnyState Errors OneError errors-kept z xs tt

      -- A shut client's messages end with an ERROR, the only one of a strict client.
      pub one-error : (j : ℕ) (c : Client) → slot_at j (history_of protocol z xs).state ≡ used c
          → OneError c ((history_of protocol z xs).logs j)
      one-error j c w = errors.now j c w

      pub one-error-closed : Each (λ p. OneError p.client p.log) (history_of protocol z xs).past
      one-error-closed = errors.since-closed
