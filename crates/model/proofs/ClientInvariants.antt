-- What each change leaves of the rules on a client.
use mathlib.Core.Path.{◌≡◌, refl, sym, ap, ◌∙◌}
use mathlib.Core.List.{List, [], ◌∷◌, ◌++◌, append-nil}
use mathlib.Core.Bool.{Bool, true, false}
use mathlib.Core.Logic.{◌⊎◌, inl, inr}
use Prim.Native.Nat.{ℕ, ◌+◌, ◌≤◌}
use native.Mathlib.Omega.{arith}
use lib.Dec.{leb-zero}
use borrow.Author.Tests.{leb-true, le-leb}
use Rattle.octets.specs.Octets.{Bytes}
use Rattle.protocol.specs.Terms.{Action, plain, Message, error, Reading, command, Protocol}
use Rattle.protocol.specs.declared.Kind.{Kind}
use Rattle.protocol.specs.declared.Kind.TheVariants.{Stream}
use Rattle.protocol.specs.declared.Refusal.{Refusal}
use Rattle.protocol.specs.declared.Refusal.TheVariants.{Room}
use Rattle.model.specs.Store.{Store}
use Rattle.model.specs.Step.{patterns_after_all, owes_all}
use Rattle.model.specs.State.{Sizes, Opening, Transaction, off, begun, spoiled, after_slip, Client, new_client}
use Rattle.model.specs.State.{recording_charge, recording_fits}
use Rattle.model.specs.State.{with_kind, with_patterns, with_transaction, with_queue}
use Rattle.model.specs.Queueing.{queue_charge, rest}
use Rattle.model.specs.Queue.{queue_fits, after_take, encoded, shut_by, with_error}
use Rattle.model.specs.Queue.{with_messages}
use Rattle.model.specs.Queue.{fits_all, after_step}
use Rattle.model.specs.Lawful.{Fixes, ValidAction, Lawful}
use Rattle.model.specs.Invariant.{Each, Distinct, ValidRecording, ClientInvariant}
use Rattle.model.proofs.Tests.{never}
use Rattle.model.proofs.Transactions.{off-not-begun, spoiled-not-begun}
use Rattle.model.proofs.Subscriptions.{each_append}
use Rattle.model.proofs.Queues.{queue_charge-append, encoded-append, owed, StepOutcome, was-shut, got-all}
use Rattle.model.proofs.Queues.{got-none, step-outcome}
use Rattle.model.proofs.Limits.{PatternLimits}
use Rattle.model.proofs.Outcomes.{Runs, at_once, committed}
use Rattle.model.proofs.Outcomes.{Records, blank-line, beginning, nothing-to-commit, recorded, does-nothing}
use Rattle.model.specs.Refusals.{Spoils, by-invalid, by-begin, by-commit}

module _ (protocol : Protocol) (valid : Bytes → Bool) where
  -- ---- recordings

  -- what a message that reads so says is valid
  abbrev pub ValidReading : Reading → Type 0
  ValidReading x = (a : Action) → x ≡ command (plain a) → ValidAction valid a

  abbrev pub ValidRecordings : ℕ → Transaction → Type 0
  ValidRecordings R r = (xs : List Action) → r ≡ begun xs → ValidRecording protocol valid R xs

  pub runs-valid : (R : ℕ) (x : Reading) (r : Transaction) (xs : List Action) → Runs x r xs → ValidReading x
      → ValidRecordings R r → Each (ValidAction valid) xs
  runs-valid R x r xs (at_once a) h g = (h a refl, tt)
  runs-valid R x r xs (committed _) h g = (g xs refl).actions

  none-recorded : (R : ℕ) → ValidRecordings R off
  none-recorded R xs e = off-not-begun xs e

  none-in-spoiled : (R : ℕ) → ValidRecordings R spoiled
  none-in-spoiled R xs e = spoiled-not-begun xs e

  -- a slip leaves nothing recorded
  none-after-slip : (R : ℕ) (t : Transaction) → ValidRecordings R (after_slip t)
  none-after-slip R off = none-recorded R
  none-after-slip R (begun xs) = none-in-spoiled R
  none-after-slip R spoiled = none-in-spoiled R

  pub spoils-valid : (R : ℕ) (x : Reading) (t new : Transaction) → Spoils x t new → ValidRecordings R new
  spoils-valid R x t new (by-invalid r _) = none-after-slip R t
  spoils-valid R x t new (by-begin _) = none-after-slip R t
  spoils-valid R x t new by-commit = none-recorded R

  just-begun : (R : ℕ) → ValidRecording protocol valid R []
  unfolding recording_fits recording_charge
  just-begun R = record { fits = rw (leb-zero R); actions = tt }

  pub records-valid : (R : ℕ) (x : Reading) (r new : Transaction) → Records R x r new → ValidReading x
      → ValidRecordings R r → ValidRecordings R new
  records-valid R x r new (blank-line _) h g = g
  records-valid R x r new beginning h g = λ ys e. let q : [] ≡ ys = cc in rw (← q) (just-begun R)
  records-valid R x r new nothing-to-commit h g = g
  records-valid R x r new (recorded a xs t) h g =
      λ ys e. let q : xs ++ (a ∷ []) ≡ ys = cc in
      rw (← q) (record {
        fits = t;
        actions = each_append (ValidAction valid) xs (a ∷ []) (g xs refl).actions
            (h a refl, tt);
      })
  records-valid R x r new (does-nothing a) h g = g

  -- ---- clients

  module _ (law : Lawful protocol valid) (z : Sizes) where
    abbrev Good : Client → Type 0
    Good c = ClientInvariant protocol valid z c

    pub invariant-new_client : (k : Opening) → 64 ≤ z.queue_room → Good (new_client k)
    unfolding new_client queue_charge Distinct
    invariant-new_client k h =
        record {
          few = omega arith;
          distinct = tt;
          patterns-valid = tt;
          recording-valid = none-recorded z.record_room;
          queue-room = omega arith;
          open-room = λ o. omega arith;
          queue-encoded = ([], refl);
          shut-empty = λ o. never (sym o);
          stream-empty = λ o. (refl, refl, refl);
        }

    rest-charge : (q : List Bytes) → queue_charge (rest q) ≤ queue_charge q
    unfolding queue_charge rest
    rest-charge [] = omega arith
    rest-charge (m ∷ q) = omega arith

    rest-none : (q : List Bytes) → q ≡ [] → rest q ≡ []
    unfolding rest
    rest-none q e = rw e

    rest-encoded : (k : Kind) (ms : List Message)
        → (new : List Message) × (rest (encoded protocol k ms) ≡ encoded protocol k new)
    unfolding rest
    rest-encoded k [] = ([], refl)
    rest-encoded k (m ∷ ms) = (ms, refl)

    pub invariant-after_take : (c : Client) → Good c → Good (after_take c)
    unfolding after_take with_queue
    invariant-after_take c g =
        let ms : List Message = g.queue-encoded.0 in
        let r = rest-encoded c.kind ms in
        record {
          few = g.few;
          distinct = g.distinct;
          patterns-valid = g.patterns-valid;
          recording-valid = g.recording-valid;
          queue-room = omega (arith, g.queue-room, rest-charge c.queue);
          open-room = λ o. omega (arith, g.open-room o, rest-charge c.queue);
          queue-encoded = (r.0, ap rest g.queue-encoded.1 ∙ r.1);
          shut-empty = g.shut-empty;
          stream-empty =
              λ o. (rest-none c.queue (g.stream-empty o).0, (g.stream-empty o).1, (g.stream-empty o).2);
        }

    -- a queue keeps its meaning when a message fixes the kind
    kind-encoded : (k : Kind) (c : Client) → Good c → Fixes c.kind k
        → (ms : List Message) × (c.queue ≡ encoded protocol k ms)
    kind-encoded k c g f = go f.keeps
      where
        go : (c.kind ≡ Stream) ⊎ (k ≡ c.kind) → (ms : List Message) × (c.queue ≡ encoded protocol k ms)
        go (inl e) = ([], (g.stream-empty e).0)
        go (inr e) = (g.queue-encoded.0, rw e g.queue-encoded.1)

    pub invariant-with_transaction : (k : Kind) (r : Transaction) (c : Client) → Good c → c.shut ≡ false
        → Fixes c.kind k → ValidRecordings z.record_room r → Good (with_transaction r (with_kind k c))
    unfolding with_transaction with_kind
    invariant-with_transaction k r c g o f h =
        record {
          few = g.few;
          distinct = g.distinct;
          patterns-valid = g.patterns-valid;
          recording-valid = h;
          queue-room = g.queue-room;
          open-room = g.open-room;
          queue-encoded = kind-encoded k c g f;
          shut-empty = λ p. never (sym p ∙ o);
          stream-empty = λ p. absurd (f.fixed p);
        }

    -- the feeder of a step or of a refused message
    pub invariant-feeder : (k : Kind) (c : Client) → Good c → c.shut ≡ false → Fixes c.kind k
        → Good (with_transaction off (with_kind k c))
    invariant-feeder k c g o f = invariant-with_transaction k off c g o f (none-recorded z.record_room)

    pub invariant-shut_by : (r : Refusal) (c : Client) → Good c → c.shut ≡ false → (c.kind ≡ Stream → ⊥)
        → Good (shut_by protocol.written r c)
    unfolding shut_by Distinct queue_charge
    invariant-shut_by r c g o n =
        let e = queue_charge-append c.queue (encoded protocol c.kind (error r ∷ [])) in
        let ms : List Message = g.queue-encoded.0 in
        record {
          few = omega arith;
          distinct = tt;
          patterns-valid = tt;
          recording-valid = none-recorded z.record_room;
          queue-room = omega (arith, g.open-room o, law.error-fits c.kind r);
          open-room = λ p. never p;
          queue-encoded = (
            ms ++ (error r ∷ []),
            rw (encoded-append protocol c.kind ms (error r ∷ []))
                (ap (λ (q : List Bytes). q ++ encoded protocol c.kind (error r ∷ [])) g.queue-encoded.1),
          );
          shut-empty = λ p. (refl, refl);
          stream-empty = λ p. absurd (n p);
        }

    -- more messages, which fit, in the queue of an open client
    more-queued : (ms : List Message) (c : Client) → Good c
        → fits_all protocol z.queue_room ms c ≡ true
        → (queue_charge (c.queue ++ encoded protocol c.kind ms) + 64 ≤ z.queue_room)
        × ((all : List Message) × (c.queue ++ encoded protocol c.kind ms ≡ encoded protocol c.kind all))
    unfolding fits_all queue_fits
    more-queued new c g f =
        let ms : List Message = g.queue-encoded.0 in (
          leb-true _ _ f,
          (
            ms ++ new,
            rw (encoded-append protocol c.kind ms new) (ap
                (λ (q : List Bytes). q ++ encoded protocol c.kind new) g.queue-encoded.1),
          ),
        )

    -- an ERROR more, of a client that stays open
    pub invariant-with_error : (r : Refusal) (c : Client) → Good c → c.shut ≡ false → (c.kind ≡ Stream → ⊥)
        → fits_all protocol z.queue_room (error r ∷ []) c ≡ true → Good (with_error protocol.written r c)
    unfolding with_error with_queue
    invariant-with_error r c g o n f =
        let q = more-queued (error r ∷ []) c g f in
        record {
          few = g.few;
          distinct = g.distinct;
          patterns-valid = g.patterns-valid;
          recording-valid = g.recording-valid;
          queue-room = omega (arith, q.0);
          open-room = λ p. q.0;
          queue-encoded = q.1;
          shut-empty = λ p. never (sym p ∙ o);
          stream-empty = λ p. absurd (n p);
        }

    module _ (mine : Bool) (xs : List Action) (s : Store) (c : Client) (g : Good c) where
      -- a client whose kind is not fixed is owed nothing
      abbrev pub Calm : Type 0
      Calm =
          c.kind ≡ Stream
          → (owes_all protocol mine xs s c.patterns ≡ []) × (patterns_after_all mine xs c.patterns ≡ [])

      -- what an open client is owed fits in its room
      all-owed : Calm → PatternLimits valid (patterns_after_all mine xs c.patterns) → c.shut ≡ false
          → fits_all protocol z.queue_room (owed protocol z.queue_room mine xs s c) c ≡ true
          → Good (with_messages protocol (owed protocol z.queue_room mine xs s c)
          (patterns_after_all mine xs c.patterns) c)
      unfolding with_messages with_patterns with_queue
      all-owed calm l o f =
          let q = more-queued (owes_all protocol mine xs s c.patterns) c g f in
          record {
            few = l.few;
            distinct = l.distinct;
            patterns-valid = l.valid-patterns;
            recording-valid = g.recording-valid;
            queue-room = omega (arith, q.0);
            open-room = λ p. q.0;
            queue-encoded = q.1;
            shut-empty = λ p. never (sym p ∙ o);
            stream-empty = λ p. (rw ((g.stream-empty p).0, (calm p).0), (calm p).1, (g.stream-empty p).2);
          }

      -- and a client that is owed nothing is not shut
      pub never-shut : Calm → c.shut ≡ false
          → fits_all protocol z.queue_room (owed protocol z.queue_room mine xs s c) c ≡ false
          → c.kind ≡ Stream → ⊥
      unfolding fits_all queue_fits
      never-shut calm o f p =
          let q : c.queue ++ encoded protocol c.kind (owes_all protocol mine xs s c.patterns) ≡ c.queue =
          rw (calm p).0 (append-nil c.queue) in
          never (sym (le-leb _ _ (g.open-room o)) ∙ (rw q at f))

      pub invariant-after_step : Calm → PatternLimits valid (patterns_after_all mine xs c.patterns)
          → Good (after_step protocol z.queue_room mine xs s c)
      invariant-after_step calm l = go (step-outcome protocol z.queue_room mine xs s c)
        where
          go : {d : Client} {ms : List Message} → StepOutcome protocol z.queue_room mine xs s c d ms → Good d
          go (was-shut o) = g
          go (got-all o f) = all-owed calm l o f
          go (got-none o f) = invariant-shut_by Room c g o (never-shut calm o f)
