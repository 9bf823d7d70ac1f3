-- Demand 3: all that one commit owes a client is queued in its order, with nothing between, exactly when it fits;
-- otherwise none is. So it stays through every later call, also once the client is closed. Nothing else is ever
-- queued but the ERRORs due.
use mathlib.Core.Path.{◌≡◌, refl, sym, ap, ◌∙◌}
use mathlib.Core.List.{List, [], ◌∷◌, ◌++◌, append-nil}
use mathlib.Core.Bool.{Bool, true, false, cond}
use Prim.Native.Nat.{ℕ}
use lib.Dec.{eqb}
use Rattle.octets.specs.Octets.{Bytes}
use Rattle.protocol.specs.Terms.{Action, commit, plain, Message, error, Reading, command, Protocol}
use Rattle.protocol.specs.declared.Kind.{Kind}
use Rattle.protocol.specs.declared.Refusal.{Refusal}
use Rattle.protocol.specs.declared.Refusal.TheVariants.{Room}
use Rattle.model.specs.Store.{Store}
use Rattle.model.specs.Step.{refuses_any, owes_all}
use Rattle.model.specs.State.{off, begun, Client, used, State, slot_at}
use Rattle.model.specs.State.{with_kind, with_transaction}
use Rattle.model.specs.Queue.{fits_all, queued_by_step}
use Rattle.model.specs.Events.{stepped}
use Rattle.model.specs.Decision.{Call, feeds, done}
use Rattle.model.specs.Calls.{decide, serve}
use Rattle.model.specs.Log.{Log, log_after_step, on_log, log_after_event, log_given}
use Rattle.model.specs.History.{History, history_after}
use Rattle.model.proofs.Tests.{either}
use Rattle.model.proofs.Outcomes.{Runs, Speaks, RefusalCause}
use Rattle.model.proofs.Changes.{Change, kept, served, spoke, was-refused, stayed, ran, watched}
use Rattle.model.proofs.Changes.{SlotChange, vacant, closed-now, opened-now, changed, slot-change}
use Rattle.model.proofs.Decisions.{feed-commit, feed-action, step-done}
use Rattle.model.proofs.Always.{free-not-used}

module _ (protocol : Protocol) where
  -- ---- one step

  -- What a step with this much owed does to the log of an open client: all or none is queued, as it fits.
  pub record Delivered (Q : ℕ) (owed : List Message) (c : Client) (old new : Log) : Type 0 where
    pub all : fits_all protocol Q owed c ≡ true → new.queued ≡ old.queued ++ owed
    pub none-of-it : fits_all protocol Q owed c ≡ false → new.queued ≡ old.queued ++ (error Room ∷ [])

  queued_by_step-all : (Q : ℕ) (mine : Bool) (xs : List Action) (s : Store) (c : Client) → c.shut ≡ false
      → fits_all protocol Q (owes_all protocol mine xs s c.patterns) c ≡ true
      → queued_by_step protocol Q mine xs s c ≡ owes_all protocol mine xs s c.patterns
  unfolding queued_by_step
  queued_by_step-all Q mine xs s c o f = rw (f, o)

  queued_by_step-none : (Q : ℕ) (mine : Bool) (xs : List Action) (s : Store) (c : Client) → c.shut ≡ false
      → fits_all protocol Q (owes_all protocol mine xs s c.patterns) c ≡ false
      → queued_by_step protocol Q mine xs s c ≡ error Room ∷ []
  unfolding queued_by_step
  queued_by_step-none Q mine xs s c o f = rw (f, o)

  module _ (t : History) (i : ℕ) (bs : Bytes) (n : ℕ) (k : Kind) (xs : List Action) (j : ℕ) (d : Client) where
    -- the client of the slot j with its kind in the step
    abbrev pub during_step : Client
    during_step = cond (eqb j i) (with_transaction off (with_kind k d)) d

    -- all that the step owes it
    abbrev pub owed_by : List Message
    owed_by = owes_all protocol (eqb j i) xs t.state.store d.patterns

    abbrev pub DeliveredTo : Type 0
    DeliveredTo =
        Delivered t.state.sizes.queue_room owed_by during_step (t.logs j)
        ((history_after protocol (feeds i bs) t).logs j)

    pub step-together : decide protocol (feeds i bs) t.state ≡ done n [] (stepped i k xs)
        → slot_at j t.state ≡ used d → d.shut ≡ false → DeliveredTo
    unfolding history_after log_given log_after_event on_log log_after_step with_transaction with_kind
    step-together e w o =
        let Q : ℕ = t.state.sizes.queue_room in
        let behind : List Message → List Message = λ ms. (t.logs j).queued ++ ms in
        either (eqb j i)
        (λ b. let c : Client = with_transaction off (with_kind k d) in
        record {
          all = λ f. rw (e, w, b) (ap behind (queued_by_step-all Q true xs t.state.store c o (rw b at f)));
          none-of-it = λ f. rw (e, w, b) (ap behind (queued_by_step-none Q true xs t.state.store c o (rw b at f)));
        })
        (λ b. record {
          all = λ f. rw (e, w, b) (ap behind (queued_by_step-all Q false xs t.state.store d o (rw b at f)));
          none-of-it = λ f. rw (e, w, b) (ap behind (queued_by_step-none Q false xs t.state.store d o (rw b at f)));
        })

    -- A COMMIT answered 0 with a recording queues to each open client all that the recorded actions owe it, or none
    -- of it.
    pub commit-together : (c : Client) → Speaks protocol t.state i bs n k (command commit) c
        → c.transaction ≡ begun xs
        → refuses_any t.state.sizes.store_room xs t.state.store c.patterns ≡ false
        → slot_at j t.state ≡ used d → d.shut ≡ false → DeliveredTo
    commit-together c sp r f =
        step-together (feed-commit protocol t.state i bs n k (command commit) c sp xs refl r
        ∙ step-done protocol t.state i bs n k (command commit) c sp xs f)

  -- A single action does likewise.
  pub action-together : (t : History) (i : ℕ) (bs : Bytes) (n : ℕ) (k : Kind) (a : Action) (j : ℕ) (d c : Client)
      → Speaks protocol t.state i bs n k (command (plain a)) c → c.transaction ≡ off
      → refuses_any t.state.sizes.store_room (a ∷ []) t.state.store c.patterns ≡ false
      → slot_at j t.state ≡ used d → d.shut ≡ false → DeliveredTo t i bs n k (a ∷ []) j d
  action-together t i bs n k a j d c sp r f =
      step-together t i bs n k (a ∷ []) j d (feed-action protocol t.state i bs n k (command (plain a)) c sp a
      refl r
      ∙ step-done protocol t.state i bs n k (command (plain a)) c sp (a ∷ []) f)

  -- ---- nothing else

  -- what a call queues to the client c: nothing, the ERROR of its own refused message, or what a step gives it, its
  -- own or another's
  pub data Queued (st : State) (c : Client) : Call → List Message → Type 0 where
    nothing : (x : Call) → Queued st c x []
    its-error : (i : ℕ) (bs : Bytes) (n : ℕ) (k : Kind) (y : Reading) (r : Refusal) → Speaks protocol st i bs n k y c
        → RefusalCause protocol st c y r → Queued st c (feeds i bs) (error r ∷ [])
    by-its-step : (i : ℕ) (bs : Bytes) (n : ℕ) (k : Kind) (y : Reading) (xs : List Action)
        → Speaks protocol st i bs n k y c
        → Runs y c.transaction xs → refuses_any st.sizes.store_room xs st.store c.patterns ≡ false
        → Queued st c (feeds i bs) (queued_by_step protocol st.sizes.queue_room true xs st.store
        (with_transaction off (with_kind k c)))
    by-another's-step : (i : ℕ) (bs : Bytes) (n : ℕ) (k : Kind) (y : Reading) (feeder : Client) (xs : List Action)
        → Speaks protocol st i bs n k y feeder → Runs y feeder.transaction xs
        → refuses_any st.sizes.store_room xs st.store feeder.patterns ≡ false
        → Queued st c (feeds i bs) (queued_by_step protocol st.sizes.queue_room false xs st.store c)

  pub record QueuedBy (st : State) (c : Client) (x : Call) (old new : Log) : Type 0 where
    pub messages : List Message
    pub why : Queued st c x messages
    pub grown : new.queued ≡ old.queued ++ messages

  pub queued-by : (st : State) (c : Client) (l : Log) {x : Call} {s : Store} {d : Client} {m : Log}
      → Change protocol st c l x s d m
      → QueuedBy st c x l m
  unfolding log_after_step
  queued-by st c l (kept x) = record { messages = []; why = nothing x; grown = sym (append-nil l.queued) }
  queued-by st c l (served i len m ms w q) =
      record { messages = []; why = nothing _; grown = sym (append-nil l.queued) }
  queued-by st c l (spoke i bs n k y r sp rec) =
      record { messages = []; why = nothing _; grown = sym (append-nil l.queued) }
  queued-by st c l (was-refused i bs n k y r sp why) =
      record { messages = error r ∷ []; why = its-error i bs n k y r sp why; grown = refl }
  queued-by st c l (stayed i bs n k y r t sp why stays fits left) =
      record { messages = error r ∷ []; why = its-error i bs n k y r sp why; grown = refl }
  queued-by st c l (ran i bs n k y xs sp run ok) =
      record { messages = _; why = by-its-step i bs n k y xs sp run ok; grown = refl }
  queued-by st c l (watched i bs n k y feeder xs sp run ok) =
      record { messages = _; why = by-another's-step i bs n k y feeder xs sp run ok; grown = refl }

  -- A call queues to a client what is due and nothing else, behind all that was queued before.
  pub nothing-else-queued : (t : History) (x : Call) (j : ℕ) (c e : Client) → slot_at j t.state ≡ used c
      → slot_at j (history_after protocol x t).state ≡ used e
      → QueuedBy t.state c x (t.logs j) ((history_after protocol x t).logs j)
  unfolding history_after serve
  nothing-else-queued t x j c e w v = go (slot-change protocol t.state t.logs j x)
    where
      go : SlotChange protocol t.state t.logs j x (decide protocol x t.state)
          → QueuedBy t.state c x (t.logs j) ((history_after protocol x t).logs j)
      go (vacant f g) = free-not-used _ c f w
      go (closed-now b u g h) = free-not-used _ e g v
      go (opened-now k f g h) = free-not-used _ c f w
      go (changed b d u g h) = let q : b ≡ c = cc in rw q at (queued-by t.state b (t.logs j) h)
