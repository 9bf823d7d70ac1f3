-- Demand 2 as one theorem: the law of one step, `step-state`, and for the queues what a call makes of a slot.
use mathlib.Core.Path.{◌≡◌, refl, sym}
use mathlib.Core.List.{List, ◌∷◌, ◌++◌, append-nil}
use mathlib.Core.Bool.{Bool}
use Prim.Native.Nat.{ℕ}
use Rattle.octets.specs.Octets.{Bytes}
use Rattle.protocol.specs.Terms.{Action, Message}
use Rattle.pattern.specs.Syntax.{valid}
use Rattle.model.specs.Store.{Store}
use Rattle.model.specs.State.{Sizes, Client, used, State, empty_server, slot_at}
use Rattle.model.specs.State.{with_kind, with_patterns, with_transaction, with_queue}
use Rattle.model.specs.Queueing.{rest}
use Rattle.model.specs.Queue.{encoded, after_take, shut_by, with_error, with_messages, after_step}
use Rattle.model.specs.Decision.{Call, Reply}
use Rattle.model.specs.Calls.{decide, serve, after_calls}
use Rattle.model.specs.Log.{Log, new_log, log_after_step}
use Rattle.model.specs.History.{history_after}
use Rattle.model.specs.Invariant.{Reachable}
use Rattle.model.proofs.Invariants.{invariant-reachable}
use Rattle.model.proofs.Queues.{StepOutcome, was-shut, got-all, got-none, step-outcome}
use Rattle.model.proofs.Always.{free-not-used}
use Rattle.model.proofs.Changes.{Change, kept, served, spoke, was-refused, stayed, ran, watched, SlotChange}
use Rattle.model.proofs.Changes.{vacant, closed-now, opened-now, changed, slot-change}
use Rattle.infod3.specs.Infod3.{infod3}
use Rattle.infod3.proofs.Laws.{lawful}
use Rattle.refinement.specs.Promises.{Represents, SetsUp, Step}
use Rattle.refinement.proofs.Runs.{step-state}
use Rattle.guarantee.specs.Demand2.{log_of, QueuedBehind, Demand2}
use Rattle.guarantee.proofs.Start.{set-up-in-range}

-- ---- the queues

step-queued : (Q : ℕ) (mine : Bool) (xs : List Action) (s : Store) (c : Client)
    → QueuedBehind c (after_step infod3 Q mine xs s c) (log_after_step infod3 Q mine xs s c new_log)
unfolding log_after_step with_messages with_patterns with_queue shut_by
step-queued Q mine xs s c = go (step-outcome infod3 Q mine xs s c)
  where
    go : {d : Client} {ms : List Message} → StepOutcome infod3 Q mine xs s c d ms
        → d.queue ≡ c.queue ++ encoded infod3 d.kind ms
    go (was-shut o) = sym (append-nil c.queue)
    go (got-all o f) = refl
    go (got-none o f) = refl

change-queued : (st : State) (c d : Client) {x : Call} {s : Store} {l : Log} → Change infod3 st c new_log x s d l
    → QueuedBehind c d l
unfolding after_take with_queue rest with_transaction with_kind shut_by with_error
change-queued st c d (kept x) = sym (append-nil c.queue)
change-queued st c d (served i len m ms w q) = rw (q, append-nil (m ∷ ms))
change-queued st c d (spoke i bs n k x r sp rec) = sym (append-nil c.queue)
change-queued st c d (was-refused i bs n k x r sp why) = refl
change-queued st c d (stayed i bs n k x r t sp why stays fits left) = refl
change-queued st c d (ran i bs n k x xs sp run ok) =
    step-queued st.sizes.queue_room _ xs st.store (with_transaction _ (with_kind k c))
change-queued st c d (watched i bs n k x feeder xs sp run ok) =
    step-queued st.sizes.queue_room _ xs st.store c

call-queued : (x : Call) (st : State) (j : ℕ) (c d : Client) → slot_at j st ≡ used c
    → slot_at j (serve infod3 x st).next ≡ used d → QueuedBehind c d (log_of x st j)
unfolding log_of history_after serve
call-queued x st j c d v w = go (slot-change infod3 st (λ i. new_log) j x)
  where
    go : SlotChange infod3 st (λ i. new_log) j x (decide infod3 x st) → QueuedBehind c d (log_of x st j)
    go (vacant f g) = free-not-used _ c f v
    go (closed-now b u g h) = free-not-used _ d g w
    go (opened-now k f g h) = free-not-used _ c f v
    go (changed b e u g h) =
        let p : b ≡ c = cc in
        let q : e ≡ d = cc in
        rw (p, q) at (change-queued st b e h)

-- ---- all of it

-- Demand 2: one call on a memory that holds a state which a list of calls reaches from a set up answered 0.
pub demand-2 : {st : State} {m m' : Bytes} {x : Call} {r : Reply} → Reachable infod3 st → Represents m st
    → Step infod3 m x r m' → Demand2 st x r m'
demand-2 {st} {x = x} reached held step =
    let s = step-state infod3 valid lawful st (invariant-reachable infod3 valid lawful st reached) held step in
    record { reply = s.0; state = s.1; queues = call-queued x st }

-- Its premises are met along every list: the memory that a set up answered 0 leaves holds the empty server
-- (`set-up-represents`), what the calls after it leave holds the state that they reach (clause `state` of
-- `Guaranteed`), and that state is one that a list of calls reaches.
pub reached-after : {z : Sizes} {m₀ m₁ : Bytes} {n : ℕ} → SetsUp z m₀ 0 n m₁ → (xs : List Call)
    → Reachable infod3 (after_calls infod3 xs (empty_server z))
reached-after {z} s xs = record { sizes-used = z; in-range = set-up-in-range s; calls = xs; reaches = refl }
