-- What one call makes of a slot, its client and its log. Every theorem on lists of calls goes by these cases.
use mathlib.Core.Path.{◌≡◌, refl, sym, ap, ◌∙◌}
use mathlib.Core.List.{List, [], ◌∷◌}
use mathlib.Core.Bool.{true, false, and-true, and-false}
use mathlib.Core.Option.{some}
use Prim.Native.Nat.{ℕ, ◌≤◌}
use native.Mathlib.Omega.{arith}
use lib.Dec.{eqb}
use lib.ListN.{length}
use borrow.Author.Tests.{eqb-true, ne_eqb}
use Rattle.octets.specs.Octets.{Bytes}
use Rattle.protocol.specs.Terms.{Action, error, Reading, Protocol}
use Rattle.protocol.specs.declared.Kind.{Kind}
use Rattle.protocol.specs.declared.Refusal.{Refusal}
use Rattle.model.specs.Store.{Store}
use Rattle.model.specs.Step.{store_after_all, refuses_any}
use Rattle.model.specs.Queueing.{first}
use Rattle.model.specs.State.{Opening, Transaction, off, Client, Slot, free, used, State, slot_at, new_client}
use Rattle.model.specs.State.{with_kind, with_transaction}
use Rattle.model.specs.Queue.{after_take, shut_by, with_error, after_step}
use Rattle.model.specs.Events.{opened, closed, took, consumed, refused, slipped, stepped}
use Rattle.model.specs.Events.{on_client, slot_after_event, store_after_event, after_event}
use Rattle.model.specs.Decision.{Call, opens, feeds, takes, closes, Decision, unaltered, done, refusal, slip}
use Rattle.model.specs.Feed.{context_of, stays_open, error_fits}
use Rattle.model.specs.Calls.{decide}
use Rattle.model.specs.Log.{Log, new_log, log_queued, log_taken, log_after_step, on_log, log_after_event, log_given}
use Rattle.model.proofs.Tests.{either}
use Rattle.model.proofs.Slots.{SlotAfter, inside, outside, slot-after, slot-after-used, after-idle}
use Rattle.model.specs.Refusals.{Spoils}
use Rattle.model.proofs.Outcomes.{Runs, Records, Speaks, RefusalCause}
use Rattle.model.proofs.Outcomes.{Outcome, turned-away, opening, consuming, refusing, slipping, running, giving}
use Rattle.model.proofs.Outcomes.{closing, outcome}

-- a queue with a first message
first_some : (q : List Bytes) (m : Bytes) → first q ≡ some m → (ms : List Bytes) × (q ≡ m ∷ ms)
first_some [] m e = let z : ◌≡◌ {A = ℕ} 0 1 = cc in absurd (omega arith)
first_some (a ∷ ms) m e = (ms, cc)

module _ (protocol : Protocol) (st : State) where
  -- what a call makes of the client c and its log l: the store, the client and the log after it
  pub data Change (c : Client) (l : Log) : Call → Store → Client → Log → Type 0 where
    kept : (x : Call) → Change c l x st.store c l
    served : (i len : ℕ) (m : Bytes) (ms : List Bytes) → slot_at i st ≡ used c → c.queue ≡ m ∷ ms
        → Change c l (takes i len) st.store (after_take c) (log_taken m l)
    spoke : (i : ℕ) (bs : Bytes) (n : ℕ) (k : Kind) (x : Reading) (r : Transaction)
        → Speaks protocol st i bs n k x c → Records st.sizes.record_room x c.transaction r
        → Change c l (feeds i bs) st.store (with_transaction r (with_kind k c)) l
    was-refused : (i : ℕ) (bs : Bytes) (n : ℕ) (k : Kind) (x : Reading) (r : Refusal)
        → Speaks protocol st i bs n k x c → RefusalCause protocol st c x r
        → Change c l (feeds i bs) st.store (shut_by protocol.written r (with_transaction off (with_kind k c)))
        (log_queued (error r ∷ []) l)
    stayed : (i : ℕ) (bs : Bytes) (n : ℕ) (k : Kind) (x : Reading) (r : Refusal) (t : Transaction)
        → Speaks protocol st i bs n k x c → RefusalCause protocol st c x r → stays_open k c.hangs_up r ≡ true
        → error_fits (context_of protocol st i) k c r ≡ true → Spoils x c.transaction t
        → Change c l (feeds i bs) st.store (with_error protocol.written r (with_transaction t (with_kind k c)))
        (log_queued (error r ∷ []) l)
    ran : (i : ℕ) (bs : Bytes) (n : ℕ) (k : Kind) (x : Reading) (xs : List Action)
        → Speaks protocol st i bs n k x c → Runs x c.transaction xs
        → refuses_any st.sizes.store_room xs st.store c.patterns ≡ false
        → Change c l (feeds i bs) (store_after_all xs st.store)
        (after_step protocol st.sizes.queue_room true xs st.store (with_transaction off (with_kind k c)))
        (log_after_step protocol st.sizes.queue_room true xs st.store (with_transaction off (with_kind k c)) l)
    -- the step of another client, the feeder
    watched : (i : ℕ) (bs : Bytes) (n : ℕ) (k : Kind) (x : Reading) (feeder : Client) (xs : List Action)
        → Speaks protocol st i bs n k x feeder → Runs x feeder.transaction xs
        → refuses_any st.sizes.store_room xs st.store feeder.patterns ≡ false
        → Change c l (feeds i bs) (store_after_all xs st.store)
        (after_step protocol st.sizes.queue_room false xs st.store c)
        (log_after_step protocol st.sizes.queue_room false xs st.store c l)

  module _ (f : ℕ → Log) (j : ℕ) where
    abbrev log_then : Call → Decision → Log
    log_then x d =
        log_given x d.reply j
        (log_after_event protocol st.sizes.queue_room d.event st.store j (slot_at j st) (f j))

    abbrev next : Decision → State
    next d = after_event protocol d.event st

    -- what becomes of the slot j: it stays free, its client is closed, one is opened, or the client that was there is
    -- changed
    pub data SlotChange (x : Call) (d : Decision) : Type 0 where
      vacant : slot_at j st ≡ free → slot_at j (next d) ≡ free → SlotChange x d
      closed-now : (c : Client) → slot_at j st ≡ used c → slot_at j (next d) ≡ free → d.event ≡ closed j
          → SlotChange x d
      opened-now : (k : Opening) → slot_at j st ≡ free → slot_at j (next d) ≡ used (new_client k) → log_then x d ≡ new_log
          → SlotChange x d
      changed : (c e : Client) → slot_at j st ≡ used c → slot_at j (next d) ≡ used e
          → Change c (f j) x (next d).store e (log_then x d) → SlotChange x d

    -- a slot that is free and is not opened stays free
    from-free : (x : Call) (d : Decision) → slot_at j st ≡ free
        → ◌≡◌ {A = Slot} (slot_after_event protocol st.sizes.queue_room d.event st.store j free) free
        → SlotChange x d
    from-free x d w e = go (slot-after protocol d.event st j)
      where
        go : SlotAfter protocol d.event st j → SlotChange x d
        go (inside h) = vacant w (h ∙ (rw w e))
        go (outside h g) = vacant g h

    given-none : (x : Call) (n : ℕ) (l : Log) → 1 ≤ n
        → log_given x (record { answer = n; count = 0; bytes = [] }) j l ≡ l
    unfolding log_given
    given-none (opens i form) n l h = refl
    given-none (feeds i bs) n l h = refl
    given-none (takes i len) n l h =
        let z : eqb n 0 ≡ false = ne_eqb n 0 (λ q. omega arith) in rw (z, and-false (eqb j i))
    given-none (closes i) n l h = refl

    by-idle : (x : Call) (n : ℕ) → 1 ≤ n → (s : Slot) → slot_at j st ≡ s → SlotChange x (unaltered n)
    unfolding log_after_event slot_after_event store_after_event after_event
    by-idle x n h free w = from-free x (unaltered n) w refl
    by-idle x n h (used c) w =
        changed c c w (ap (slot_at j) (after-idle protocol st) ∙ w) (rw (given-none x n (f j) h) (kept x))

    by-opening : (i form : ℕ) (k : Opening) → slot_at i st ≡ free → (s : Slot) → slot_at j st ≡ s
        → SlotChange (opens i form) (done 0 [] (opened i k))
    unfolding log_given log_after_event slot_after_event store_after_event after_event
    by-opening i form k v s w = either (eqb j i) here (λ b. elsewhere b s w)
      where
        here : eqb j i ≡ true → SlotChange (opens i form) (done 0 [] (opened i k))
        here b = go (slot-after protocol (opened i k) st j)
          where
            go : SlotAfter protocol (opened i k) st j → SlotChange (opens i form) (done 0 [] (opened i k))
            go (inside h) = opened-now k (rw (eqb-true j i b) v) (h ∙ rw b) (rw b)
            go (outside h g) = vacant g h

        elsewhere : eqb j i ≡ false → (s : Slot) → slot_at j st ≡ s
            → SlotChange (opens i form) (done 0 [] (opened i k))
        elsewhere b free w = from-free (opens i form) (done 0 [] (opened i k)) w (rw b)
        elsewhere b (used c) w =
            changed c c w (slot-after-used protocol (opened i k) st j c w ∙ rw b) (rw b (kept _))

    by-closing : (i : ℕ) (s : Slot) → slot_at j st ≡ s → SlotChange (closes i) (done 0 [] (closed i))
    unfolding log_given log_after_event slot_after_event store_after_event after_event
    by-closing i free w =
        from-free (closes i) (done 0 [] (closed i)) w (either (eqb j i) (λ b. rw b) (λ b. rw b))
    by-closing i (used c) w =
        either (eqb j i)
        (λ b. closed-now c w (slot-after-used protocol (closed i) st j c w ∙ rw b) (ap closed (sym (eqb-true j i b))))
        (λ b. changed c c w (slot-after-used protocol (closed i) st j c w ∙ rw b) (kept _))

    -- the one client in a slot
    same-client : (i : ℕ) (c e : Client) → eqb j i ≡ true → slot_at i st ≡ used c → slot_at j st ≡ used e → e ≡ c
    same-client i c e b v w = let u : slot_at i st ≡ used e = rw (eqb-true j i b) at w in cc

    by-giving : (i len : ℕ) (c : Client) (m : Bytes) (ms : List Bytes) → slot_at i st ≡ used c → c.queue ≡ m ∷ ms
        → (s : Slot) → slot_at j st ≡ s → SlotChange (takes i len) (done (length m) m (took i))
    unfolding log_given log_after_event slot_after_event store_after_event after_event on_client
    by-giving i len c m ms v q free w =
        from-free (takes i len) (done (length m) m (took i)) w (either (eqb j i) (λ b. rw b) (λ b. rw b))
    by-giving i len c m ms v q (used e) w =
        either (eqb j i)
        (λ b. let h : e ≡ c = same-client i c e b v w in
        changed e (after_take e) w (slot-after-used protocol (took i) st j e w ∙ rw b)
        (rw (and-true (eqb j i), b) (served i len m ms (rw h v) (rw h q))))
        (λ b. changed e e w (slot-after-used protocol (took i) st j e w ∙ rw b) (rw (and-true (eqb j i), b) (kept _)))

    module _ (i : ℕ) (bs : Bytes) (n : ℕ) (k : Kind) (x : Reading) (c : Client)
        (sp : Speaks protocol st i bs n k x c) where
      by-consuming : (r : Transaction) → Records st.sizes.record_room x c.transaction r
          → (s : Slot) → slot_at j st ≡ s → SlotChange (feeds i bs) (done n [] (consumed i k r))
      unfolding log_given log_after_event slot_after_event store_after_event after_event on_client
      by-consuming r rec free w =
          from-free (feeds i bs) (done n [] (consumed i k r)) w (either (eqb j i) (λ b. rw b) (λ b. rw b))
      by-consuming r rec (used e) w =
          either (eqb j i)
          (λ b. let h : e ≡ c = same-client i c e b sp.at w in
          changed e (with_transaction r (with_kind k e)) w (slot-after-used protocol (consumed i k r) st j e w ∙ rw b)
          (rw h (spoke i bs n k x r sp rec)))
          (λ b. changed e e w (slot-after-used protocol (consumed i k r) st j e w ∙ rw b) (kept _))

      by-refusing : (r : Refusal) → RefusalCause protocol st c x r
          → (s : Slot) → slot_at j st ≡ s → SlotChange (feeds i bs) (refusal n i k r)
      unfolding log_given log_after_event slot_after_event store_after_event after_event on_client on_log
      by-refusing r why free w = from-free (feeds i bs) (refusal n i k r) w (either (eqb j i) (λ b. rw b) (λ b. rw b))
      by-refusing r why (used e) w =
          either (eqb j i)
          (λ b. let h : e ≡ c = same-client i c e b sp.at w in
          changed e (shut_by protocol.written r (with_transaction off (with_kind k e))) w
          (slot-after-used protocol (refused i k r) st j e w ∙ rw b)
          (rw (b, w, h) (was-refused i bs n k x r sp why)))
          (λ b. changed e e w (slot-after-used protocol (refused i k r) st j e w ∙ rw b) (rw b (kept _)))

      by-slipping : (r : Refusal) (t : Transaction) → RefusalCause protocol st c x r
          → stays_open k c.hangs_up r ≡ true → error_fits (context_of protocol st i) k c r ≡ true
          → Spoils x c.transaction t → (s : Slot) → slot_at j st ≡ s → SlotChange (feeds i bs) (slip n i k r t)
      unfolding log_given log_after_event slot_after_event store_after_event after_event on_client on_log
      by-slipping r t why stays fits left free w =
          from-free (feeds i bs) (slip n i k r t) w (either (eqb j i) (λ b. rw b) (λ b. rw b))
      by-slipping r t why stays fits left (used e) w =
          either (eqb j i)
          (λ b. let h : e ≡ c = same-client i c e b sp.at w in
          changed e (with_error protocol.written r (with_transaction t (with_kind k e))) w
          (slot-after-used protocol (slipped i k r t) st j e w ∙ rw b)
          (rw (b, w, h) (stayed i bs n k x r t sp why stays fits left)))
          (λ b. changed e e w (slot-after-used protocol (slipped i k r t) st j e w ∙ rw b) (rw b (kept _)))

      by-running : (xs : List Action) → Runs x c.transaction xs
          → refuses_any st.sizes.store_room xs st.store c.patterns ≡ false
          → (s : Slot) → slot_at j st ≡ s → SlotChange (feeds i bs) (done n [] (stepped i k xs))
      unfolding log_given log_after_event slot_after_event store_after_event after_event on_client on_log
      by-running xs run ok free w =
          from-free (feeds i bs) (done n [] (stepped i k xs)) w (either (eqb j i) (λ b. rw b) (λ b. rw b))
      by-running xs run ok (used e) w =
          either (eqb j i)
          (λ b. let h : e ≡ c = same-client i c e b sp.at w in
          changed e (after_step protocol st.sizes.queue_room true xs st.store (with_transaction off (with_kind k e))) w
          (slot-after-used protocol (stepped i k xs) st j e w ∙ rw b)
          (rw (b, w, h) (ran i bs n k x xs sp run ok)))
          (λ b. changed e (after_step protocol st.sizes.queue_room false xs st.store e) w
          (slot-after-used protocol (stepped i k xs) st j e w ∙ rw b)
          (rw (b, w) (watched i bs n k x c xs sp run ok)))

    by-outcome : (x : Call) (d : Decision) → Outcome protocol st x d → SlotChange x d
    by-outcome x d (turned-away _ n p q u) = by-idle x n p (slot_at j st) refl
    by-outcome x d (opening i form k h e v) = by-opening i form k v (slot_at j st) refl
    by-outcome x d (consuming i bs n k y c r sp rec) = by-consuming i bs n k y c sp r rec (slot_at j st) refl
    by-outcome x d (refusing i bs n k y c r sp why shuts) = by-refusing i bs n k y c sp r why (slot_at j st) refl
    by-outcome x d (slipping i bs n k y c r t sp why stays fits left) =
        by-slipping i bs n k y c sp r t why stays fits left (slot_at j st) refl
    by-outcome x d (running i bs n k y c xs sp run ok) = by-running i bs n k y c sp xs run ok (slot_at j st) refl
    by-outcome x d (giving i len c m v q h) =
        let f = first_some c.queue m q in
        by-giving i len c m f.0 v f.1 (slot_at j st) refl
    by-outcome x d (closing i c v) = by-closing i (slot_at j st) refl

    -- Every call makes one of these of the slot.
    pub slot-change : (x : Call) → SlotChange x (decide protocol x st)
    slot-change x = by-outcome x (decide protocol x st) (outcome protocol st x)
