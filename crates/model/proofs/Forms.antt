-- The server does the same in two forms of a queue, where a map between them keeps what the server asks of a queue.
use mathlib.Core.Path.{◌≡◌, refl, sym, ap, ap₂, ◌∙◌}
use mathlib.Core.List.{List, [], ◌∷◌, map}
use mathlib.Core.Bool.{Bool, true, false, cond}
use mathlib.Core.Option.{Option, some, none}
use Prim.Native.Nat.{ℕ, zero, suc}
use lib.Dec.{eqb, ltb}
use lib.ListN.{get_or}
use Rattle.octets.specs.Octets.{Bytes}
use Rattle.protocol.specs.Terms.{Action, Message, error, Reading, blank, command, invalid, Cut, incomplete, whole}
use Rattle.protocol.specs.Terms.{Protocol}
use Rattle.protocol.specs.declared.Kind.{Kind}
use Rattle.protocol.specs.declared.Refusal.{Refusal}
use Rattle.protocol.specs.declared.Refusal.TheVariants.{Room}
use Rattle.model.specs.Store.{Store}
use Rattle.model.specs.Patterns.{Patterns}
use Rattle.model.specs.Step.{owes_all, patterns_after_all}
use Rattle.model.specs.Queueing.{Queueing}
use Rattle.model.specs.State.{Opening, off, after_slip, ClientOf, SlotOf, free, used, StateOf, slot_at, new_client}
use Rattle.model.specs.State.{with_kind, with_patterns, with_transaction, with_queue}
use Rattle.model.specs.Queue.{queue_fits, encoded, after_take, shut_by, with_error, with_messages, fits_all}
use Rattle.model.specs.Queue.{after_step}
use Rattle.model.specs.Events.{Event, idle, opened, closed, took, consumed, refused, slipped, stepped}
use Rattle.model.specs.Events.{store_after_event, on_client, each_slot, slot_after_event, after_event}
use Rattle.model.specs.Decision.{Call, opens, feeds, takes, closes, Decision, unaltered}
use Rattle.model.specs.Feed.{Context, context_of, decide_reading, decide_cut, decide_feed}
use Rattle.model.specs.Calls.{
  opening_of,
  decide_open_at,
  decide_open,
  decide_take_from,
  decide_take,
  decide_close,
  decide,
}
use Rattle.model.specs.Forms.{client_with, slot_with, state_with}
use Rattle.model.proofs.Judged.{Alike, refusal-alike, command-alike}

-- the queues of a slot are of some kind
abbrev pub QueueIn : {A : Queueing} → (A.Queue → Type 0) → SlotOf A → Type 0
QueueIn P free = Unit {0}
QueueIn P (used c) = P c.queue

-- a map of queues keeps what the server asks of them, for those of some kind
pub record Keeps (A B : Queueing) (form : A.Queue → B.Queue) (P : A.Queue → Type 0) : Type 0 where
  pub empty : form A.empty ≡ B.empty
  pub charge : (q : A.Queue) → B.charge (form q) ≡ A.charge q
  pub first : (q : A.Queue) → P q → B.first (form q) ≡ A.first q
  pub rest : (q : A.Queue) → P q → B.rest (form q) ≡ form (A.rest q)
  pub appended : (q : A.Queue) (ms : List Bytes) → B.appended (form q) ms ≡ form (A.appended q ms)

-- a test between what a function gives
cond-with : {X Y : Type 0} (f : X → Y) (b : Bool) {x y : X} {u v : Y} → u ≡ f x → v ≡ f y → cond b u v ≡ f (cond b x y)
cond-with f true p q = p
cond-with f false p q = q

module _ {A B : Queueing} (form : A.Queue → B.Queue) (P : A.Queue → Type 0) (keeps : Keeps A B form P) where
  abbrev client : ClientOf A → ClientOf B
  client c = client_with form c

  abbrev slot : SlotOf A → SlotOf B
  slot x = slot_with form x

  abbrev state : StateOf A → StateOf B
  state st = state_with form st

  -- ---- decisions

  get_d-slot : (xs : List (SlotOf A)) (i : ℕ) → get_or (map slot xs) i free ≡ slot (get_or xs i free)
  unfolding slot_with
  get_d-slot [] i = refl
  get_d-slot (x ∷ xs) zero = refl
  get_d-slot (x ∷ xs) (suc i) = get_d-slot xs i

  pub slot_at-with : (i : ℕ) (st : StateOf A) → slot_at i (state st) ≡ slot (slot_at i st)
  unfolding slot_at state_with
  slot_at-with i st = get_d-slot st.slots i

  open-with : (i : ℕ) (k : Option Opening) (x : SlotOf A) → decide_open_at i k (slot x) ≡ decide_open_at i k x
  unfolding decide_open_at slot_with
  open-with i none x = refl
  open-with i (some k) free = refl
  open-with i (some k) (used c) = refl

  take-with : (i len : ℕ) (x : SlotOf A) → QueueIn P x → decide_take i len (slot x) ≡ decide_take i len x
  unfolding decide_take slot_with client_with
  take-with i len free h = refl
  take-with i len (used c) h = ap (decide_take_from i len) (keeps.first c.queue h)

  close-with : (i : ℕ) (x : SlotOf A) → decide_close i (slot x) ≡ decide_close i x
  unfolding decide_close slot_with
  close-with i free = refl
  close-with i (used c) = refl

  fits_all-with : (p : Protocol) (Q : ℕ) (ms : List Message) (c : ClientOf A)
      → fits_all p Q ms (client c) ≡ fits_all p Q ms c
  unfolding fits_all client_with
  fits_all-with p Q ms c =
      ap (λ (q : B.Queue). queue_fits Q (B.charge q)) (keeps.appended c.queue (encoded p c.kind ms))
      ∙ ap (queue_fits Q) (keeps.charge (A.appended c.queue (encoded p c.kind ms)))

  alike-with : (x : Context) (k : Kind) (c : ClientOf A) → Alike x k (client c) c
  unfolding client_with with_kind
  alike-with x k c =
      record {
        same-patterns = refl;
        same-form = refl;
        same-room = λ r. fits_all-with x.protocol x.sizes.queue_room (error r ∷ []) (with_kind k c);
      }

  reading-with : (x : Context) (n : ℕ) (k : Kind) (r : Reading) (c : ClientOf A)
      → decide_reading x n k r (client c) ≡ decide_reading x n k r c
  unfolding decide_reading client_with
  reading-with x n k blank c = refl
  reading-with x n k (command a) c = command-alike x n k (client c) c (alike-with x k c) a c.transaction
  reading-with x n k (invalid r) c =
      refusal-alike x n k (client c) c (alike-with x k c) r (after_slip c.transaction)

  cut-with : (x : Context) (w : Cut) (c : ClientOf A)
      → decide_cut x w (client c) ≡ decide_cut x w c
  unfolding decide_cut
  cut-with x incomplete c = refl
  cut-with x (whole n k r) c = reading-with x n k r c

  feed-with : (x : Context) (bs : Bytes) (y : SlotOf A) → decide_feed x bs (slot y) ≡ decide_feed x bs y
  unfolding decide_feed slot_with client_with
  feed-with x bs free = refl
  feed-with x bs (used c) = ap (cond c.shut (unaltered 3)) (cut-with x (x.protocol.cut c.kind bs) c)

  -- every decision is the same in both forms
  pub decide-with : (p : Protocol) (x : Call) (st : StateOf A) → ((i : ℕ) → QueueIn P (slot_at i st))
      → decide p x (state st) ≡ decide p x st
  unfolding decide state_with decide_open
  decide-with p (opens i form) st h =
      ap (λ (x : SlotOf B). cond (ltb i st.sizes.slot_count) (decide_open_at i (opening_of form) x) (unaltered 2))
      (slot_at-with i st)
      ∙ ap (λ (d : Decision). cond (ltb i st.sizes.slot_count) d (unaltered 2))
      (open-with i (opening_of form) (slot_at i st))
  decide-with p (feeds i bs) st h =
      ap (decide_feed (context_of p st i) bs) (slot_at-with i st)
      ∙ feed-with (context_of p st i) bs (slot_at i st)
  decide-with p (takes i len) st h = ap (decide_take i len) (slot_at-with i st) ∙ take-with i len (slot_at i st) (h i)
  decide-with p (closes i) st h = ap (decide_close i) (slot_at-with i st) ∙ close-with i (slot_at i st)

  -- ---- what becomes of the slots

  -- a client with another queue
  abbrev holding : ClientOf A → B.Queue → ClientOf B
  holding c q =
      record {
        kind = c.kind;
        hangs_up = c.hangs_up;
        shut = c.shut;
        patterns = c.patterns;
        transaction = c.transaction;
        queue = q;
      }

  new_client-with : (k : Opening) → new_client k ≡ client (new_client k)
  unfolding new_client client_with
  new_client-with k = ap (holding (new_client k)) (sym keeps.empty)

  after_take-with : (c : ClientOf A) → P c.queue → after_take (client c) ≡ client (after_take c)
  unfolding after_take with_queue client_with
  after_take-with c h = ap (holding c) (keeps.rest c.queue h)

  on_client-with : (f : ClientOf B → ClientOf B) (g : ClientOf A → ClientOf A) (x : SlotOf A) → QueueIn P x
      → ((c : ClientOf A) → P c.queue → f (client c) ≡ client (g c)) → on_client f (slot x) ≡ slot (on_client g x)
  unfolding on_client slot_with
  on_client-with f g free h e = refl
  on_client-with f g (used c) h e = ap used (e c h)

  module _ (p : Protocol) where
    shut_by-with : (r : Refusal) (c : ClientOf A) → shut_by p.written r (client c) ≡ client (shut_by p.written r c)
    unfolding shut_by client_with
    shut_by-with r c =
        ap (λ (q : B.Queue).
        record {
          kind = c.kind;
          hangs_up = c.hangs_up;
          shut = true;
          patterns = [];
          transaction = off;
          queue = q;
        })
        (keeps.appended c.queue (encoded p c.kind (error r ∷ [])))

    with_error-with : (r : Refusal) (c : ClientOf A)
        → with_error p.written r (client c) ≡ client (with_error p.written r c)
    unfolding with_error with_queue client_with
    with_error-with r c = ap (holding c) (keeps.appended c.queue (encoded p c.kind (error r ∷ [])))

    with_messages-with : (ms : List Message) (ps : Patterns) (c : ClientOf A)
        → with_messages p ms ps (client c) ≡ client (with_messages p ms ps c)
    unfolding with_messages with_patterns with_queue client_with
    with_messages-with ms ps c =
        ap (λ (q : B.Queue).
        record {
          kind = c.kind;
          hangs_up = c.hangs_up;
          shut = c.shut;
          patterns = ps;
          transaction = c.transaction;
          queue = q;
        })
        (keeps.appended c.queue (encoded p c.kind ms))

    after_step-with : (Q : ℕ) (mine : Bool) (xs : List Action) (s : Store) (c : ClientOf A)
        → after_step p Q mine xs s (client c) ≡ client (after_step p Q mine xs s c)
    unfolding after_step client_with
    after_step-with Q mine xs s c =
        let ps : Patterns = patterns_after_all mine xs c.patterns in
        let ms : List Message = owes_all p mine xs s c.patterns in
        cond-with client c.shut refl
        (rw (fits_all-with p Q ms c)
        (cond-with client (fits_all p Q ms c) (with_messages-with ms ps c) (shut_by-with Room c)))

    slot_after_event-with : (Q : ℕ) (e : Event) (s : Store) (j : ℕ) (x : SlotOf A) → QueueIn P x
        → slot_after_event p Q e s j (slot x) ≡ slot (slot_after_event p Q e s j x)
    unfolding slot_after_event slot_with with_transaction with_kind client_with
    slot_after_event-with Q idle s j x h = refl
    slot_after_event-with Q (opened i k) s j x h = cond-with slot (eqb j i) (ap used (new_client-with k)) refl
    slot_after_event-with Q (closed i) s j x h = cond-with slot (eqb j i) refl refl
    slot_after_event-with Q (took i) s j x h = cond-with slot (eqb j i) (on_client-with _ _ x h after_take-with) refl
    slot_after_event-with Q (consumed i k r) s j x h =
        cond-with slot (eqb j i) (on_client-with _ _ x h (λ c q. refl)) refl
    slot_after_event-with Q (refused i k r) s j x h =
        cond-with slot (eqb j i) (on_client-with _ _ x h (λ c q. shut_by-with r (with_transaction off (with_kind k c)))) refl
    slot_after_event-with Q (slipped i k r t) s j x h =
        cond-with slot (eqb j i)
        (on_client-with _ _ x h (λ c q. with_error-with r (with_transaction t (with_kind k c))))
        refl
    slot_after_event-with Q (stepped i k xs) s j x h =
        cond-with slot (eqb j i)
        (on_client-with _ _ x h (λ c q. after_step-with Q true xs s (with_transaction off (with_kind k c))))
        (on_client-with _ _ x h (λ c q. after_step-with Q false xs s c))

    slots_with : (Q : ℕ) (e : Event) (s : Store) (n : ℕ) (xs : List (SlotOf A))
        → ((i : ℕ) → QueueIn P (get_or xs i free))
        → each_slot (slot_after_event p Q e s) n (map slot xs) ≡ map slot (each_slot (slot_after_event p Q e s) n xs)
    unfolding each_slot
    slots_with Q e s n [] h = refl
    slots_with Q e s n (x ∷ xs) h =
        ap₂ ◌∷◌ (slot_after_event-with Q e s n x (h 0)) (slots_with Q e s (suc n) xs (λ i. h (suc i)))

    -- the state after an event is the same in both forms
    pub after_event-with : (e : Event) (st : StateOf A) → ((i : ℕ) → QueueIn P (slot_at i st))
        → after_event p e (state st) ≡ state (after_event p e st)
    unfolding after_event state_with slot_at
    after_event-with e st h =
        ap (λ (l : List (SlotOf B)). record { sizes = st.sizes; store = store_after_event e st.store; slots = l })
        (slots_with st.sizes.queue_room e st.store 0 st.slots h)
