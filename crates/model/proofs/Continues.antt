-- Demand 3 is about the whole list: what was queued to a client stays in front of all that is queued to it later, in
-- its order, also once the client is closed. So the messages of a commit stand together for ever.
use mathlib.Core.Path.{◌≡◌, refl, sym, ap, ◌∙◌}
use mathlib.Core.List.{List, [], ◌∷◌, ◌++◌, append_assoc, append-nil}
use mathlib.Core.Bool.{true, false}
use Prim.Native.Nat.{ℕ}
use native.Mathlib.Omega.{arith}
use lib.Dec.{eqb}
use borrow.Author.Tests.{eq-eqb}
use Rattle.octets.specs.Octets.{Bytes}
use Rattle.protocol.specs.Terms.{Action, commit, command, Message, Protocol}
use Rattle.protocol.specs.declared.Kind.{Kind}
use Rattle.model.specs.Step.{refuses_any}
use Rattle.model.specs.State.{off, begun, Client, free, used, State, slot_at}
use Rattle.model.specs.State.{with_kind, with_transaction}
use Rattle.model.specs.Queue.{fits_all, after_step}
use Rattle.model.specs.Events.{closed, stepped, on_client, slot_after_event, after_event}
use Rattle.model.specs.Decision.{Call, feeds, Decision, done}
use Rattle.model.specs.Calls.{decide, serve}
use Rattle.model.specs.Log.{Log}
use Rattle.model.specs.History.{Past, History, past_of, closed_by, history_after, history_after_all}
use Rattle.model.specs.Invariant.{Each}
use Rattle.model.proofs.Tests.{either}
use Rattle.model.proofs.Slots.{slot-after-used}
use Rattle.model.proofs.Subscriptions.{each_append}
use Rattle.model.proofs.Outcomes.{Outcome, turned-away, opening, consuming, refusing, slipping, running, giving}
use Rattle.model.proofs.Outcomes.{closing, outcome}
use Rattle.model.proofs.Outcomes.{Speaks}
use Rattle.model.proofs.Changes.{SlotChange, vacant, closed-now, opened-now, changed, slot-change}
use Rattle.model.proofs.Decisions.{feed-commit, step-done}
use Rattle.model.proofs.Together.{queued-by, during_step, owed_by, commit-together}
use Rattle.model.proofs.Always.{free-not-used}

module _ (protocol : Protocol) (q : List Message) (j : ℕ) (old : List Past) where
  -- a client of another slot
  abbrev pub OfAnother : Past → Type 0
  OfAnother p = p.slot ≡ j → ⊥

  -- The client that was in the slot j when these were the clients since closed, and had these messages queued to it:
  -- it is there still, or is the first of its slot closed after that; and the messages come first of all that were
  -- ever queued to it.
  pub data Continues (t : History) : Type 0 where
    still : (c : Client) → slot_at j t.state ≡ used c → (between : List Past) → Each OfAnother between
        → t.past ≡ old ++ between → (later : List Message) → (t.logs j).queued ≡ q ++ later → Continues t
    since : (between : List Past) → Each OfAnother between → (p : Past) → p.slot ≡ j → (others : List Past)
        → t.past ≡ old ++ (between ++ p ∷ others) → (later : List Message) → p.log.queued ≡ q ++ later
        → Continues t

  -- a call that leaves a client in the slot closes none of the slot
  others-closed : (st : State) (f : ℕ → Log) (e : Client) (x : Call) (d : Decision) → Outcome protocol st x d
      → slot_at j (after_event protocol d.event st) ≡ used e → Each OfAnother (closed_by d.event st f)
  unfolding closed_by past_of slot_after_event
  others-closed st f e x d (turned-away _ n p r u) g = tt
  others-closed st f e x d (opening i form k h b w) g = tt
  others-closed st f e x d (consuming i bs n k y c r sp rec) g = tt
  others-closed st f e x d (refusing i bs n k y c r sp why shuts) g = tt
  others-closed st f e x d (slipping i bs n k y c r t sp why stays fits left) g = tt
  others-closed st f e x d (running i bs n k y c xs sp run ok) g = tt
  others-closed st f e x d (giving i len c m w b h) g = tt
  others-closed st f e x d (closing i c w) g =
      rw w (
        λ n. let h : slot_at i (after_event protocol (closed i) st) ≡ free =
            slot-after-used protocol (closed i) st i c w ∙ rw (eq-eqb i i refl) in
            let z : ◌≡◌ {A = ℕ} 0 1 = cc in omega arith,
        tt,
      )

  continues-call : (x : Call) (t : History) → Continues t → Continues (history_after protocol x t)
  unfolding history_after serve closed_by past_of
  continues-call x t (since between n p s others e later h) =
      let new : List Past = closed_by (decide protocol x t.state).event t.state t.logs in
      since between n p s (others ++ new)
      (ap (λ (l : List Past). l ++ new) e
      ∙ (append_assoc old (between ++ p ∷ others) new
      ∙ ap (λ (l : List Past). old ++ l) (append_assoc between (p ∷ others) new)))
      later h
  continues-call x t (still c w between n e later h) = go (slot-change protocol t.state t.logs j x)
    where
      new : List Past
      new = closed_by (decide protocol x t.state).event t.state t.logs

      now : Past
      now = record { slot = j; client = c; log = t.logs j }

      closed-past : (decide protocol x t.state).event ≡ closed j → new ≡ now ∷ []
      closed-past v = rw (v, w)

      behind : (l : List Past) → new ≡ l → t.past ++ new ≡ old ++ (between ++ l)
      behind l v = rw (v, e, append_assoc)

      go : SlotChange protocol t.state t.logs j x (decide protocol x t.state)
          → Continues (history_after protocol x t)
      go (vacant f g) = free-not-used _ c f w
      go (closed-now b u g v) = since between n now refl [] (behind (now ∷ []) (closed-past v)) later h
      go (opened-now k f g v) = free-not-used _ c f w
      go (changed b d u g v) =
          let a = queued-by protocol t.state b (t.logs j) v in
          still d g (between ++ new)
          (each_append OfAnother between new n (others-closed t.state t.logs d x _
          (outcome protocol t.state x) g))
          (behind new refl) (later ++ a.messages)
          (a.grown ∙ (ap (λ (l : List Message). l ++ a.messages) h ∙ append_assoc q later a.messages))

  -- Through every later list of calls.
  pub continues : (ys : List Call) (t : History) → Continues t → Continues (history_after_all protocol ys t)
  unfolding history_after_all
  continues [] t h = h
  continues (y ∷ ys) t h = continues ys (history_after protocol y t) (continues-call y t h)

-- What had been queued to a client of the slot j after some calls comes first of all that is ever queued to it.
pub queued-for-ever : (protocol : Protocol) (t : History) (j : ℕ) (c : Client) → slot_at j t.state ≡ used c
    → (ys : List Call) → Continues protocol (t.logs j).queued j t.past (history_after_all protocol ys t)
queued-for-ever protocol t j c w ys =
    continues protocol (t.logs j).queued j t.past ys t
    (still c w [] tt (sym (append-nil t.past)) [] (sym (append-nil (t.logs j).queued)))

-- A step leaves a client where one was.
pub stepped-used : (protocol : Protocol) (st : State) (i : ℕ) (k : Kind) (xs : List Action) (j : ℕ) (d : Client)
    → slot_at j st ≡ used d → (e : Client) × (slot_at j (after_event protocol (stepped i k xs) st) ≡ used e)
unfolding slot_after_event on_client
stepped-used protocol st i k xs j d w =
    let Q : ℕ = st.sizes.queue_room in
    either (eqb j i)
    (λ b. (
      after_step protocol Q true xs st.store (with_transaction off (with_kind k d)),
      slot-after-used protocol (stepped i k xs) st j d w ∙ rw b,
    ))
    (λ b. (after_step protocol Q false xs st.store d, slot-after-used protocol (stepped i k xs) st j d w ∙ rw b))

-- Demand 3: all that a COMMIT owes an open client, if it fits, stands in its order right behind what was queued
-- before, and in front of all that is ever queued to that client later.
pub commit-for-ever : (protocol : Protocol) (t : History) (i : ℕ) (bs : Bytes) (n : ℕ) (k : Kind) (xs : List Action)
    (j : ℕ) (d c : Client) → Speaks protocol t.state i bs n k (command commit) c → c.transaction ≡ begun xs
    → refuses_any t.state.sizes.store_room xs t.state.store c.patterns ≡ false
    → slot_at j t.state ≡ used d → d.shut ≡ false
    → fits_all protocol t.state.sizes.queue_room (owed_by protocol t i bs n k xs j d)
    (during_step protocol t i bs n k xs j d) ≡ true
    → (ys : List Call)
    → Continues protocol ((t.logs j).queued ++ owed_by protocol t i bs n k xs j d) j
    (history_after protocol (feeds i bs) t).past
    (history_after_all protocol ys (history_after protocol (feeds i bs) t))
unfolding history_after serve
commit-for-ever protocol t i bs n k xs j d c sp r f w o fits ys =
    rw ((commit-together protocol t i bs n k xs j d c sp r f w o).all fits)
    at (queued-for-ever protocol (history_after protocol (feeds i bs) t) j _ there ys)
  where
    decided : decide protocol (feeds i bs) t.state ≡ done n [] (stepped i k xs)
    decided =
        feed-commit protocol t.state i bs n k (command commit) c sp xs refl r
        ∙ step-done protocol t.state i bs n k (command commit) c sp xs f

    there : slot_at j (history_after protocol (feeds i bs) t).state
        ≡ used (stepped-used protocol t.state i k xs j d w).0
    there = rw decided (stepped-used protocol t.state i k xs j d w).1
