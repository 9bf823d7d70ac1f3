-- Induction over a list of calls: what every change keeps of a client and its log holds of every client, also of
-- those since closed.
use mathlib.Core.Path.{◌≡◌, refl}
use mathlib.Core.List.{List, [], ◌∷◌}
use Prim.Native.Nat.{ℕ}
use native.Mathlib.Omega.{arith}
use Rattle.protocol.specs.Terms.{Protocol}
use Rattle.model.specs.Store.{Store}
use Rattle.model.specs.State.{Sizes, Opening, Client, Slot, free, used, State, empty_server, slot_at, new_client}
use Rattle.model.specs.Decision.{Call, Decision}
use Rattle.model.specs.Calls.{decide, serve, after_calls}
use Rattle.model.specs.Log.{Log, new_log}
use Rattle.model.specs.History.{Past, History, past_of, closed_by, history_after, history_after_all, history_of}
use Rattle.model.specs.Invariant.{Each}
use Rattle.model.proofs.Slots.{slot_at-empty}
use Rattle.model.proofs.Subscriptions.{each_append}
use Rattle.model.proofs.Outcomes.{Outcome, turned-away, opening, consuming, refusing, slipping, running, giving}
use Rattle.model.proofs.Outcomes.{closing, outcome}
use Rattle.model.proofs.Changes.{Change, SlotChange, vacant, closed-now, opened-now, changed, slot-change}

-- a slot is not free and used at once
pub free-not-used {ℓ} : {C : Type ℓ} (x : Slot) (c : Client) → x ≡ free → x ≡ used c → C
free-not-used x c e w = let z : ◌≡◌ {A = ℕ} 0 1 = cc in absurd (omega arith)

-- what may be said of a client with the store and its log, and of a client since closed with its log
abbrev pub OfClient : Type 1
OfClient = Store → Client → Log → Type 0

abbrev pub OfPast : Type 1
OfPast = Client → Log → Type 0

module _ (protocol : Protocol) where
  -- ---- the history leaves the server alone

  pub history_after_all-state : (xs : List Call) (t : History)
      → (history_after_all protocol xs t).state ≡ after_calls protocol xs t.state
  unfolding history_after_all history_after after_calls
  history_after_all-state [] t = refl
  history_after_all-state (x ∷ xs) t = history_after_all-state xs (history_after protocol x t)

  -- The history never changes what the server does.
  pub history_of-state : (z : Sizes) (xs : List Call)
      → (history_of protocol z xs).state ≡ after_calls protocol xs (empty_server z)
  unfolding history_of
  history_of-state z xs = history_after_all-state xs _

  -- ---- the induction

  -- P holds of every client in a slot, with the store and its log; R of every client since closed
  pub record Always (P : OfClient) (R : OfPast) (t : History) : Type 0 where
    pub now : (j : ℕ) (c : Client) → slot_at j t.state ≡ used c → P t.state.store c (t.logs j)
    pub since-closed : Each (λ p. R p.client p.log) t.past

  -- what the calls keep: G of the state, P of a client, and P gives R when the client is closed
  pub record Preserved (G : State → Type 0) (P : OfClient) (R : OfPast) : Type 0 where
    pub state-next : (st : State) (x : Call) → G st → G (serve protocol x st).next
    pub client-new : (s : Store) (o : Opening) → P s (new_client o) new_log
    pub client-next : (st : State) → G st → (j : ℕ) (c : Client) (l : Log) → slot_at j st ≡ used c → P st.store c l
        → {x : Call} {s : Store} {d : Client} {m : Log} → Change protocol st c l x s d m → P s d m
    pub client-closed : (s : Store) (c : Client) (l : Log) → P s c l → R c l

  module _ (G : State → Type 0) (P : OfClient) (R : OfPast) (keeps : Preserved G P R) where
    abbrev Closed : Past → Type 0
    Closed p = R p.client p.log

    now-after : (x : Call) (t : History) → G t.state → Always P R t → (j : ℕ) (d : Client)
        → slot_at j (history_after protocol x t).state ≡ used d
        → SlotChange protocol t.state t.logs j x (decide protocol x t.state)
        → P (history_after protocol x t).state.store d ((history_after protocol x t).logs j)
    unfolding history_after serve
    now-after x t g a j d w (vacant v e) = free-not-used _ d e w
    now-after x t g a j d w (closed-now c v e h) = free-not-used _ d e w
    now-after x t g a j d w (opened-now k v e l) = let h : d ≡ new_client k = cc in rw (h, l) (keeps.client-new _ k)
    now-after x t g a j d w (changed c b v e h) =
        let q : d ≡ b = cc in rw q (keeps.client-next t.state g j c (t.logs j) v (a.now j c v) h)

    closed_after : (t : History) → Always P R t → (x : Call) (d : Decision) → Outcome protocol t.state x d
        → Each Closed (closed_by d.event t.state t.logs)
    unfolding closed_by past_of
    closed_after t a x d (turned-away _ n p q u) = tt
    closed_after t a x d (opening i form k h e w) = tt
    closed_after t a x d (consuming i bs n k y c r sp rec) = tt
    closed_after t a x d (refusing i bs n k y c r sp why shuts) = tt
    closed_after t a x d (slipping i bs n k y c r b sp why stays fits left) = tt
    closed_after t a x d (running i bs n k y c xs sp run ok) = tt
    closed_after t a x d (giving i len c m w q h) = tt
    closed_after t a x d (closing i c w) =
        rw w (keeps.client-closed t.state.store c (t.logs i) (a.now i c w), tt)

    always-call : (x : Call) (t : History) → G t.state → Always P R t → Always P R (history_after protocol x t)
    unfolding history_after
    always-call x t g a =
        record {
          now = λ j d w. now-after x t g a j d w (slot-change protocol t.state t.logs j x);
          since-closed =
              each_append Closed t.past _ a.since-closed
              (closed_after t a x (decide protocol x t.state) (outcome protocol t.state x));
        }

    pub always-calls : (xs : List Call) (t : History) → G t.state → Always P R t
        → Always P R (history_after_all protocol xs t)
    unfolding history_after_all history_after
    always-calls [] t g a = a
    always-calls (x ∷ xs) t g a =
        always-calls xs (history_after protocol x t) (keeps.state-next t.state x g) (always-call x t g a)

    -- What every call keeps holds after every list of calls from a set up answered 0.
    pub always : (z : Sizes) (xs : List Call) → G (empty_server z) → Always P R (history_of protocol z xs)
    unfolding history_of
    always z xs g =
        always-calls xs _ g
        (record {
          now = λ j c w. free-not-used (slot_at j (empty_server z)) c (slot_at-empty z j) w;
          since-closed = tt;
        })
