-- Set up answered 0 gives the empty server, and an open answered 0 a client with nothing of the slot's last one.
use mathlib.Core.Path.{◌≡◌, refl}
use mathlib.Core.List.{[]}
use mathlib.Core.Bool.{true, false}
use mathlib.Core.Option.{some, none}
use Prim.Native.Nat.{ℕ, ◌<◌}
use native.Mathlib.Omega.{arith}
use lib.ListN.{length}
use lib.Seq.{get_or-set_same}
use borrow.Author.Tests.{eq-eqb}
use Rattle.protocol.specs.Terms.{Protocol}
use Rattle.model.specs.State.{Sizes, in_range, Slot, free, used, State, empty_server, empty_state, slot_at}
use Rattle.model.specs.State.{set_up_answer, set_up}
use Rattle.model.specs.State.{Opening, new_client}
use Rattle.model.specs.Events.{opened}
use Rattle.model.specs.Decision.{opens, Decision, done}
use Rattle.model.specs.Calls.{opening_of, decide, serve}
use Rattle.model.specs.Log.{new_log, log_after_event, log_given}
use Rattle.model.specs.History.{History, history_after}
use Rattle.model.proofs.Slots.{slot_at-empty}
use Rattle.model.proofs.Outcomes.{Outcome, turned-away, opening}
use Rattle.model.proofs.Outcomes.{outcome}
use Rattle.model.proofs.NextStates.{with_slot, after-opened}

-- ---- set up

-- what set up leaves: every slot free, the store empty, these sizes
pub record Empty (z : Sizes) (st : State) : Type 0 where
  pub sizes-given : st.sizes ≡ z
  pub no-entries : st.store ≡ []
  pub all-free : (j : ℕ) → slot_at j st ≡ free

pub empty-empty_server : (z : Sizes) → Empty z (empty_server z)
unfolding empty_state
empty-empty_server z = record { sizes-given = refl; no-entries = refl; all-free = slot_at-empty z }

-- Set up is answered 0 exactly when every size is in range, and then leaves the empty server.
pub set_up-in-range : (z : Sizes) → in_range z ≡ true → (set_up_answer z ≡ 0) × (set_up z ≡ some (empty_server z))
unfolding set_up_answer set_up
set_up-in-range z h = (rw h, rw h)

-- Otherwise it is answered 8 and leaves no state.
pub set_up-out-of-range : (z : Sizes) → in_range z ≡ false → (set_up_answer z ≡ 8) × (set_up z ≡ none)
unfolding set_up_answer set_up
set_up-out-of-range z h = (rw h, rw h)

-- ---- open

module _ (protocol : Protocol) where
  -- an open answered 0: the slot was free and has a new client of the form, with a new log
  pub record OpenedNew (t : History) (i form : ℕ) : Type 0 where
    pub asked : Opening
    pub of-form : opening_of form ≡ some asked
    pub was_free : slot_at i t.state ≡ free
    pub client-new : slot_at i (history_after protocol (opens i form) t).state ≡ used (new_client asked)
    pub log-new : (history_after protocol (opens i form) t).logs i ≡ new_log

  slot_at-with_slot : (i : ℕ) (x : Slot) (st : State) → i < length st.slots → slot_at i (with_slot i x st) ≡ x
  unfolding slot_at with_slot
  slot_at-with_slot i x st h = get_or-set_same st.slots i x free h

  opened-slot : (t : History) (i form : ℕ) (k : Opening) → i < length t.state.slots → opening_of form ≡ some k
      → slot_at i t.state ≡ free → decide protocol (opens i form) t.state ≡ done 0 [] (opened i k)
      → OpenedNew t i form
  unfolding history_after serve log_given log_after_event
  opened-slot t i form k h e w d =
      record {
        asked = k;
        of-form = e;
        was_free = w;
        client-new =
            rw (d, after-opened protocol t.state i k) (slot_at-with_slot i (used (new_client k)) t.state h);
        log-new = rw (d, eq-eqb i i refl);
      }

  -- A slot opened anew has nothing of its last client: not its form, no patterns, no transaction, no message, and
  -- nothing of its history.
  pub opened-new : (t : History) → length t.state.slots ≡ t.state.sizes.slot_count → (i form : ℕ)
      → (serve protocol (opens i form) t.state).reply.answer ≡ 0 → OpenedNew t i form
  unfolding serve
  opened-new t n i form a = go (outcome protocol t.state (opens i form)) a refl
    where
      go : {d : Decision} → Outcome protocol t.state (opens i form) d → d.reply.answer ≡ 0
          → decide protocol (opens i form) t.state ≡ d → OpenedNew t i form
      go (turned-away _ m p q u) z e = absurd (omega arith)
      go (opening _ _ k h f w) z e = opened-slot t i form k (omega arith) f w e
