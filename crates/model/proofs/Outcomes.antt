-- What a call can come to, with all that was tested on the way. Each theorem on calls goes by these cases.
use mathlib.Core.Path.{◌≡◌, refl}
use mathlib.Core.List.{List, [], ◌∷◌, ◌++◌}
use mathlib.Core.Bool.{Bool, true, false, and-false}
use mathlib.Core.Option.{Option, some, none}
use Prim.Native.Nat.{ℕ, ◌<◌, ◌≤◌}
use native.Mathlib.Omega.{arith}
use lib.Dec.{leb, ltb}
use lib.ListN.{length}
use borrow.Author.Tests.{leb-true, ltb-true}
use Rattle.octets.specs.Octets.{Bytes}
use Rattle.protocol.specs.Terms.{Action, Command, begin, commit, plain, Reading, blank, command, invalid}
use Rattle.protocol.specs.Terms.{Cut, incomplete, whole, Protocol}
use Rattle.protocol.specs.declared.Kind.{Kind}
use Rattle.protocol.specs.declared.Refusal.{Refusal}
use Rattle.protocol.specs.declared.Refusal.TheVariants.{Room, State as BadState}
use Rattle.model.specs.Step.{refuses_any}
use Rattle.model.specs.Queueing.{Queueing}
use Rattle.model.specs.State.{Opening, Transaction, off, begun, spoiled, is_on, after_slip}
use Rattle.model.specs.State.{ClientOf, SlotOf, free, used, StateOf, slot_at, recording_fits}
use Rattle.model.specs.Events.{opened, closed, took, consumed, stepped}
use Rattle.model.specs.Decision.{Call, opens, feeds, takes, closes, Decision, unaltered, done, refusal, slip}
use Rattle.model.specs.Feed.{context_of, forgives, stays_open, error_fits, decide_refusal, decide_step}
use Rattle.model.specs.Feed.{decide_command, decide_reading, decide_cut, decide_feed}
use Rattle.model.specs.Calls.{opening_of, decide_open_at, decide_open, decide_take_from, decide_take, decide_close}
use Rattle.model.specs.Calls.{decide}
use Rattle.model.specs.Refusals.{Spoils, by-invalid, by-begin, by-commit}
use Rattle.model.proofs.Tests.{by-test}

-- the actions that a message makes run, from what was recorded before it
pub data Runs : Reading → Transaction → List Action → Type 0 where
  at_once : (a : Action) → Runs (command (plain a)) off (a ∷ [])
  committed : (xs : List Action) → Runs (command commit) (begun xs) xs

-- the transaction before and after a message that has no other effect, with record room R
pub data Records (R : ℕ) : Reading → Transaction → Transaction → Type 0 where
  blank-line : (t : Transaction) → Records R blank t t
  beginning : Records R (command begin) off (begun [])
  nothing-to-commit : Records R (command commit) off off
  recorded : (a : Action) (xs : List Action) → recording_fits R (xs ++ (a ∷ [])) ≡ true
      → Records R (command (plain a)) (begun xs) (begun (xs ++ (a ∷ [])))
  does-nothing : (a : Action) → Records R (command (plain a)) spoiled spoiled

-- 102 leaves no client open
pub room-shuts : (k : Kind) (hangs_up : Bool) → stays_open k hangs_up Room ≡ false
room-shuts k hangs_up = and-false (forgives k hangs_up)

module _ (protocol : Protocol) {queueing : Queueing} (st : StateOf queueing) where
  -- the open client c in slot i says a whole message of n bytes, which reads so and fixes the kind k
  pub record Speaks (i : ℕ) (bs : Bytes) (n : ℕ) (k : Kind) (x : Reading) (c : ClientOf queueing) : Type 0 where
    pub at : slot_at i st ≡ used c
    pub is_open : c.shut ≡ false
    pub cuts : protocol.cut c.kind bs ≡ whole n k x

  -- why a message is refused
  pub data RefusalCause (c : ClientOf queueing) : Reading → Refusal → Type 0 where
    not_valid : (r : Refusal) → RefusalCause c (invalid r) r
    begun-before : is_on c.transaction ≡ true → RefusalCause c (command begin) BadState
    spoiled-before : c.transaction ≡ spoiled → RefusalCause c (command commit) BadState
    no-record-room : (a : Action) (xs : List Action) → c.transaction ≡ begun xs
        → recording_fits st.sizes.record_room (xs ++ (a ∷ [])) ≡ false → RefusalCause c (command (plain a)) Room
    refused-at-turn : (x : Reading) (xs : List Action) → Runs x c.transaction xs
        → refuses_any st.sizes.store_room xs st.store c.patterns ≡ true → RefusalCause c x Room
    -- the ERROR of another refusal, in the kind k, does not fit
    no-error-room : (i : ℕ) (k : Kind) (x : Reading) (r : Refusal) → RefusalCause c x r
        → error_fits (context_of protocol st i) k c r ≡ false → RefusalCause c x Room

  pub data Outcome : Call → Decision → Type 0 where
    turned-away : (x : Call) (n : ℕ) → 1 ≤ n → n ≤ 8 → (n ≡ 7 → ⊥) → Outcome x (unaltered n)
    opening : (i form : ℕ) (o : Opening) → i < st.sizes.slot_count → opening_of form ≡ some o → slot_at i st ≡ free
        → Outcome (opens i form) (done 0 [] (opened i o))
    consuming : (i : ℕ) (bs : Bytes) (n : ℕ) (k : Kind) (x : Reading) (c : ClientOf queueing)
        (r : Transaction) → Speaks i bs n k x c → Records st.sizes.record_room x c.transaction r
        → Outcome (feeds i bs) (done n [] (consumed i k r))
    refusing : (i : ℕ) (bs : Bytes) (n : ℕ) (k : Kind) (x : Reading) (c : ClientOf queueing) (r : Refusal)
        → Speaks i bs n k x c → RefusalCause c x r → stays_open k c.hangs_up r ≡ false
        → Outcome (feeds i bs) (refusal n i k r)
    slipping : (i : ℕ) (bs : Bytes) (n : ℕ) (k : Kind) (x : Reading) (c : ClientOf queueing) (r : Refusal)
        (t : Transaction) → Speaks i bs n k x c → RefusalCause c x r → stays_open k c.hangs_up r ≡ true
        → error_fits (context_of protocol st i) k c r ≡ true → Spoils x c.transaction t
        → Outcome (feeds i bs) (slip n i k r t)
    running : (i : ℕ) (bs : Bytes) (n : ℕ) (k : Kind) (x : Reading) (c : ClientOf queueing) (xs : List Action)
        → Speaks i bs n k x c → Runs x c.transaction xs
        → refuses_any st.sizes.store_room xs st.store c.patterns ≡ false
        → Outcome (feeds i bs) (done n [] (stepped i k xs))
    giving : (i len : ℕ) (c : ClientOf queueing) (m : Bytes) → slot_at i st ≡ used c
        → queueing.first c.queue ≡ some m → length m ≤ len → Outcome (takes i len) (done (length m) m (took i))
    closing : (i : ℕ) (c : ClientOf queueing) → slot_at i st ≡ used c → Outcome (closes i) (done 0 [] (closed i))

  module _ (i : ℕ) (bs : Bytes) where
    abbrev Feeding : Decision → Type 0
    Feeding o = Outcome (feeds i bs) o

    module _ (n : ℕ) (k : Kind) (x : Reading) (c : ClientOf queueing) (w : Speaks i bs n k x c) where
      -- a message that is refused with 102
      by-room : RefusalCause c x Room → Feeding (refusal n i k Room)
      by-room why = refusing i bs n k x c Room w why (room-shuts k c.hangs_up)

      by-refusal : (r : Refusal) → RefusalCause c x r → (t : Transaction) → Spoils x c.transaction t
          → Feeding (decide_refusal (context_of protocol st i) n k c r t)
      unfolding decide_refusal
      by-refusal r why t left =
          by-test Feeding (stays_open k c.hangs_up r)
          (λ stays. by-test Feeding (error_fits (context_of protocol st i) k c r)
          (λ fits. slipping i bs n k x c r t w why stays fits left)
          (λ full. by-room (no-error-room i k x r why full)))
          (λ shuts. refusing i bs n k x c r w why shuts)

      by-step : (xs : List Action) → Runs x c.transaction xs
          → Feeding (decide_step (context_of protocol st i) n k c xs)
      unfolding decide_step
      by-step xs r =
          by-test Feeding (refuses_any st.sizes.store_room xs st.store c.patterns)
          (λ e. by-room (refused-at-turn x xs r e))
          (λ e. running i bs n k x c xs w r e)

    by-command : (n : ℕ) (k : Kind) (x : Command) (c : ClientOf queueing) → Speaks i bs n k (command x) c
        → (r : Transaction) → c.transaction ≡ r
        → Feeding (decide_command (context_of protocol st i) n k c x r)
    unfolding decide_command
    by-command n k begin c w off e = consuming i bs n k (command begin) c (begun []) w (rw e beginning)
    by-command n k begin c w (begun xs) e =
        by-refusal n k (command begin) c w BadState (begun-before (rw e)) spoiled (rw e (by-begin (begun xs)))
    by-command n k begin c w spoiled e =
        by-refusal n k (command begin) c w BadState (begun-before (rw e)) spoiled (rw e (by-begin spoiled))
    by-command n k commit c w off e = consuming i bs n k (command commit) c off w (rw e nothing-to-commit)
    by-command n k commit c w (begun xs) e = by-step n k (command commit) c w xs (rw e (committed xs))
    by-command n k commit c w spoiled e =
        by-refusal n k (command commit) c w BadState (spoiled-before e) off (rw e by-commit)
    by-command n k (plain a) c w off e = by-step n k (command (plain a)) c w (a ∷ []) (rw e (at_once a))
    by-command n k (plain a) c w (begun xs) e =
        by-test Feeding (recording_fits st.sizes.record_room (xs ++ (a ∷ [])))
        (λ t. consuming i bs n k (command (plain a)) c (begun (xs ++ (a ∷ []))) w (rw e (recorded a xs t)))
        (λ t. by-room n k (command (plain a)) c w (no-record-room a xs e t))
    by-command n k (plain a) c w spoiled e =
        consuming i bs n k (command (plain a)) c spoiled w (rw e (does-nothing a))

    by-reading : (n : ℕ) (k : Kind) (x : Reading) (c : ClientOf queueing) → Speaks i bs n k x c
        → Feeding (decide_reading (context_of protocol st i) n k x c)
    unfolding decide_reading
    by-reading n k blank c w = consuming i bs n k blank c _ w (blank-line c.transaction)
    by-reading n k (command x) c w = by-command n k x c w c.transaction refl
    by-reading n k (invalid r) c w =
        by-refusal n k (invalid r) c w r (not_valid r) (after_slip c.transaction) (by-invalid r c.transaction)

    by-cut : (c : ClientOf queueing) → slot_at i st ≡ used c → c.shut ≡ false → (x : Cut)
        → protocol.cut c.kind bs ≡ x
        → Feeding (decide_cut (context_of protocol st i) x c)
    unfolding decide_cut
    by-cut c w o incomplete e = turned-away _ 1 (omega arith) (omega arith) (omega arith)
    by-cut c w o (whole n k r) e = by-reading n k r c (record { at = w; is_open = o; cuts = e })

    by-feed : (x : SlotOf queueing) → slot_at i st ≡ x → Feeding (decide_feed (context_of protocol st i) bs x)
    unfolding decide_feed
    by-feed free w = turned-away _ 2 (omega arith) (omega arith) (omega arith)
    by-feed (used c) w =
        by-test Feeding c.shut
        (λ e. turned-away _ 3 (omega arith) (omega arith) (omega arith))
        (λ e. by-cut c w e (protocol.cut c.kind bs) refl)

  by_first : (i len : ℕ) (c : ClientOf queueing) → slot_at i st ≡ used c → (m : Option Bytes)
      → queueing.first c.queue ≡ m → Outcome (takes i len) (decide_take_from i len m)
  unfolding decide_take_from
  by_first i len c w none e = turned-away _ 6 (omega arith) (omega arith) (omega arith)
  by_first i len c w (some m) e =
      by-test (Outcome (takes i len)) (leb (length m) len)
      (λ t. giving i len c m w e (leb-true _ _ t)) (λ t. turned-away _ 5 (omega arith) (omega arith) (omega arith))

  by-take : (i len : ℕ) (x : SlotOf queueing) → slot_at i st ≡ x → Outcome (takes i len) (decide_take i len x)
  unfolding decide_take
  by-take i len free w = turned-away _ 2 (omega arith) (omega arith) (omega arith)
  by-take i len (used c) w = by_first i len c w (queueing.first c.queue) refl

  by-close : (i : ℕ) (x : SlotOf queueing) → slot_at i st ≡ x → Outcome (closes i) (decide_close i x)
  unfolding decide_close
  by-close i free w = turned-away _ 2 (omega arith) (omega arith) (omega arith)
  by-close i (used c) w = closing i c w

  by-open : (i form : ℕ) → i < st.sizes.slot_count → (k : Option Opening) → opening_of form ≡ k
      → (x : SlotOf queueing) → slot_at i st ≡ x → Outcome (opens i form) (decide_open_at i k x)
  unfolding decide_open_at
  by-open i form h none e x w = turned-away _ 8 (omega arith) (omega arith) (omega arith)
  by-open i form h (some k) e free w = opening i form k h e w
  by-open i form h (some k) e (used c) w = turned-away _ 4 (omega arith) (omega arith) (omega arith)

  -- Every call comes to one of these.
  pub outcome : (x : Call) → Outcome x (decide protocol x st)
  unfolding decide decide_open
  outcome (opens i form) =
      by-test (Outcome (opens i form)) (ltb i st.sizes.slot_count)
      (λ e. by-open i form (ltb-true _ _ e) (opening_of form) refl (slot_at i st) refl)
      (λ e. turned-away _ 2 (omega arith) (omega arith) (omega arith))
  outcome (feeds i bs) = by-feed i bs (slot_at i st) refl
  outcome (takes i len) = by-take i len (slot_at i st) refl
  outcome (closes i) = by-close i (slot_at i st) refl
