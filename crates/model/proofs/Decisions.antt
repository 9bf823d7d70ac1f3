-- What each call decides, case by case, as equations: by them the broker's calls are compared with the simple server
-- over the memory's image, and theorems on commits and on single actions cite them.
use mathlib.Core.Path.{◌≡◌, ◌∙◌}
use mathlib.Core.List.{List, [], ◌∷◌, ◌++◌}
use mathlib.Core.Bool.{true, false}
use mathlib.Core.Option.{some, none}
use Prim.Native.Nat.{ℕ, ◌<◌, ◌≤◌}
use lib.ListN.{length}
use borrow.Author.Tests.{lt-ltb, le-ltb, le-leb, lt-leb}
use Rattle.octets.specs.Octets.{Bytes}
use Rattle.protocol.specs.Terms.{Action, begin, commit, plain, Reading, blank, command, invalid, incomplete}
use Rattle.protocol.specs.Terms.{Protocol}
use Rattle.protocol.specs.declared.Kind.{Kind}
use Rattle.protocol.specs.declared.Refusal.{Refusal}
use Rattle.protocol.specs.declared.Refusal.TheVariants.{Room, State as BadState}
use Rattle.model.specs.Step.{refuses_any}
use Rattle.model.specs.Queueing.{Queueing}
use Rattle.model.specs.State.{Opening, Transaction, off, begun, spoiled, after_slip, recording_fits}
use Rattle.model.specs.State.{ClientOf, free, used, StateOf, slot_at}
use Rattle.model.specs.Events.{opened, closed, took, consumed, stepped}
use Rattle.model.specs.Decision.{opens, feeds, takes, closes, unaltered, done, refusal, slip}
use Rattle.model.specs.Feed.{context_of, stays_open, error_fits, decide_refusal, decide_step, decide_command}
use Rattle.model.specs.Feed.{decide_reading, decide_cut, decide_feed}
use Rattle.model.specs.Calls.{opening_of, decide_open_at, decide_open, decide_take_from, decide_take, decide_close}
use Rattle.model.specs.Calls.{decide}
use Rattle.model.proofs.Outcomes.{Speaks}

module _ (protocol : Protocol) {queueing : Queueing} (st : StateOf queueing) where
  -- ---- open

  pub open-no-slot : (i form : ℕ) → st.sizes.slot_count ≤ i → decide protocol (opens i form) st ≡ unaltered 2
  unfolding decide decide_open
  open-no-slot i form h = rw (le-ltb i st.sizes.slot_count h)

  pub open-no-form : (i form : ℕ) → i < st.sizes.slot_count → opening_of form ≡ none
      → decide protocol (opens i form) st ≡ unaltered 8
  unfolding decide decide_open decide_open_at
  open-no-form i form h e = rw (lt-ltb i st.sizes.slot_count h, e)

  pub open-used : (i form : ℕ) (k : Opening) (c : ClientOf queueing) → i < st.sizes.slot_count
      → opening_of form ≡ some k → slot_at i st ≡ used c → decide protocol (opens i form) st ≡ unaltered 4
  unfolding decide decide_open decide_open_at
  open-used i form k c h e w = rw (lt-ltb i st.sizes.slot_count h, e, w)

  pub open_free : (i form : ℕ) (k : Opening) → i < st.sizes.slot_count → opening_of form ≡ some k → slot_at i st ≡ free
      → decide protocol (opens i form) st ≡ done 0 [] (opened i k)
  unfolding decide decide_open decide_open_at
  open_free i form k h e w = rw (lt-ltb i st.sizes.slot_count h, e, w)

  -- ---- feed

  pub feed-free : (i : ℕ) (bs : Bytes) → slot_at i st ≡ free → decide protocol (feeds i bs) st ≡ unaltered 2
  unfolding decide decide_feed
  feed-free i bs w = rw w

  pub feed-shut : (i : ℕ) (bs : Bytes) (c : ClientOf queueing) → slot_at i st ≡ used c → c.shut ≡ true
      → decide protocol (feeds i bs) st ≡ unaltered 3
  unfolding decide decide_feed
  feed-shut i bs c w o = rw (w, o)

  pub feed-incomplete : (i : ℕ) (bs : Bytes) (c : ClientOf queueing) → slot_at i st ≡ used c → c.shut ≡ false
      → protocol.cut c.kind bs ≡ incomplete → decide protocol (feeds i bs) st ≡ unaltered 1
  unfolding decide decide_feed decide_cut
  feed-incomplete i bs c w o e = rw (w, o, e)

  module _ (i : ℕ) (bs : Bytes) (n : ℕ) (k : Kind) (x : Reading) (c : ClientOf queueing)
      (sp : Speaks protocol st i bs n k x c)
    where
      pub feed-whole : decide protocol (feeds i bs) st ≡ decide_reading (context_of protocol st i) n k x c
      unfolding decide decide_feed decide_cut
      feed-whole = rw (sp.at, sp.is_open, sp.cuts)

      pub feed-blank : x ≡ blank → decide protocol (feeds i bs) st ≡ done n [] (consumed i k c.transaction)
      unfolding decide_reading
      feed-blank e = feed-whole ∙ rw e

      pub feed-invalid : (r : Refusal) → x ≡ invalid r → decide protocol (feeds i bs) st
          ≡ decide_refusal (context_of protocol st i) n k c r (after_slip c.transaction)
      unfolding decide_reading
      feed-invalid r e = feed-whole ∙ rw e

      pub feed-begin : x ≡ command begin → c.transaction ≡ off
          → decide protocol (feeds i bs) st ≡ done n [] (consumed i k (begun []))
      unfolding decide_reading decide_command
      feed-begin e r = feed-whole ∙ rw (e, r)

      pub feed-begin-again : (xs : List Action) → x ≡ command begin → c.transaction ≡ begun xs
          → decide protocol (feeds i bs) st ≡ decide_refusal (context_of protocol st i) n k c BadState spoiled
      unfolding decide_reading decide_command
      feed-begin-again xs e r = feed-whole ∙ rw (e, r)

      pub feed-begin-spoiled : x ≡ command begin → c.transaction ≡ spoiled
          → decide protocol (feeds i bs) st ≡ decide_refusal (context_of protocol st i) n k c BadState spoiled
      unfolding decide_reading decide_command
      feed-begin-spoiled e r = feed-whole ∙ rw (e, r)

      -- "COMMIT gives 103, does nothing and ends the transaction"
      pub feed-commit-spoiled : x ≡ command commit → c.transaction ≡ spoiled
          → decide protocol (feeds i bs) st ≡ decide_refusal (context_of protocol st i) n k c BadState off
      unfolding decide_reading decide_command
      feed-commit-spoiled e r = feed-whole ∙ rw (e, r)

      -- "later good commands get 0 and do nothing"
      pub feed-spoiled : (a : Action) → x ≡ command (plain a) → c.transaction ≡ spoiled
          → decide protocol (feeds i bs) st ≡ done n [] (consumed i k spoiled)
      unfolding decide_reading decide_command
      feed-spoiled a e r = feed-whole ∙ rw (e, r)

      pub feed-commit-none : x ≡ command commit → c.transaction ≡ off
          → decide protocol (feeds i bs) st ≡ done n [] (consumed i k off)
      unfolding decide_reading decide_command
      feed-commit-none e r = feed-whole ∙ rw (e, r)

      pub feed-recorded : (a : Action) (xs : List Action) → x ≡ command (plain a) → c.transaction ≡ begun xs
          → recording_fits st.sizes.record_room (xs ++ (a ∷ [])) ≡ true
          → decide protocol (feeds i bs) st ≡ done n [] (consumed i k (begun (xs ++ (a ∷ []))))
      unfolding decide_reading decide_command
      feed-recorded a xs e r f = feed-whole ∙ rw (e, r, f)

      pub feed-record-full : (a : Action) (xs : List Action) → x ≡ command (plain a) → c.transaction ≡ begun xs
          → recording_fits st.sizes.record_room (xs ++ (a ∷ [])) ≡ false
          → decide protocol (feeds i bs) st ≡ refusal n i k Room
      unfolding decide_reading decide_command
      feed-record-full a xs e r f = feed-whole ∙ rw (e, r, f)

      -- ---- a refusal

      pub refusal-shuts : (r : Refusal) (t : Transaction) → stays_open k c.hangs_up r ≡ false
          → decide_refusal (context_of protocol st i) n k c r t ≡ refusal n i k r
      unfolding decide_refusal
      refusal-shuts r t e = rw e

      pub refusal-stays : (r : Refusal) (t : Transaction) → stays_open k c.hangs_up r ≡ true
          → error_fits (context_of protocol st i) k c r ≡ true
          → decide_refusal (context_of protocol st i) n k c r t ≡ slip n i k r t
      unfolding decide_refusal
      refusal-stays r t e f = rw (e, f)

      pub refusal-full : (r : Refusal) (t : Transaction) → stays_open k c.hangs_up r ≡ true
          → error_fits (context_of protocol st i) k c r ≡ false
          → decide_refusal (context_of protocol st i) n k c r t ≡ refusal n i k Room
      unfolding decide_refusal
      refusal-full r t e f = rw (e, f)

      -- ---- a step

      -- a single action is a step of its own
      pub feed-action : (a : Action) → x ≡ command (plain a) → c.transaction ≡ off
          → decide protocol (feeds i bs) st ≡ decide_step (context_of protocol st i) n k c (a ∷ [])
      unfolding decide_reading decide_command
      feed-action a e r = feed-whole ∙ rw (e, r)

      -- a commit is one step of the recorded actions
      pub feed-commit : (xs : List Action) → x ≡ command commit → c.transaction ≡ begun xs
          → decide protocol (feeds i bs) st ≡ decide_step (context_of protocol st i) n k c xs
      unfolding decide_reading decide_command
      feed-commit xs e r = feed-whole ∙ rw (e, r)

      pub step-done : (xs : List Action) → refuses_any st.sizes.store_room xs st.store c.patterns ≡ false
          → decide_step (context_of protocol st i) n k c xs ≡ done n [] (stepped i k xs)
      unfolding decide_step
      step-done xs f = rw f

      pub step-refused : (xs : List Action) → refuses_any st.sizes.store_room xs st.store c.patterns ≡ true
          → decide_step (context_of protocol st i) n k c xs ≡ refusal n i k Room
      unfolding decide_step
      step-refused xs f = rw f

  -- ---- take

  pub take-free : (i len : ℕ) → slot_at i st ≡ free → decide protocol (takes i len) st ≡ unaltered 2
  unfolding decide decide_take
  take-free i len w = rw w

  pub take-empty : (i len : ℕ) (c : ClientOf queueing) → slot_at i st ≡ used c → queueing.first c.queue ≡ none
      → decide protocol (takes i len) st ≡ unaltered 6
  unfolding decide decide_take decide_take_from
  take-empty i len c w e = rw (w, e)

  pub take_short : (i len : ℕ) (c : ClientOf queueing) (m : Bytes) → slot_at i st ≡ used c
      → queueing.first c.queue ≡ some m → len < length m → decide protocol (takes i len) st ≡ unaltered 5
  unfolding decide decide_take decide_take_from
  take_short i len c m w e h = rw (w, e, lt-leb (length m) len h)

  pub take-first : (i len : ℕ) (c : ClientOf queueing) (m : Bytes) → slot_at i st ≡ used c
      → queueing.first c.queue ≡ some m → length m ≤ len
      → decide protocol (takes i len) st ≡ done (length m) m (took i)
  unfolding decide decide_take decide_take_from
  take-first i len c m w e h = rw (w, e, le-leb (length m) len h)

  -- ---- close

  pub close-free : (i : ℕ) → slot_at i st ≡ free → decide protocol (closes i) st ≡ unaltered 2
  unfolding decide decide_close
  close-free i w = rw w

  pub close-used : (i : ℕ) (c : ClientOf queueing) → slot_at i st ≡ used c
      → decide protocol (closes i) st ≡ done 0 [] (closed i)
  unfolding decide decide_close
  close-used i c w = rw w
