-- What can become of a whole message of a client: it has no effect but on the transaction, it is refused and its client
-- shut or left open, or it runs as one step.
use mathlib.Core.Path.{◌≡◌, refl}
use mathlib.Core.List.{List, [], ◌∷◌, ◌++◌}
use Prim.Native.Nat.{ℕ}
use Rattle.protocol.specs.Terms.{Action, Command, begin, commit, plain, Reading, blank, command, invalid}
use Rattle.protocol.specs.declared.Kind.{Kind}
use Rattle.protocol.specs.declared.Refusal.{Refusal}
use Rattle.protocol.specs.declared.Refusal.TheVariants.{Room, State as BadState}
use Rattle.model.specs.Step.{refuses_any}
use Rattle.model.specs.Queueing.{Queueing}
use Rattle.model.specs.State.{Transaction, off, begun, spoiled, after_slip, ClientOf, recording_fits}
use Rattle.model.specs.Events.{consumed, stepped}
use Rattle.model.specs.Decision.{Decision, done, refusal, slip}
use Rattle.model.specs.Feed.{
  Context,
  stays_open,
  error_fits,
  decide_refusal,
  decide_step,
  decide_command,
  decide_reading,
}
use Rattle.model.proofs.Tests.{by-test}

-- a decision of a message of n bytes in slot i that fixes the kind k
pub data Judged (i n : ℕ) (k : Kind) : Decision → Type 0 where
  is-consumed : (t : Transaction) → Judged i n k (done n [] (consumed i k t))
  is-refused : (r : Refusal) → Judged i n k (refusal n i k r)
  is-slipped : (r : Refusal) (t : Transaction) → Judged i n k (slip n i k r t)
  is-stepped : (xs : List Action) → Judged i n k (done n [] (stepped i k xs))

module _ {queueing : Queueing} (x : Context) (n : ℕ) (k : Kind) where
  pub judged-refusal : (c : ClientOf queueing) (r : Refusal) (t : Transaction)
      → Judged x.slot n k (decide_refusal x n k c r t)
  unfolding decide_refusal
  judged-refusal c r t =
      by-test (Judged x.slot n k) (stays_open k c.hangs_up r)
      (λ stays. by-test (Judged x.slot n k) (error_fits x k c r) (λ fits. is-slipped r t) (λ full. is-refused Room))
      (λ shuts. is-refused r)

  judged-step : (c : ClientOf queueing) (xs : List Action) → Judged x.slot n k (decide_step x n k c xs)
  unfolding decide_step
  judged-step c xs =
      by-test (Judged x.slot n k) (refuses_any x.sizes.store_room xs x.store c.patterns)
      (λ e. is-refused Room) (λ e. is-stepped xs)

  judged-command : (c : ClientOf queueing) (a : Command) (t : Transaction)
      → Judged x.slot n k (decide_command x n k c a t)
  unfolding decide_command
  judged-command c begin off = is-consumed (begun [])
  judged-command c begin (begun xs) = judged-refusal c BadState spoiled
  judged-command c begin spoiled = judged-refusal c BadState spoiled
  judged-command c commit off = is-consumed off
  judged-command c commit (begun xs) = judged-step c xs
  judged-command c commit spoiled = judged-refusal c BadState off
  judged-command c (plain a) off = judged-step c (a ∷ [])
  judged-command c (plain a) (begun xs) =
      by-test (Judged x.slot n k) (recording_fits x.sizes.record_room (xs ++ (a ∷ [])))
      (λ e. is-consumed (begun (xs ++ (a ∷ [])))) (λ e. is-refused Room)
  judged-command c (plain a) spoiled = is-consumed spoiled

  pub judged-reading : (r : Reading) (c : ClientOf queueing) → Judged x.slot n k (decide_reading x n k r c)
  unfolding decide_reading
  judged-reading blank c = is-consumed c.transaction
  judged-reading (command a) c = judged-command c a c.transaction
  judged-reading (invalid r) c = judged-refusal c r (after_slip c.transaction)

-- all that the decision of a message of the kind k looks at in a client, beside the transaction
pub record Alike {A B : Queueing} (x : Context) (k : Kind) (c : ClientOf A) (d : ClientOf B) : Type 0 where
  pub same-patterns : c.patterns ≡ d.patterns
  pub same-form : c.hangs_up ≡ d.hangs_up
  pub same-room : (r : Refusal) → error_fits x k c r ≡ error_fits x k d r

module _ {A B : Queueing} (x : Context) (n : ℕ) (k : Kind) (c : ClientOf A) (d : ClientOf B)
    (e : Alike x k c d) where
  pub refusal-alike : (r : Refusal) (t : Transaction) → decide_refusal x n k c r t ≡ decide_refusal x n k d r t
  unfolding decide_refusal
  refusal-alike r t = rw (e.same-room r, e.same-form)

  step-alike : (xs : List Action) → decide_step x n k c xs ≡ decide_step x n k d xs
  unfolding decide_step
  step-alike xs = rw e.same-patterns

  pub command-alike : (a : Command) (t : Transaction) → decide_command x n k c a t ≡ decide_command x n k d a t
  unfolding decide_command
  command-alike begin off = refl
  command-alike begin (begun xs) = refusal-alike BadState spoiled
  command-alike begin spoiled = refusal-alike BadState spoiled
  command-alike commit off = refl
  command-alike commit (begun xs) = step-alike xs
  command-alike commit spoiled = refusal-alike BadState off
  command-alike (plain a) off = step-alike (a ∷ [])
  command-alike (plain a) (begun xs) = refl
  command-alike (plain a) spoiled = refl
