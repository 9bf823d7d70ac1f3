-- The laws of a queue: charges of messages in two parts, and what a step makes of an open client.
use mathlib.Core.Path.{◌≡◌, refl, sym}
use mathlib.Core.List.{List, [], ◌∷◌, ◌++◌, append-nil}
use mathlib.Core.Bool.{Bool, true, false}
use Prim.Native.Nat.{ℕ, ◌+◌, ◌≤◌}
use native.Mathlib.Nat.{zero-add}
use native.Mathlib.Omega.{arith}
use borrow.Author.Tests.{leb-true, le-leb}
use Rattle.octets.specs.Octets.{Bytes}
use Rattle.protocol.specs.Terms.{Action, Message, error, Protocol}
use Rattle.protocol.specs.declared.Kind.{Kind}
use Rattle.protocol.specs.declared.Refusal.TheVariants.{Room}
use Rattle.model.specs.Store.{Store}
use Rattle.model.specs.Step.{patterns_after_all, owes_all}
use Rattle.model.specs.State.{Client}
use Rattle.model.specs.State.{with_patterns, with_queue}
use Rattle.model.specs.Queueing.{queue_charge}
use Rattle.model.specs.Queue.{queue_fits, encoded, shut_by, with_messages, fits_all, after_step}
use Rattle.model.specs.Queue.{queued_by_step}
use Rattle.model.proofs.Tests.{by-test-both}
use Rattle.model.proofs.Steps.{patterns_after_all-other}

pub queue_charge-append : (a b : List Bytes) → queue_charge (a ++ b) ≡ queue_charge a + queue_charge b
unfolding queue_charge
queue_charge-append [] b = sym (zero-add _)
queue_charge-append (m ∷ a) b = rw (queue_charge-append a b) (omega arith)

-- What fits with more behind it fits alone: so the first message that does not fit decides for all.
pub queue_fits-append : (Q : ℕ) (a b : List Bytes) → queue_fits Q (queue_charge (a ++ b)) ≡ true
    → queue_fits Q (queue_charge a) ≡ true
unfolding queue_fits
queue_fits-append Q a b h =
    let l : queue_charge (a ++ b) + 64 ≤ Q = leb-true _ _ h in
    le-leb (queue_charge a + 64) Q (omega (arith, queue_charge-append a b))

pub encoded-append : (protocol : Protocol) (k : Kind) (a b : List Message)
    → encoded protocol k (a ++ b) ≡ encoded protocol k a ++ encoded protocol k b
encoded-append protocol k [] b = refl
encoded-append protocol k (m ∷ a) b = rw (encoded-append protocol k a b)

module _ (protocol : Protocol) (Q : ℕ) (mine : Bool) (xs : List Action) (s : Store) (c : Client) where
  -- all that the step owes the client
  abbrev pub owed : List Message
  owed = owes_all protocol mine xs s c.patterns

  -- a client and the messages that were queued to it by a step
  pub data StepOutcome : Client → List Message → Type 0 where
    was-shut : c.shut ≡ true → StepOutcome c []
    got-all : c.shut ≡ false → fits_all protocol Q owed c ≡ true
        → StepOutcome (with_messages protocol owed (patterns_after_all mine xs c.patterns) c) owed
    got-none : c.shut ≡ false → fits_all protocol Q owed c ≡ false
        → StepOutcome (shut_by protocol.written Room c) (error Room ∷ [])

  -- A step leaves a shut client, gives an open one all that it owes, or shuts it.
  pub step-outcome : StepOutcome (after_step protocol Q mine xs s c) (queued_by_step protocol Q mine xs s c)
  unfolding after_step queued_by_step
  step-outcome =
      by-test-both StepOutcome c.shut
      (λ o. was-shut o)
      (λ o. by-test-both StepOutcome (fits_all protocol Q owed c) (λ f. got-all o f) (λ f. got-none o f))

-- An open client that is owed nothing, and whose queue is within its room, is left as it is by a step of another.
pub after_step-unowed : (protocol : Protocol) (Q : ℕ) (xs : List Action) (s : Store) (c : Client) → c.shut ≡ false
    → queue_charge c.queue + 64 ≤ Q → owes_all protocol false xs s c.patterns ≡ []
    → after_step protocol Q false xs s c ≡ c
unfolding after_step fits_all queue_fits with_messages with_patterns with_queue
after_step-unowed protocol Q xs s c o h e =
    rw (
      o,
      e,
      append-nil c.queue,
      le-leb (queue_charge c.queue + 64) Q h,
      patterns_after_all-other xs
          c.patterns,
    )
