-- The premises of the theorems can be met: every set up with sizes in range of a memory that is long enough, and every
-- list of calls after it. Each memory of the run is the simple server's state written as bytes.
use mathlib.Core.Path.{◌≡◌, refl, sym, ap, ◌∙◌}
use mathlib.Core.List.{List, [], ◌∷◌}
use mathlib.Core.Bool.{true}
use Prim.Native.Nat.{ℕ, ◌≤◌}
use native.Mathlib.Omega.{arith}
use lib.ListN.{length, drop, replicate, length-replicate}
use borrow.Author.Tests.{le-leb}
use Rattle.octets.specs.Octets.{Bytes}
use Rattle.pattern.specs.Syntax.{valid}
use Rattle.model.specs.State.{Sizes, in_range, State, empty_state, empty_server}
use Rattle.model.specs.Events.{after_event}
use Rattle.model.specs.Decision.{Call, opens, feeds, takes, closes, Reply}
use Rattle.model.specs.Calls.{serve}
use Rattle.model.specs.Invariant.{Invariant}
use Rattle.model.proofs.Answers.{unaltered-state}
use Rattle.model.proofs.Invariants.{invariant-empty_server, invariant-serve}
use Rattle.memory.specs.Layout.{memory_size}
use Rattle.infod3.specs.Infod3.{infod3}
use Rattle.infod3.proofs.Laws.{lawful}
use Rattle.refinement.specs.Promises.{Represents, set_up_answer, reply_to, Serves}
use Rattle.refinement.specs.Promises.{Step, served, took, Run, none_left, next}
use Rattle.refinement.proofs.Runs.{reply-state, next-state}
use Rattle.guarantee.specs.Possible.{Possible}
use Rattle.guarantee.proofs.Start.{state_image-empty_server}
use Rattle.guarantee.proofs.MemoryBytes.{memory_bytes, memory_bytes-behind, memory_bytes-represents}
use Rattle.guarantee.proofs.MemoryBytes.{memory_bytes-sizes}

-- ---- one call

module _ (st : State) (inv : Invariant infod3 valid st) (t : Bytes) (x : Call) where
  abbrev after : State
  after = (serve infod3 x st).next

  abbrev m : Bytes
  m = memory_bytes st t

  abbrev m' : Bytes
  m' = memory_bytes after t

  held : Represents m st
  held = memory_bytes-represents st inv t

  inv' : Invariant infod3 valid after
  inv' = invariant-serve infod3 valid lawful st inv x

  held' : Represents m' after
  held' = memory_bytes-represents after inv' t

  reply-is : reply_to infod3 x m ≡ (serve infod3 x st).reply
  reply-is = reply-state infod3 valid lawful x m st inv held

  same-sizes : after.sizes ≡ st.sizes
  unfolding serve after_event
  same-sizes = refl

  -- the state written before and after the call keeps the call's contract
  serves-written : Serves infod3 x m (reply_to infod3 x m).answer (reply_to infod3 x m).count m'
  serves-written =
      record {
        answered = refl;
        counted = refl;
        unaltered = λ p q.
            ap (λ (s : State). memory_bytes s t)
            (unaltered-state infod3 st x (rw reply-is at p) (rw reply-is at q));
        next = λ f.
            record {
              fine = held'.fine;
              means = held'.means ∙ sym (next-state infod3 valid lawful x m st inv held);
            };
        behind = λ f.
            rw (memory_bytes-sizes st inv t)
            ((rw same-sizes at (memory_bytes-behind after inv' t)) ∙ sym (memory_bytes-behind st inv t));
      }

take-written : (st : State) (inv : Invariant infod3 valid st) (t : Bytes) (i : ℕ) (out : Bytes)
    → (r : Reply)
    × Step infod3 (memory_bytes st t) (takes i (length out)) r
    (memory_bytes (serve infod3 (takes i (length out)) st).next t)
take-written st inv t i out =
    (_, took {out = out} (record { serves = serves-written st inv t (takes i (length out)); written = refl }))

-- one call of a list, whatever it is
step-written : (st : State) (inv : Invariant infod3 valid st) (t : Bytes) (x : Call)
    → (r : Reply) × Step infod3 (memory_bytes st t) x r (memory_bytes (serve infod3 x st).next t)
step-written st inv t (opens i form) = (_, served tt (serves-written st inv t (opens i form)))
step-written st inv t (feeds i bs) = (_, served tt (serves-written st inv t (feeds i bs)))
step-written st inv t (takes i len) =
    rw (length-replicate {A = ℕ} len 0) at (take-written st inv t i (replicate len 0))
step-written st inv t (closes i) = (_, served tt (serves-written st inv t (closes i)))

-- ---- a list of calls

run-written : (xs : List Call) (st : State) (inv : Invariant infod3 valid st) (t : Bytes)
    → (rs : List Reply) × ((m : Bytes) × Run infod3 (memory_bytes st t) xs rs m)
run-written [] st inv t = ([], (memory_bytes st t, none_left))
run-written (x ∷ xs) st inv t =
    let s = step-written st inv t x in
    let r = run-written xs (serve infod3 x st).next (invariant-serve infod3 valid lawful st inv x) t in
    (s.0 ∷ r.0, (r.1.0, next s.1 r.1.1))

-- Every set up with sizes in range of a memory that is long enough is possible, and every list of calls after it: so
-- the premises of `guaranteed` can be met, and with them those of `demand-1` and `demand-2`.
pub possible : (z : Sizes) → in_range z ≡ true → (m₀ : Bytes) → memory_size z ≤ length m₀ → (xs : List Call)
    → Possible z m₀ xs
unfolding set_up_answer empty_state
possible z ranged m₀ long xs =
    let st : State = empty_server z in
    let inv : Invariant infod3 valid st = invariant-empty_server infod3 valid lawful z ranged in
    let t : Bytes = drop (memory_size z) m₀ in
    let r = run-written xs st inv t in
    record {
      started = memory_bytes st t;
      sets-up = record {
        answered = rw (ranged, le-leb (memory_size z) (length m₀) long);
        counted = refl;
        unaltered = λ p. absurd (omega arith);
        next = λ e. rw (state_image-empty_server z) at (memory_bytes-represents st inv t);
        behind = memory_bytes-behind st inv t;
      };
      replies = r.0;
      ended = r.1.0;
      runs = r.1.1;
    }
