-- The test of a slot is true just where its rules hold and nothing is pending.
use mathlib.Core.Path.{◌≡◌, refl, sym, ap, ◌∙◌}
use mathlib.Core.List.{[], ◌∷◌}
use mathlib.Core.Bool.{Bool, true, cond, not}
use Prim.Native.Nat.{ℕ, ◌+◌, ◌≤◌}
use native.Mathlib.Omega.{arith}
use lib.Dec.{eqb, leb}
use lib.ListN.{length}
use borrow.Author.Tests.{eq-eqb, ne_eqb, eqb-true, eqb-false, le-leb, leb-true, not-true}
use Rattle.octets.specs.Octets.{Bytes}
use Rattle.model.specs.Patterns.{Patterns}
use Rattle.queue.specs.Region.{AtRest, queue_fine}
use Rattle.queue.proofs.Regions.{fine-rest, rest-fine, pending_of-rest}
use Rattle.model.specs.State.{Transaction, is_on}
use Rattle.model.proofs.Transactions.{is-off}
use Rattle.recording.specs.Region.{recording_fine}
use Rattle.recording.proofs.Tests.{either, and_both, and-true-true}
use Rattle.subscriptions.specs.Region.{subscriptions_fine}
use Rattle.slot.specs.Image.{ClientImage, Resting}
use Rattle.slot.specs.Region.{phase_of, kind_byte, subscriptions_part, recording_part, queue_part, client_of, slot_of}
use Rattle.slot.specs.Region.{reserve_of, Bare, ClientRules, SlotRules, is_bare, regions_fine, client_fine, slot_fine}
use Rattle.slot.specs.Promises.{Regioned}
use Rattle.slot.proofs.Slots.{slot_of-used}
use Rattle.slot.proofs.Resting.{used-phase, client_of-used, rest-pending}

-- ---- the regions

pub record Regions (R : ℕ) (s : Bytes) : Type 0 where
  pub subscriptions : subscriptions_fine (subscriptions_part s) ≡ true
  pub queue : AtRest (reserve_of (phase_of s)) (queue_part R s)
  pub recording : recording_fine (recording_part R s) ≡ true

pub regions-fine : {R : ℕ} {s : Bytes} → regions_fine R s ≡ true → Regions R s
unfolding regions_fine
regions-fine {R} {s} e =
    let a = and_both (subscriptions_fine (subscriptions_part s)) _ e in
    let b = and_both (queue_fine (reserve_of (phase_of s)) (queue_part R s)) (recording_fine (recording_part R s)) a.1 in
    record {
      subscriptions = a.0;
      queue = fine-rest (reserve_of (phase_of s)) (queue_part R s) b.0;
      recording = b.1;
    }

pub fine-regions : {R : ℕ} {s : Bytes} → Regions R s → regions_fine R s ≡ true
unfolding regions_fine
fine-regions {R} {s} r =
    and-true-true r.subscriptions
    (and-true-true (rest-fine (reserve_of (phase_of s)) (queue_part R s) r.queue) r.recording)

pub regions-regioned : {R : ℕ} {s : Bytes} → 4132 + R ≤ length s → regions_fine R s ≡ true → Regioned R s
regions-regioned h e =
    let r = regions-fine e in
    record { enough = h; subscriptions = r.subscriptions; recording = r.recording }

-- ---- no patterns and no recording

empty-patterns : (ps : Patterns) → length ps ≡ 0 → ps ≡ []
empty-patterns [] e = refl
empty-patterns (p ∷ ps) e = absurd (omega arith)

pub bare-test : {c : ClientImage} → is_bare c ≡ true → Bare c
unfolding is_bare
bare-test {c} e =
    let a = and_both (eqb (length c.patterns) 0) (not (is_on c.transaction)) e in
    record {
      no-patterns = empty-patterns c.patterns (eqb-true (length c.patterns) 0 a.0);
      no-recording = is-off c.transaction (not-true (is_on c.transaction) a.1);
    }

pub test-bare : {c : ClientImage} → Bare c → is_bare c ≡ true
unfolding is_bare
test-bare {c} b =
    and-true-true (eq-eqb (length c.patterns) 0 (ap length b.no-patterns))
    (ap (λ (m : Transaction). not (is_on m)) b.no-recording)

-- ---- a client

record Resting-client (R : ℕ) (s : Bytes) : Type 0 where
  rules : ClientRules R s
  rest : AtRest (reserve_of (phase_of s)) (queue_part R s)

client-rest : {R : ℕ} {s : Bytes} → 4132 + R ≤ length s → client_fine R s ≡ true → Resting-client R s
unfolding client_fine
client-rest {R} {s} h e =
    let a = and_both (leb (phase_of s) 2) _ e in
    let b = and_both (leb (kind_byte s) 7) _ a.1 in
    let d = and_both (regions_fine R s) (cond (eqb (phase_of s) 2) (is_bare (client_of R s)) true) b.1 in
    let r = regions-fine d.0 in
    record {
      rules =
          record {
            sized = h;
            phase = leb-true (phase_of s) 2 a.0;
            kind = leb-true (kind_byte s) 7 b.0;
            subscriptions = r.subscriptions;
            recording = r.recording;
            queue = r.queue.in_step;
            bare = λ z. bare-test (sym (ap (λ (t : Bool). cond t (is_bare (client_of R s)) true) (eq-eqb (phase_of s) 2 z)) ∙ d.1);
          };
      rest = r.queue;
    }

rest-client : {R : ℕ} {s : Bytes} → Resting-client R s → client_fine R s ≡ true
unfolding client_fine
rest-client {R} {s} w =
    and-true-true (le-leb (phase_of s) 2 w.rules.phase)
    (and-true-true (le-leb (kind_byte s) 7 w.rules.kind)
    (and-true-true
    (fine-regions
    (record { subscriptions = w.rules.subscriptions; queue = w.rest; recording = w.rules.recording }))
    (either (eqb (phase_of s) 2)
    (λ z. rw z (test-bare (w.rules.bare (eqb-true (phase_of s) 2 z))))
    (λ z. rw z))))

-- ---- a slot

fine-client : (R : ℕ) (s : Bytes) → slot_fine R s ≡ true → (phase_of s ≡ 0 → ⊥) → client_fine R s ≡ true
unfolding slot_fine
fine-client R s e n = sym (ap (λ (t : Bool). cond t true (client_fine R s)) (ne_eqb (phase_of s) 0 n)) ∙ e

pub fine-rules : (R : ℕ) (s : Bytes) → 4132 + R ≤ length s → slot_fine R s ≡ true → SlotRules R s
fine-rules R s h e n = (client-rest h (fine-client R s e n)).rules

pub fine-resting : (R : ℕ) (s : Bytes) → 4132 + R ≤ length s → slot_fine R s ≡ true → Resting (slot_of R s)
unfolding client_of
fine-resting R s h e c u =
    let w = client-rest h (fine-client R s e (used-phase R s u)) in
    sym (ap (λ (x : ClientImage). x.queue.pending) (client_of-used R s u)) ∙ pending_of-rest w.rest

pub rules-fine : (R : ℕ) (s : Bytes) → SlotRules R s → Resting (slot_of R s) → slot_fine R s ≡ true
unfolding slot_fine client_of
rules-fine R s w r =
    either (eqb (phase_of s) 0)
    (λ z. rw z)
    (λ z.
    let n = eqb-false (phase_of s) 0 z in
    rw z (rest-client
    (record { rules = w n; rest = rest-pending (w n).queue (r (client_of R s) (slot_of-used R s n)) })))
