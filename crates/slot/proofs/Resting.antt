-- The laws of what a slot means: from its image to its rules, between steps and in a step.
use mathlib.Core.Path.{◌≡◌, refl, sym, ap, ◌∙◌}
use mathlib.Core.List.{[]}
use mathlib.Core.Bool.{Bool, true, false, cond, true≢false}
use Prim.Native.Nat.{ℕ, ◌+◌, ◌-◌}
use native.Mathlib.Omega.{arith}
use lib.Dec.{eqb}
use lib.ListN.{length, take}
use borrow.Author.Tests.{eq-eqb, eqb-true, eqb-false}
use Rattle.octets.specs.Octets.{Bytes}
use Rattle.octets.specs.Part.{part}
use Rattle.octets.proofs.Parts.{length_part}
use Rattle.protocol.specs.Terms.{Protocol}
use Rattle.protocol.specs.declared.Refusal.TheVariants.{Room}
use Rattle.message.specs.Writing.{said}
use Rattle.message.specs.declared.Message.TheVariants.{Info}
use Rattle.pattern.specs.Answer.{accepted}
use Rattle.model.specs.Patterns.{Patterns}
use Rattle.model.specs.Step.{subscribed}
use Rattle.queue.specs.Meaning as Q
use Rattle.queue.specs.Meaning.{Pending, kept, overflown, is_overflown, kept_rows}
use Rattle.queue.specs.Region.{InStep, AtRest, queue_of, pending_of, pending_end, tail}
use Rattle.queue.proofs.Regions.{at-rest-less, pending_of-kept, kept-flag}
use Rattle.recording.proofs.Tests.{either}
use Rattle.subscriptions.specs.Region.{patterns_of, matching}
use Rattle.subscriptions.proofs.Lists.{subscribed-matches}
use Rattle.model.specs.State.{free, used, with_queue}
use Rattle.model.specs.Events.{on_client}
use Rattle.slot.specs.Image.{ClientImage, SlotImage, refused, owed, notified, settled_by, settled}
use Rattle.slot.specs.Region.{phase_of, subscriptions_part, queue_part, client_of, slot_of}
use Rattle.slot.specs.Region.{reserve_of, SlotRules}
use Rattle.slot.specs.Promises.{HasClient, HasResting, HasOpen, HasOpenResting, Becomes}
use Rattle.slot.proofs.Slots.{slot_of-used, slot_of-free}
use Rattle.slot.proofs.Operations.{open-client, open-queue}

-- ---- nothing is pending

pub rest-pending : {k : ℕ} {q : Bytes} → InStep k q → pending_of q ≡ kept [] → AtRest k q
unfolding is_overflown kept_rows
rest-pending {k} {q} i e =
    let f = kept-flag q (ap is_overflown e) in
    let p : part q (16 + tail q) (pending_end q - tail q) ≡ [] = ap kept_rows (sym (pending_of-kept q f) ∙ e) in
    let l : length (part q (16 + tail q) (pending_end q - tail q)) ≡ pending_end q - tail q =
    length_part q (16 + tail q) (pending_end q - tail q) (omega arith) in
    let z : length (part q (16 + tail q) (pending_end q - tail q)) ≡ 0 = ap length p in
    record { in_step = i; none-pending = omega arith; flag-clear = f }

pub resting-queue : {R : ℕ} {s : Bytes} → HasResting R s → AtRest (reserve_of (phase_of s)) (queue_part R s)
unfolding client_of
resting-queue h = rest-pending h.client.rules.queue h.none-pending

pub resting-queue-any : {R : ℕ} {s : Bytes} → HasResting R s → AtRest 0 (queue_part R s)
resting-queue-any h = at-rest-less (omega arith) (resting-queue h)

pub open-rest : {R : ℕ} {s : Bytes} → HasOpenResting R s → AtRest 64 (queue_part R s)
unfolding client_of
open-rest h = rest-pending (open-queue h.client) h.none-pending

-- ---- from the image

pub used-phase : (R : ℕ) (s : Bytes) {c : ClientImage} → slot_of R s ≡ used c → phase_of s ≡ 0 → ⊥
used-phase R s {c} e z =
    let f : free ≡ used c = sym (slot_of-free R s z) ∙ e in
    let n : ◌≡◌ {A = ℕ} 0 1 = cc in
    omega arith

pub used-client : {R : ℕ} {s : Bytes} {c : ClientImage} → SlotRules R s → slot_of R s ≡ used c → HasClient R s
used-client {R} {s} w e = record { taken-up = used-phase R s e; rules = w (used-phase R s e) }

pub client_of-used : (R : ℕ) (s : Bytes) {c : ClientImage} → slot_of R s ≡ used c → client_of R s ≡ c
client_of-used R s {c} e =
    let f : used (client_of R s) ≡ used c = sym (slot_of-used R s (used-phase R s e)) ∙ e in
    cc

pub open-phase : {R : ℕ} {s : Bytes} → HasClient R s → (client_of R s).shut ≡ false → phase_of s ≡ 1
unfolding client_of
open-phase {R} {s} h e =
    let n : phase_of s ≡ 2 → ⊥ = eqb-false (phase_of s) 2 e in
    let z : phase_of s ≡ 0 → ⊥ = h.taken-up in
    omega (arith, h.rules.phase)

pub phase-open : (R : ℕ) (s : Bytes) → phase_of s ≡ 1 → (client_of R s).shut ≡ false
unfolding client_of
phase-open R s e = rw e

pub used-open : {R : ℕ} {s : Bytes} {c : ClientImage} → SlotRules R s → slot_of R s ≡ used c → c.shut ≡ false → HasOpen R s
used-open {R} {s} w e o =
    let h = used-client w e in
    record { is_open = open-phase h (ap (λ (x : ClientImage). x.shut) (client_of-used R s e) ∙ o); rules = h.rules }

pub used-resting : {R : ℕ} {s : Bytes} {c : ClientImage} → SlotRules R s → slot_of R s ≡ used c
    → c.queue.pending ≡ kept [] → HasResting R s
used-resting {R} {s} w e o =
    record {
      client = used-client w e;
      none-pending = ap (λ (x : ClientImage). x.queue.pending) (client_of-used R s e) ∙ o;
    }

pub rules-open : {R : ℕ} {s : Bytes} → SlotRules R s → phase_of s ≡ 1 → HasOpen R s
rules-open w e = record { is_open = e; rules = w (λ z. omega arith) }

-- ---- what an operation leaves as it is

pub becomes-same : {R : ℕ} {s : Bytes} {x : SlotImage} → SlotRules R s → slot_of R s ≡ x → Becomes R s s x
becomes-same w e = record { size = refl; rules = w; means = e }

-- a free slot and a shut client
pub on_client-idle : {R : ℕ} {s : Bytes} (f : ClientImage → ClientImage) → ((c : ClientImage) → c.shut ≡ true → f c ≡ c)
    → SlotRules R s → (phase_of s ≡ 1 → ⊥) → slot_of R s ≡ on_client f (slot_of R s)
unfolding on_client client_of
on_client-idle {R} {s} f g w n =
    either (eqb (phase_of s) 0)
    (λ e. rw (slot_of-free R s (eqb-true (phase_of s) 0 e)))
    (λ e.
    let z = eqb-false (phase_of s) 0 e in
    let p : phase_of s ≡ 2 = omega (arith, (w z).phase) in
    rw (slot_of-used R s z) (ap used (sym (g (client_of R s) (eq-eqb (phase_of s) 2 p)))))

pub on_client-open : {R : ℕ} {s : Bytes} (f : ClientImage → ClientImage) → HasOpen R s
    → on_client f (slot_of R s) ≡ used (f (client_of R s))
unfolding on_client
on_client-open {R} {s} f h = rw (slot_of-used R s (open-client h).taken-up)

-- ---- the end of a step

pub settled-shut : (c : ClientImage) → c.shut ≡ true → settled c ≡ c
unfolding settled
settled-shut c e = ap (λ (t : Bool). cond t c (settled_by c.queue.pending c)) e

pub settled-over : (c : ClientImage) → c.shut ≡ false → is_overflown c.queue.pending ≡ true → settled c ≡ refused Room c
unfolding settled settled_by is_overflown
settled-over c e o = ap (λ (t : Bool). cond t c (settled_by c.queue.pending c)) e ∙ go c.queue.pending o
  where
    go : (p : Pending) → is_overflown p ≡ true → settled_by p c ≡ refused Room c
    go (kept p) o = absurd (true≢false (sym o))
    go overflown o = refl

pub settled-kept : (c : ClientImage) → c.shut ≡ false → is_overflown c.queue.pending ≡ false
    → settled c ≡ with_queue (Q.settled c.queue) c
unfolding settled settled_by is_overflown
settled-kept c e o = ap (λ (t : Bool). cond t c (settled_by c.queue.pending c)) e ∙ go c.queue.pending o
  where
    go : (p : Pending) → is_overflown p ≡ false → settled_by p c ≡ with_queue (Q.settled c.queue) c
    go (kept p) o = refl
    go overflown o = absurd (true≢false o)

pub settled-refused : {R : ℕ} {s : Bytes} → HasOpen R s → is_overflown (pending_of (queue_part R s)) ≡ true
    → settled (client_of R s) ≡ refused Room (client_of R s)
unfolding client_of
settled-refused {R} {s} h o = settled-over (client_of R s) (phase-open R s h.is_open) o

pub settled-queued : {R : ℕ} {s : Bytes} → HasOpen R s → is_overflown (pending_of (queue_part R s)) ≡ false
    → settled (client_of R s) ≡ with_queue (Q.settled (queue_of (queue_part R s))) (client_of R s)
unfolding client_of
settled-queued {R} {s} h o = settled-kept (client_of R s) (phase-open R s h.is_open) o

-- ---- notices

pub notified-shut : (Q : ℕ) (b : Bytes) (n : ℕ) (c : ClientImage) → c.shut ≡ true → notified Q b n c ≡ c
unfolding notified
notified-shut Q b n c e = rw e

pub notified-wanted : (Q : ℕ) (b : Bytes) (n : ℕ) (c : ClientImage) → c.shut ≡ false
    → subscribed matching c.patterns (take n b) ≡ true → notified Q b n c ≡ owed Q (said Info b) c
unfolding notified
notified-wanted Q b n c e t = rw (e, t)

pub notified-unwanted : (Q : ℕ) (b : Bytes) (n : ℕ) (c : ClientImage) → c.shut ≡ false
    → subscribed matching c.patterns (take n b) ≡ false → notified Q b n c ≡ c
unfolding notified
notified-unwanted Q b n c e t = rw (e, t)

module _ {R : ℕ} {s : Bytes} (h : HasOpen R s) (Q : ℕ) (b : Bytes) (n : ℕ) where
  pub notified-info : subscribed matching (patterns_of (subscriptions_part s)) (take n b) ≡ true
      → notified Q b n (client_of R s) ≡ owed Q (said Info b) (client_of R s)
  unfolding client_of
  notified-info t = notified-wanted Q b n (client_of R s) (phase-open R s h.is_open) t

  pub notified-same : subscribed matching (patterns_of (subscriptions_part s)) (take n b) ≡ false
      → notified Q b n (client_of R s) ≡ client_of R s
  unfolding client_of
  notified-same t = notified-unwanted Q b n (client_of R s) (phase-open R s h.is_open) t

-- whichever protocol has the matcher of the crate pattern
pub subscribed-matching : (P : Protocol) → ((p k : Bytes) → P.matches p k ≡ accepted p k) → (ps : Patterns) (k : Bytes)
    → subscribed matching ps k ≡ subscribed P ps k
unfolding matching
subscribed-matching P e ps k = subscribed-matches matching P (λ p k. sym (e p k)) ps k
