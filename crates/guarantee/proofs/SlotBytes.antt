-- A slot written as bytes: it keeps the rules between calls and means the simple server's slot.
use mathlib.Core.Path.{◌≡◌, refl, sym, ap, ◌∙◌}
use mathlib.Core.List.{◌∷◌, ◌++◌}
use mathlib.Core.Bool.{Bool, true, false}
use Prim.Native.Nat.{ℕ, ◌+◌, ◌≤◌}
use native.Mathlib.Omega.{arith}
use lib.Dec.{eqb}
use lib.ListN.{length, drop, replicate, length-append, length-replicate, get_or-replicate}
use lib.Seq.{take_at, drop_at, drop-drop}
use borrow.Author.Tests.{eq-eqb}
use Rattle.octets.specs.Octets.{Bytes}
use Rattle.pattern.specs.Syntax.{valid}
use Rattle.model.specs.State.{Sizes, Client, Slot, free, used}
use Rattle.model.specs.Queueing.{queue_charge}
use Rattle.model.specs.Forms.{client_with, slot_with}
use Rattle.model.specs.Invariant.{ClientInvariant, SlotInvariant}
use Rattle.recording.specs.Region.{transaction_of}
use Rattle.subscriptions.specs.Region.{patterns_of}
use Rattle.slot.specs.Image.{ClientImage, Resting}
use Rattle.slot.specs.Region.{reserve_of, byte_for, phase_of, slot_of, slot_fine}
use Rattle.slot.proofs.Operations.{says-byte_for}
use Rattle.slot.proofs.Slots.{Holds, Fine, image, client_of-holds, rules-holds, slot_of-used, slot_of-free}
use Rattle.slot.proofs.Tests as slot
use Rattle.memory.specs.Layout.{stride}
use Rattle.infod3.specs.Infod3.{infod3}
use Rattle.refinement.specs.Represents.{in_rows}
use Rattle.guarantee.proofs.PatternBytes.{subscriptions_bytes, length-subscriptions, subscriptions-fine}
use Rattle.guarantee.proofs.PatternBytes.{patterns-are}
use Rattle.guarantee.proofs.QueueBytes.{queue_bytes, length-queue, at_rest, queue-is}
use Rattle.guarantee.proofs.RecordingBytes.{transaction_bytes, length-transaction, transaction-fine}
use Rattle.guarantee.proofs.RecordingBytes.{transaction-means}

-- ---- the phase

-- open or shut
abbrev pub phase_number : Bool → ℕ
phase_number true = 2
phase_number false = 1

phase-shut : (b : Bool) → eqb (phase_number b) 2 ≡ b
phase-shut true = refl
phase-shut false = refl

phase-two : (b : Bool) → phase_number b ≡ 2 → b ≡ true
phase-two true e = refl
phase-two false e = absurd (omega arith)

phase-used : (b : Bool) → phase_number b ≡ 0 → ⊥
phase-used true = omega arith
phase-used false = omega arith

phase-most : (b : Bool) → phase_number b ≤ 2
phase-most true = omega arith
phase-most false = omega arith

reserve-fits : (b : Bool) (n Q : ℕ) → n ≤ Q → (b ≡ false → n + 64 ≤ Q) → n + reserve_of (phase_number b) ≤ Q
reserve-fits true n Q h k = omega arith
reserve-fits false n Q h k = k refl

-- ---- a slot

-- a client as the bytes of its slot
unfoldable pub client_bytes : Sizes → Client → Bytes
client_bytes z c =
    phase_number c.shut ∷ byte_for c.kind c.hangs_up ∷ 0 ∷ 0 ∷ (subscriptions_bytes c.patterns
    ++ (transaction_bytes z.record_room c.transaction
    ++ queue_bytes z.queue_room c.queue))

-- a slot as bytes; a free one is all zeros
unfoldable pub slot_bytes : Sizes → Slot → Bytes
slot_bytes z free = replicate (stride z) 0
slot_bytes z (used c) = client_bytes z c

module _ (z : Sizes) (small-queue : z.queue_room ≤ 1048576) (small-record : z.record_room ≤ 262144) (c : Client)
    (v : ClientInvariant infod3 valid z c) where
  abbrev R : ℕ
  R = z.record_room

  abbrev s : Bytes
  s = client_bytes z c

  abbrev p : Bytes
  p = subscriptions_bytes c.patterns

  abbrev r : Bytes
  r = transaction_bytes R c.transaction

  abbrev q : Bytes
  q = queue_bytes z.queue_room c.queue

  length-r : length r ≡ 12 + R
  length-r = length-transaction R c.transaction small-record v.recording-valid

  room : queue_charge c.queue + reserve_of (phase_number c.shut) ≤ z.queue_room
  room = reserve-fits c.shut (queue_charge c.queue) z.queue_room v.queue-room v.open-room

  abbrev reserve : ℕ
  reserve = reserve_of (phase_number c.shut)

  length-client : length s ≡ stride z
  unfolding client_bytes
  length-client =
      rw (
        length-append,
        length-append,
        length-subscriptions c.patterns v.few v.patterns-valid,
        length-r,
        length-queue z.queue_room reserve c.queue small-queue room,
      )
      (omega arith)

  holds : Holds R s (stride z) (phase_number c.shut) (byte_for c.kind c.hangs_up) p r q
  unfolding client_bytes
  holds =
      let lp : length p ≡ 4100 = length-subscriptions c.patterns v.few v.patterns-valid in
      let d : drop 4104 s ≡ r ++ q = sym (drop-drop 4100 4 s) ∙ drop_at p (r ++ q) 4100 lp in
      let e : 4104 + (12 + R) ≡ 4116 + R = omega arith in
      record {
        size = length-client;
        phase = refl;
        kind = refl;
        subscriptions = take_at p (r ++ q) 4100 lp;
        recording = rw d (take_at r q (12 + R) length-r);
        queue = rw e at (sym (drop-drop (12 + R) 4104 s)) ∙ rw d (drop_at r q (12 + R) length-r);
      }

  patterns-same : patterns_of p ≡ c.patterns
  patterns-same = patterns-are c.patterns v.few v.patterns-valid

  transaction-same : transaction_of r ≡ c.transaction
  transaction-same = transaction-means R c.transaction small-record v.recording-valid

  rules : Fine R (stride z) (phase_number c.shut) (byte_for c.kind c.hangs_up) p r q
  rules =
      record {
        sized = omega arith;
        taken-up = phase-used c.shut;
        phase = phase-most c.shut;
        kind = (says-byte_for c.kind c.hangs_up).small;
        subscriptions = subscriptions-fine c.patterns v.few v.patterns-valid;
        recording = transaction-fine R c.transaction small-record v.recording-valid;
        queue = (at_rest z.queue_room reserve c.queue small-queue room).in_step;
        no-patterns = λ e. patterns-same ∙ (v.shut-empty (phase-two c.shut e)).0;
        no-recording = λ e. transaction-same ∙ (v.shut-empty (phase-two c.shut e)).1;
      }

  client-means : slot_of R s ≡ used (client_with in_rows c)
  unfolding client_with client_bytes
  client-means =
      let i : image (phase_number c.shut) (byte_for c.kind c.hangs_up) p r q ≡ client_with in_rows c =
      rw (
        (says-byte_for c.kind c.hangs_up).kind,
        (says-byte_for c.kind c.hangs_up).form,
        phase-shut c.shut,
        patterns-same,
        transaction-same,
        queue-is z.queue_room reserve c.queue small-queue room,
      ) in
      slot_of-used R s (phase-used c.shut) ∙ ap used (client_of-holds holds ∙ i)

  client-rests : Resting (slot_of R s)
  unfolding client_with
  client-rests d u =
      let e : used (client_with in_rows c) ≡ used d = sym client-means ∙ u in
      let f : client_with in_rows c ≡ d = cc in
      ap (λ (x : ClientImage). x.queue.pending) (sym f)

  client-fine : slot_fine R s ≡ true
  client-fine = slot.rules-fine R s (λ n. rules-holds holds rules) client-rests

module _ (z : Sizes) (small-queue : z.queue_room ≤ 1048576) (small-record : z.record_room ≤ 262144) where
  zero-phase : phase_of (replicate (stride z) 0) ≡ 0
  zero-phase = get_or-replicate (stride z) 0 0 0 (omega arith)

  pub length-slot : (x : Slot) → SlotInvariant infod3 valid z x → length (slot_bytes z x) ≡ stride z
  unfolding slot_bytes
  length-slot free v = length-replicate (stride z) 0
  length-slot (used c) v = length-client z small-queue small-record c v

  pub slot-means : (x : Slot) → SlotInvariant infod3 valid z x
      → slot_of z.record_room (slot_bytes z x) ≡ slot_with in_rows x
  unfolding slot_bytes slot_with
  slot-means free v = slot_of-free z.record_room (replicate (stride z) 0) zero-phase
  slot-means (used c) v = client-means z small-queue small-record c v

  pub slot-fine : (x : Slot) → SlotInvariant infod3 valid z x → slot_fine z.record_room (slot_bytes z x) ≡ true
  unfolding slot_bytes slot_fine
  slot-fine free v = rw (eq-eqb _ 0 zero-phase)
  slot-fine (used c) v = client-fine z small-queue small-record c v
