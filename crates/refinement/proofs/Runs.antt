-- A memory that holds a state of the simple server: each call gives what the simple server gives, and leaves a memory
-- that holds its next state. So for every list of calls. A take writes its message alone (`takes-behind`).
use mathlib.Core.Path.{◌≡◌, refl, sym, ap, ap₂, ◌∙◌}
use mathlib.Core.List.{List, [], ◌∷◌}
use mathlib.Core.Bool.{Bool, true, ◌&&◌}
use Prim.Native.Nat.{ℕ, ◌≤◌, ◌<◌}
use native.Mathlib.Omega.{arith}
use lib.Dec.{leb}
use lib.ListN.{length, take, drop}
use lib.Seq.{sets}
use borrow.Author.Tests.{leb-true}
use Rattle.octets.specs.Octets.{Bytes}
use Rattle.octets.proofs.Parts.{drop-sets, part-sets-same}
use Rattle.protocol.specs.Terms.{Protocol}
use Rattle.model.specs.Queueing.{queue_charge}
use Rattle.model.specs.State.{Sizes, in_range, Slot, free, used, State, slot_at}
use Rattle.model.specs.Events.{after_event}
use Rattle.model.specs.Decision.{Call, takes, Reply, Decision}
use Rattle.model.specs.Calls.{decide, after_calls, replies_to, serve}
use Rattle.model.proofs.Forms.{QueueIn}
use Rattle.model.specs.Lawful.{Lawful}
use Rattle.model.specs.Invariant.{Invariant, SlotInvariant}
use Rattle.model.proofs.Invariants.{invariant-serve}
use Rattle.model.proofs.Answers.{silent-bytes, take_count}
use Rattle.model.proofs.Tests.{by-test, and_left, and_right}
use Rattle.memory.specs.Image.{Image, image_of}
use Rattle.memory.specs.Rules.{memory_fine}
use Rattle.refinement.specs.Represents.{state_image}
use Rattle.refinement.specs.Promises.{broken, Represents, reply_to, image_after, Serves, Takes, Step}
use Rattle.refinement.specs.Promises.{served, took, Run, none_left, next}
use Rattle.refinement.proofs.Steps.{cond-true}
use Rattle.refinement.proofs.Images.{Short, no-message, one_more, decide-image, after_event-image}

-- a queue within a room has short messages
short-queue : (q : List Bytes) → queue_charge q < 4294967296 → Short q
unfolding queue_charge
short-queue [] h = no-message
short-queue (m ∷ ms) h =
    let l : length m < 4294967296 = omega arith in
    one_more l (short-queue ms (omega arith))

-- the queue room is in its range
queue-most : (z : Sizes) → in_range z ≡ true → z.queue_room ≤ 1048576
unfolding in_range
queue-most z h =
    let a = and_right (leb 1 z.slot_count && leb z.slot_count 32) _ h in
    let b = and_right (leb 256 z.store_room && leb z.store_room 1048576) _ a in
    let c = and_left (leb 1024 z.queue_room && leb z.queue_room 1048576) _ b in
    leb-true z.queue_room 1048576 (and_right (leb 1024 z.queue_room) (leb z.queue_room 1048576) c)

module _ (P : Protocol) where
  -- a take's message, from the memory that it is lent: as many bytes as its count says
  taken-count : (i : ℕ) (m : Bytes) (len : ℕ)
      → (reply_to P (takes i len) m).count ≡ length (reply_to P (takes i len) m).bytes
  unfolding reply_to serve
  taken-count i m len =
      by-test (λ (r : Reply). r.count ≡ length r.bytes) (memory_fine m) {y = broken}
      (λ e. (take_count P (image_of m) i len).0) (λ e. refl)

  -- a take leaves the bytes of its out slice behind the message as they were
  pub takes-behind : {i answer count : ℕ} {m out m' out' : Bytes} → Takes P i m out answer count m' out'
      → drop count out' ≡ drop count out
  takes-behind {i} {count = count} {m = m} {out = out} s =
      let r : Reply = reply_to P (takes i (length out)) m in
      let c : count ≡ length r.bytes = s.serves.counted ∙ taken-count i m (length out) in
      ap (drop count) s.written ∙ drop-sets out 0 r.bytes count (omega (arith, c))

module _ (P : Protocol) (valid : Bytes → Bool) (lawful : Lawful P valid) where
  short-slot : (z : Sizes) (x : Slot) → in_range z ≡ true → SlotInvariant P valid z x → QueueIn Short x
  short-slot z free r h = tt
  short-slot z (used c) r h = short-queue c.queue (omega (arith, h.queue-room, queue-most z r))

  -- every reached state has short messages
  short-slots : (st : State) → Invariant P valid st → (i : ℕ) → QueueIn Short (slot_at i st)
  short-slots st h i = short-slot st.sizes (slot_at i st) h.sizes-in-range (h.clients i)

  -- what is given back is the simple server's reply
  pub reply-state : (x : Call) (m : Bytes) (st : State) → Invariant P valid st → Represents m st
      → reply_to P x m ≡ (serve P x st).reply
  unfolding reply_to serve
  reply-state x m st v r =
      cond-true (memory_fine m) (decide P x (image_of m)).reply broken r.fine
      ∙ ap (λ (im : Image). (decide P x im).reply) r.means
      ∙ ap (λ (d : Decision). d.reply) (decide-image P st (short-slots st v) x)

  -- the memory after a call holds the simple server's next state
  pub next-state : (x : Call) (m : Bytes) (st : State) → Invariant P valid st → Represents m st
      → image_after P x m ≡ state_image (serve P x st).next
  unfolding image_after serve
  next-state x m st v r =
      ap (λ (im : Image). after_event P (decide P x im).event im) r.means
      ∙ ap (λ (d : Decision). after_event P d.event (state_image st)) (decide-image P st (short-slots st v) x)
      ∙ after_event-image P st (short-slots st v) (decide P x st).event

  -- one call
  pub serves-state : (x : Call) (m : Bytes) (a n : ℕ) (m' : Bytes) (st : State) → Invariant P valid st → Represents m st
      → Serves P x m a n m'
      → (a ≡ (serve P x st).reply.answer) × (n ≡ (serve P x st).reply.count) × Represents m' (serve P x st).next
  serves-state x m a n m' st v r s =
      let e : reply_to P x m ≡ (serve P x st).reply = reply-state x m st v r in
      let h = s.next r.fine in (
        s.answered ∙ ap (λ (t : Reply). t.answer) e,
        s.counted ∙ ap (λ (t : Reply). t.count) e,
        record { fine = h.fine; means = h.means ∙ next-state x m st v r },
      )

  -- what a step of a list gives, field by field
  reply-equal : (a n : ℕ) (bs : Bytes) (r : Reply) → a ≡ r.answer → n ≡ r.count → bs ≡ r.bytes
      → ◌≡◌ {A = Reply} (record { answer = a; count = n; bytes = bs }) r
  reply-equal a n bs r p q t = rw (p, q, t)

  -- one call of a list
  pub step-state : {x : Call} {r : Reply} {m m' : Bytes} (st : State) → Invariant P valid st → Represents m st
      → Step P m x r m' → (r ≡ (serve P x st).reply) × Represents m' (serve P x st).next
  step-state {m = m} {m' = m'} st v h (served {x} {answer} {count} silent s) =
      let t = serves-state x m answer count m' st v h s in
      (reply-equal answer count [] _ t.0 t.1 (sym (silent-bytes P st x silent)), t.2)
  step-state {m = m} {m' = m'} st v h (took {i} {answer} {count} {out} {out' = out'} s) =
      let x : Call = takes i (length out) in
      let t = serves-state x m answer count m' st v h s.serves in
      let e : reply_to P x m ≡ (serve P x st).reply = reply-state x m st v h in
      let g = take_count P st i (length out) in
      let b : Bytes = (serve P x st).reply.bytes in
      let f : length b ≤ length out = rw (← g.0) g.1 in
      let c : count ≡ length b = t.1 ∙ g.0 in
      let w : out' ≡ sets out 0 b = s.written ∙ ap (λ (r : Reply). sets out 0 r.bytes) e in (
        reply-equal answer count (take count out') _ t.0 t.1
            (rw (w, c) (part-sets-same out 0 b (omega arith))),
        t.2,
      )

  -- a list of calls
  pub run-state : {m m' : Bytes} {xs : List Call} {rs : List Reply} (st : State) → Invariant P valid st
      → Represents m st
      → Run P m xs rs m' → (rs ≡ replies_to P xs st) × Represents m' (after_calls P xs st)
  unfolding replies_to after_calls
  run-state st v h none_left = (refl, h)
  run-state st v h (next {x = x} s rest) =
      let t = step-state st v h s in
      let u = run-state (serve P x st).next (invariant-serve P valid lawful st v x) t.1 rest in
      (ap₂ ◌∷◌ t.0 u.0, u.1)
