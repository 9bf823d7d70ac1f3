-- What an operation on one region, or on a head byte, makes of a slot with a client.
use mathlib.Core.Path.{◌≡◌, refl, ap, ◌∙◌}
use mathlib.Core.List.{[], ◌∷◌, append-nil}
use mathlib.Core.Bool.{Bool, true, false}
use Prim.Native.Nat.{ℕ, ◌+◌, ◌-◌, ◌/◌, ◌≤◌}
use native.Mathlib.Nat.{add-zero}
use native.Mathlib.Omega.{arith}
use lib.ListN.{length, take, drop, set, length-drop, length-append}
use lib.Seq.{sets, length-sets, get_or-set_same, take_all}
use borrow.Author.Tests.{le-leb}
use borrow.Rule.Slice.PartMut.{put_mid}
use Rattle.octets.specs.Octets.{Bytes}
use Rattle.octets.proofs.Parts.{length_part, lent-part, drop-sets}
use Rattle.protocol.specs.Terms.{error}
use Rattle.protocol.specs.declared.Kind.{Kind}
use Rattle.protocol.specs.declared.Kind.TheVariants.{Packets, Stream, Framed, Text}
use Rattle.protocol.specs.declared.Refusal.{Refusal}
use Rattle.model.specs.Patterns.{Patterns}
use Rattle.message.specs.Forms.{written}
use Rattle.queue.specs.Rows.{row, rows}
use Rattle.queue.specs.Meaning as Q
use Rattle.queue.specs.Meaning.{Queue, fits}
use Rattle.queue.specs.Meaning.{error_fits as fits_behind}
use Rattle.queue.specs.Region.{InStep, queue_of, room}
use Rattle.queue.specs.Post.{Clearing, PuttingError}
use Rattle.recording.specs.Region.{recording_fine, transaction_of, sized}
use Rattle.recording.specs.Promises as recording
use Rattle.subscriptions.specs.Region.{subscriptions_fine, patterns_of}
use Rattle.subscriptions.specs.Promises as subscriptions
use Rattle.model.specs.State.{Transaction, free, used, new_client, with_kind, with_patterns, with_transaction, with_queue}
use Rattle.model.specs.State.{opening_with, off, after_slip}
use Rattle.model.specs.Queue.{queue_fits, shut_by, with_error}
use Rattle.slot.specs.Image.{in_bytes}
use Rattle.slot.specs.Image.{refused, error_fits, slipped}
use Rattle.slot.specs.Region.{phase_of, kind_byte, subscriptions_part, recording_part, queue_part, kind_number}
use Rattle.slot.specs.Region.{kind_numbered, kind_in, hangs_up_in, byte_for, client_of, reserve_of}
use Rattle.slot.specs.Promises.{room_of, HasClient, HasOpen, Sized, Becomes, Stripping}
use Rattle.slot.proofs.Slots.{Holds, holds, holds-subscriptions, holds-recording, holds-queue, holds-phase, holds-kind}
use Rattle.slot.proofs.Slots.{image, Fine, client-fine, open-fine, slot_of-free, becomes}

-- ---- the regions of a slot

pub length-subscriptions_part : (s : Bytes) → 4104 ≤ length s → length (subscriptions_part s) ≡ 4100
length-subscriptions_part s h = length_part s 4 4100 (omega arith)

pub length-recording_part : (R : ℕ) (s : Bytes) → 4116 + R ≤ length s → length (recording_part R s) ≡ 12 + R
length-recording_part R s h = length_part s 4104 (12 + R) (omega arith)

pub length-queue_part : (R : ℕ) (s : Bytes) → length (queue_part R s) ≡ length s - (4116 + R)
length-queue_part R s = length-drop (4116 + R) s

pub room-queue_part : (R : ℕ) (s : Bytes) → room (queue_part R s) ≡ room_of R s
room-queue_part R s =
    let e : length (queue_part R s) - 16 ≡ length s - (4132 + R) = omega (arith, length-queue_part R s) in
    ap (λ (n : ℕ). n / 2) e

-- the recording part as code lends it
pub lent-recording : (R : ℕ) (s : Bytes) → take (4116 + R - 4104) (drop 4104 s) ≡ recording_part R s
lent-recording R s =
    let e : 4116 + R - 4104 ≡ 12 + R = omega arith in
    ap (λ (n : ℕ). take n (drop 4104 s)) e

pub sized-recording_part : (R : ℕ) (s : Bytes) → R ≤ 262144 → 4116 + R ≤ length s → sized (recording_part R s) ≡ true
unfolding sized
sized-recording_part R s h l =
    rw (length-recording_part R s l, le-leb 12 (12 + R) (omega arith), le-leb (12 + R) 262156 (omega arith))

-- lent regions that have come back
pub back-subscriptions : (s v : Bytes) → 4104 ≤ length s → length v ≡ length (subscriptions_part s)
    → put_mid 4 4100 s v ≡ sets s 4 v
back-subscriptions s v h l = lent-part s 4 4100 v (l ∙ length-subscriptions_part s h) (omega arith)

pub back-recording : (R : ℕ) (s v : Bytes) → 4116 + R ≤ length s → length v ≡ length (recording_part R s)
    → put_mid 4104 (4116 + R - 4104) s v ≡ sets s 4104 v
back-recording R s v h l =
    lent-part s 4104 (4116 + R - 4104) v (omega (arith, l, length-recording_part R s h)) (omega arith)

pub back-queue : (R : ℕ) (s v : Bytes) → 4116 + R ≤ length s → length v ≡ length (queue_part R s)
    → put_mid (4116 + R) (length s - (4116 + R)) s v ≡ sets s (4116 + R) v
back-queue R s v h l = lent-part s (4116 + R) (length s - (4116 + R)) v (l ∙ length-queue_part R s) (omega arith)

-- the queue part as code lends it
pub lent-queue : (R : ℕ) (s : Bytes) → take (length s - (4116 + R)) (drop (4116 + R) s) ≡ queue_part R s
lent-queue R s = take_all (length s - (4116 + R)) (drop (4116 + R) s) (omega (arith, length-queue_part R s))

-- ---- kinds

pub kind_number-most : (k : Kind) → kind_number k ≤ 3
kind_number-most Packets = omega arith
kind_number-most Stream = omega arith
kind_number-most Framed = omega arith
kind_number-most Text = omega arith

-- a byte says this kind and this form
pub record Says (b : ℕ) (k : Kind) (hangs_up : Bool) : Type 0 where
  pub small : b ≤ 7
  pub kind : kind_in b ≡ k
  pub form : hangs_up_in b ≡ hangs_up

pub says-byte_for : (k : Kind) (hangs_up : Bool) → Says (byte_for k hangs_up) k hangs_up
unfolding byte_for kind_numbered
says-byte_for Packets true = record { small = omega arith; kind = refl; form = refl }
says-byte_for Packets false = record { small = omega arith; kind = refl; form = refl }
says-byte_for Stream true = record { small = omega arith; kind = refl; form = refl }
says-byte_for Stream false = record { small = omega arith; kind = refl; form = refl }
says-byte_for Framed true = record { small = omega arith; kind = refl; form = refl }
says-byte_for Framed false = record { small = omega arith; kind = refl; form = refl }
says-byte_for Text true = record { small = omega arith; kind = refl; form = refl }
says-byte_for Text false = record { small = omega arith; kind = refl; form = refl }

pub says : {b : ℕ} (k : Kind) (hangs_up : Bool) → b ≡ byte_for k hangs_up → Says b k hangs_up
says k hangs_up e = rw e (says-byte_for k hangs_up)

-- ---- a client that is open

pub open-client : {R : ℕ} {s : Bytes} → HasOpen R s → HasClient R s
open-client h = record { taken-up = λ e. omega (arith, h.is_open); rules = h.rules }

pub open-reserve : {R : ℕ} {s : Bytes} → HasOpen R s → reserve_of (phase_of s) ≡ 64
open-reserve h = rw h.is_open

pub open-queue : {R : ℕ} {s : Bytes} → HasOpen R s → InStep 64 (queue_part R s)
open-queue h = rw (open-reserve h) at h.rules.queue

-- its parts, with one of the regions replaced
pub open-with : {R : ℕ} {s : Bytes} {p r q : Bytes} → HasOpen R s → subscriptions_fine p ≡ true → recording_fine r ≡ true
    → InStep 64 q → Fine R (length s) (phase_of s) (kind_byte s) p r q
open-with {R} {s} {p} {r} {q} h a b c =
    rw h.is_open (open-fine {k = kind_byte s} h.rules.sized h.rules.kind a b c)

-- ---- one region replaced

pub becomes-kind : {R : ℕ} {s : Bytes} {k : Kind} (b : ℕ) → HasClient R s → Says b k (hangs_up_in (kind_byte s))
    → Becomes R s (set s 1 b) (used (with_kind k (client_of R s)))
unfolding client_of with_kind
becomes-kind {R} {s} {k} b h l =
    let w = client-fine h in
    becomes (holds-kind w.sized (holds R s) b)
    (record {
      sized = w.sized;
      taken-up = w.taken-up;
      phase = w.phase;
      kind = l.small;
      subscriptions = w.subscriptions;
      recording = w.recording;
      queue = w.queue;
      no-patterns = w.no-patterns;
      no-recording = w.no-recording;
    })
    (rw (l.kind, l.form))

pub becomes-patterns : {R : ℕ} {s v : Bytes} {ps : Patterns} → HasOpen R s
    → subscriptions.Becomes ps (subscriptions_part s) v → Becomes R s (sets s 4 v) (used (with_patterns ps (client_of R s)))
unfolding client_of with_patterns
becomes-patterns {R} {s} {v} {ps} h b =
    let l : length v ≡ 4100 = b.size ∙ length-subscriptions_part s (omega (arith, h.rules.sized)) in
    becomes (holds-subscriptions h.rules.sized (holds R s) v l)
    (open-with h b.fine h.rules.recording (open-queue h))
    (ap
    (λ (x : Patterns).
    with_patterns x (image (phase_of s) (kind_byte s) (subscriptions_part s) (recording_part R s) (queue_part R s)))
    b.holds)

pub becomes-recording : {R : ℕ} {s v : Bytes} {m : Transaction} → HasOpen R s
    → recording.Becomes m (recording_part R s) v → Becomes R s (sets s 4104 v) (used (with_transaction m (client_of R s)))
unfolding client_of with_transaction
becomes-recording {R} {s} {v} {m} h b =
    let l : length v ≡ 12 + R = b.size ∙ length-recording_part R s (omega (arith, h.rules.sized)) in
    becomes (holds-recording h.rules.sized (holds R s) v l)
    (open-with h h.rules.subscriptions b.fine (open-queue h))
    (ap
    (λ (x : Transaction).
    with_transaction x (image (phase_of s) (kind_byte s) (subscriptions_part s) (recording_part R s) (queue_part R s)))
    b.holds)

pub becomes-queue : {R : ℕ} {s v : Bytes} {x : Queue} → HasClient R s → length v ≡ length (queue_part R s)
    → InStep (reserve_of (phase_of s)) v → queue_of v ≡ x
    → Becomes R s (sets s (4116 + R) v) (used (with_queue x (client_of R s)))
unfolding client_of with_queue
becomes-queue {R} {s} {v} {x} h l i e =
    let w = client-fine h in
    becomes (holds-queue w.sized (holds R s) v l)
    (record {
      sized = w.sized;
      taken-up = w.taken-up;
      phase = w.phase;
      kind = w.kind;
      subscriptions = w.subscriptions;
      recording = w.recording;
      queue = i;
      no-patterns = w.no-patterns;
      no-recording = w.no-recording;
    })
    (ap
    (λ (x : Queue).
    with_queue x (image (phase_of s) (kind_byte s) (subscriptions_part s) (recording_part R s) (queue_part R s)))
    e)

-- the queue behind a recording that is replaced
pub queue-behind : (R : ℕ) (s v : Bytes) → length v ≡ 12 + R → queue_part R (sets s 4104 v) ≡ queue_part R s
queue-behind R s v l = drop-sets s 4104 v (4116 + R) (omega arith)

-- ---- opening, closing, shutting and slipping

pub becomes-free : (R : ℕ) (s : Bytes) → 1 ≤ length s → Becomes R s (set s 0 0) free
becomes-free R s h =
    let e : phase_of (set s 0 0) ≡ 0 = get_or-set_same s 0 0 0 (omega arith) in
    record { size = length-sets s 0 (0 ∷ []); rules = λ n. absurd (n e); means = slot_of-free R (set s 0 0) e }

-- a recording and patterns emptied
pub stripping : {R : ℕ} {s p r : Bytes} → 4132 + R ≤ length s → subscriptions.Becomes [] (subscriptions_part s) p
    → recording.Becomes off (recording_part R (sets s 4 p)) r → Stripping R s (sets (sets s 4 p) 4104 r)
unfolding client_of
stripping {R} {s} {p} {r} n bp br =
    let lp : length p ≡ 4100 = bp.size ∙ length-subscriptions_part s (omega arith) in
    let h₁ = holds-subscriptions n (holds R s) p lp in
    let lr : length r ≡ 12 + R = br.size ∙ length-recording_part R (sets s 4 p) (omega (arith, length-sets s 4 p)) in
    let h = holds-recording n h₁ r lr in
    record {
      size = h.size;
      same-phase = h.phase;
      same_kind = h.kind;
      subscriptions = rw h.subscriptions bp.fine;
      recording = rw h.recording br.fine;
      bare =
          record {
            no-patterns = ap patterns_of h.subscriptions ∙ bp.holds;
            no-recording = ap transaction_of h.recording ∙ br.holds;
          };
      same_queue = h.queue;
    }

holds-stripped : {R : ℕ} {s s₁ : Bytes} {n f k : ℕ} {p r q : Bytes} → Holds R s n f k p r q → Stripping R s s₁
    → Holds R s₁ n f k (subscriptions_part s₁) (recording_part R s₁) q
holds-stripped h w =
    record {
      size = w.size ∙ h.size;
      phase = w.same-phase ∙ h.phase;
      kind = w.same_kind ∙ h.kind;
      subscriptions = refl;
      recording = refl;
      queue = w.same_queue ∙ h.queue;
    }

pub becomes-opened : {R : ℕ} {s s₁ q : Bytes} {k : Kind} {hangs_up : Bool} (b : ℕ) → Sized R s
    → Stripping R (set (set s 0 1) 1 b) s₁ → Clearing (queue_part R s₁) q → Says b k hangs_up
    → Becomes R s (sets s₁ (4116 + R) q) (used (new_client (opening_with k hangs_up)))
unfolding new_client client_of
becomes-opened {R} {s} {s₁} {q} {k} {hangs_up} b z w bq l =
    let n : 4132 + R ≤ length s = omega (arith, z.queue-room) in
    let h = holds-stripped (holds-kind n (holds-phase n (holds R s) 1) b) w in
    let g : Clearing (queue_part R s) q = rw h.queue at bq in
    let m : 64 ≤ room (queue_part R s) = rw (room-queue_part R s) (omega (arith, z.queue-room)) in
    becomes (holds-queue n h q g.size)
    (open-fine n l.small w.subscriptions w.recording (g.fine 64 m).in_step)
    (rw (l.kind, l.form, w.bare.no-patterns, w.bare.no-recording, g.meaning))

-- one message queued is one row more
error-queued : (k : Kind) (x : Refusal) (q : Queue) → Q.with_error k x q ≡ in_bytes.appended q (written k (error x) ∷ [])
unfolding rows
error-queued k x q = rw (append-nil (row (written k (error x))))

-- and charges as much
pub error_fits-queued : (n : ℕ) (k : Kind) (x : Refusal) (q : Queue)
    → fits_behind n k x q ≡ queue_fits n (in_bytes.charge (in_bytes.appended q (written k (error x) ∷ [])))
unfolding fits_behind fits queue_fits rows
error_fits-queued n k x q =
    rw (
      append-nil (row (written k (error x))),
      length-append q.queued (row (written k (error x))),
      add-zero (length q.queued),
    )

pub becomes-refused : {R : ℕ} {s s₁ q : Bytes} (x : Refusal) → HasOpen R s → Stripping R (set s 0 2) s₁
    → PuttingError (kind_in (kind_byte s)) x (queue_part R s₁) q
    → Becomes R s (sets s₁ (4116 + R) q) (used (refused x (client_of R s)))
unfolding client_of shut_by
becomes-refused {R} {s} {s₁} {q} x h w bq =
    let n : 4132 + R ≤ length s = h.rules.sized in
    let h₁ = holds-stripped (holds-phase n (holds R s) 2) w in
    let g : PuttingError (kind_in (kind_byte s)) x (queue_part R s) q = rw h₁.queue at bq in
    becomes (holds-queue n h₁ q g.size)
    (record {
      sized = n;
      taken-up = λ e. omega arith;
      phase = omega arith;
      kind = h.rules.kind;
      subscriptions = w.subscriptions;
      recording = w.recording;
      queue = g.fine.0.in_step;
      no-patterns = λ _. w.bare.no-patterns;
      no-recording = λ _. w.bare.no-recording;
    })
    (rw (
      w.bare.no-patterns,
      w.bare.no-recording,
      g.meaning,
      error-queued (kind_in (kind_byte s)) x (queue_of (queue_part R s)),
    ))

pub becomes-slipped : {R : ℕ} {s v q : Bytes} (x : Refusal) → HasOpen R s
    → error_fits (room_of R s) x (client_of R s) ≡ true
    → recording.Becomes (after_slip (client_of R s).transaction) (recording_part R s) v
    → PuttingError (kind_in (kind_byte s)) x (queue_part R (sets s 4104 v)) q
    → Becomes R s (sets (sets s 4104 v) (4116 + R) q) (used (slipped x (client_of R s)))
unfolding client_of slipped with_error with_queue with_transaction
becomes-slipped {R} {s} {v} {q} x h f br bq =
    let n : 4132 + R ≤ length s = h.rules.sized in
    let l : length v ≡ 12 + R = br.size ∙ length-recording_part R s (omega arith) in
    let h₁ = holds-recording n (holds R s) v l in
    let k : Kind = kind_in (kind_byte s) in
    let g : PuttingError k x (queue_part R s) q = rw h₁.queue at bq in
    let e : fits_behind (room (queue_part R s)) k x (queue_of (queue_part R s)) ≡ true =
    error_fits-queued (room (queue_part R s)) k x (queue_of (queue_part R s)) ∙ rw (room-queue_part R s) f in
    becomes (holds-queue n h₁ q g.size)
    (open-with h h.rules.subscriptions br.fine (g.fine.1 e).in_step)
    (rw (br.holds, g.meaning, error-queued k x (queue_of (queue_part R s))))
