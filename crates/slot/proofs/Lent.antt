-- What an operation makes of a slot when code lends it a region of the slot and the region comes back.
use mathlib.Core.Path.{◌≡◌, sym}
use mathlib.Core.List.{[], ◌∷◌, ◌++◌}
use mathlib.Core.Bool.{Bool, true}
use Prim.Native.Nat.{ℕ, ◌+◌, ◌-◌, ◌≤◌}
use native.Mathlib.Omega.{arith}
use lib.ListN.{length, take, drop}
use borrow.Rule.Slice.PartMut.{put_mid}
use Rattle.octets.specs.Octets.{Bytes}
use Rattle.protocol.specs.Terms.{Message}
use Rattle.protocol.specs.declared.Kind.{Kind}
use Rattle.message.specs.Forms.{written}
use Rattle.model.specs.Patterns.{Patterns}
use Rattle.queue.specs.Meaning.{Queue, owing}
use Rattle.queue.specs.Region.{InStep, queue_of, room}
use Rattle.queue.specs.Post.{Outcome}
use Rattle.recording.specs.Encoding.{action_of}
use Rattle.recording.specs.Region.{sized}
use Rattle.recording.specs.Region as recordings
use Rattle.recording.specs.Promises as recording
use Rattle.recording.proofs.Regions.{fine-rules, recorded-actions}
use Rattle.subscriptions.specs.Region.{patterns_of}
use Rattle.subscriptions.specs.Promises as subscriptions
use Rattle.subscriptions.proofs.Cells.{length-patterns_of}
use Rattle.subscriptions.proofs.Cells as cells
use Rattle.model.specs.State.{begun, Transaction, actions_in, used, with_patterns, with_transaction, with_queue}
use Rattle.slot.specs.Image.{recorded, owed}
use Rattle.slot.specs.Region.{phase_of, kind_byte, subscriptions_part, recording_part, queue_part, kind_in, client_of}
use Rattle.slot.specs.Region.{reserve_of, ClientRules}
use Rattle.slot.specs.Promises.{room_of, HasClient, HasOpen, Becomes, Fits, Recordable, Addable}
use Rattle.slot.proofs.Operations.{length-recording_part, room-queue_part, lent-recording, sized-recording_part, back-subscriptions}
use Rattle.slot.proofs.Operations.{back-recording, back-queue, open-client, open-reserve}
use Rattle.slot.proofs.Operations.{becomes-patterns, becomes-recording, becomes-queue}

-- ---- bounds

pub record-room : {R : ℕ} {s : Bytes} → ClientRules R s → R ≤ 262144
record-room {R} {s} w =
    omega (arith, length-recording_part R s (omega (arith, w.sized)), (fine-rules w.recording).short)

pub few-patterns : {R : ℕ} {s : Bytes} → ClientRules R s → length (patterns_of (subscriptions_part s)) ≤ 16
few-patterns {R} {s} w = omega (arith, length-patterns_of (subscriptions_part s), (cells.fine-rules w.subscriptions).few)

pub lent-sized : {R : ℕ} {s : Bytes} → ClientRules R s → sized (take (4116 + R - 4104) (drop 4104 s)) ≡ true
lent-sized {R} {s} w =
    rw (lent-recording R s) (sized-recording_part R s (record-room w) (omega (arith, w.sized)))

-- ---- patterns

pub lent-patterns : {R : ℕ} {s v : Bytes} {ps : Patterns} → HasOpen R s
    → subscriptions.Becomes ps (subscriptions_part s) v
    → Becomes R s (put_mid 4 4100 s v) (used (with_patterns ps (client_of R s)))
lent-patterns {R} {s} {v} h b =
    rw (back-subscriptions s v (omega (arith, h.rules.sized)) b.size) (becomes-patterns h b)

pub addable-part : {R : ℕ} {s p : Bytes} → Addable R s p → subscriptions.Addable (subscriptions_part s) p
unfolding client_of
addable-part a = record { fine = a.client.rules.subscriptions; short = a.short; few = a.few }

-- ---- the recording

pub lent-record : {R : ℕ} {s v : Bytes} {m : Transaction} → HasOpen R s
    → recording.Becomes m (take (4116 + R - 4104) (drop 4104 s)) v
    → Becomes R s (put_mid 4104 (4116 + R - 4104) s v) (used (with_transaction m (client_of R s)))
lent-record {R} {s} {v} {m} h b =
    let g : recording.Becomes m (recording_part R s) v = rw (lent-recording R s) at b in
    rw (back-recording R s v (omega (arith, h.rules.sized)) g.size) (becomes-recording h g)

recorded_part : {R : ℕ} {s : Bytes} → ClientRules R s
    → actions_in (client_of R s).transaction ≡ recordings.recorded (recording_part R s)
unfolding client_of
recorded_part {R} {s} w = sym (recorded-actions (recording_part R s) w.recording)

room-part : {R : ℕ} {s : Bytes} → ClientRules R s → length (recording_part R s) - 12 ≡ R
room-part {R} {s} w = omega (arith, length-recording_part R s (omega (arith, w.sized)))

pub fits-part : {R n : ℕ} {s : Bytes} {b : Bool} → HasClient R s → recording.Fits (recording_part R s) n b
    → Fits R (client_of R s) n b
fits-part {R} {n} {s} h f =
    record {
      value = λ a l. rw (recorded_part h.rules) (rw (room-part h.rules) at (f.value a l));
    }

pub recordable-part : {R id : ℕ} {s p : Bytes} → Recordable R s id p → recording.Addable (recording_part R s) id p
unfolding client_of
recordable-part {R} {id} {s} {p} a =
    record {
      fine = a.client.rules.recording;
      known = a.known;
      fits = rw (room-part a.client.rules, ← (recorded_part a.client.rules)) a.fits;
    }

pub lent-recorded : {R id : ℕ} {s p v : Bytes} → Recordable R s id p
    → recording.Becomes (begun (recordings.recorded (recording_part R s) ++ (action_of id p ∷ []))) (recording_part R s) v
    → Becomes R s (put_mid 4104 (4116 + R - 4104) s v) (used (recorded (action_of id p) (client_of R s)))
unfolding recorded
lent-recorded {R} {id} {s} {p} {v} a b =
    rw (back-recording R s v (omega (arith, a.client.rules.sized)) b.size)
    (becomes-recording a.client (rw (← (recorded_part a.client.rules)) at b))

-- ---- the queue

pub lent-queued : {R : ℕ} {s v : Bytes} {x : Queue} {Rule : Type 0} → HasClient R s → Outcome Rule (queue_part R s) v x
    → InStep (reserve_of (phase_of s)) v
    → Becomes R s (put_mid (4116 + R) (length s - (4116 + R)) s v) (used (with_queue x (client_of R s)))
lent-queued {R} {s} {v} h o i =
    rw (back-queue R s v (omega (arith, h.rules.sized)) o.size) (becomes-queue h o.size i o.meaning)

pub lent_owed : {R : ℕ} {s v : Bytes} (m : Message) (k : Kind) → HasOpen R s → k ≡ kind_in (kind_byte s)
    → Outcome (InStep 64 v) (queue_part R s) v (owing (room (queue_part R s)) (written k m) (queue_of (queue_part R s)))
    → Becomes R s (put_mid (4116 + R) (length s - (4116 + R)) s v) (used (owed (room_of R s) m (client_of R s)))
unfolding owed client_of
lent_owed {R} {s} {v} m k h e o =
    lent-queued (open-client h) (rw (room-queue_part R s, e) at o) (rw (open-reserve h) o.fine)
