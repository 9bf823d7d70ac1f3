-- What the rules of a slot with a client say of its image: how much is queued, how many patterns are held, what is recorded.
use mathlib.Core.Path.{◌≡◌, sym, ap, ◌∙◌}
use mathlib.Core.List.{List}
use mathlib.Core.Bool.{true}
use Prim.Native.Nat.{ℕ, ◌+◌, ◌-◌, ◌≤◌}
use native.Mathlib.Omega.{arith}
use lib.ListN.{length}
use borrow.Author.Tests.{eqb-true, le-leb}
use Rattle.octets.specs.Octets.{Bytes}
use Rattle.octets.specs.Part.{part}
use Rattle.octets.proofs.Parts.{length_part}
use Rattle.protocol.specs.Terms.{Action}
use Rattle.model.specs.State.{begun, actions_in, recording_charge, recording_fits}
use Rattle.queue.specs.Meaning.{kept, kept_rows, is_overflown}
use Rattle.queue.specs.Region.{InStep, pending_of, tail, pending_end}
use Rattle.queue.proofs.Regions.{length-queued_of, pending_of-kept, kept-flag}
use Rattle.recording.specs.Region.{used_of, count_of}
use Rattle.recording.specs.Region as recordings
use Rattle.recording.proofs.Tests.{and-true-true}
use Rattle.recording.proofs.Regions.{fine-rules, used-charge, count-recorded, recorded-actions}
use Rattle.slot.specs.Region.{phase_of, recording_part, client_of, Bare}
use Rattle.slot.specs.Promises.{room_of, HasClient, HasOpen}
use Rattle.slot.proofs.Operations.{length-recording_part, room-queue_part, open-queue}
use Rattle.slot.proofs.Lent.{few-patterns}

-- ---- the queue

pending-length : {k : ℕ} {q p : Bytes} → InStep k q → pending_of q ≡ kept p → length p ≡ pending_end q - tail q
unfolding is_overflown kept_rows
pending-length {k} {q} {p} i e =
    let f = kept-flag q (ap is_overflown e) in
    let g : part q (16 + tail q) (pending_end q - tail q) ≡ p = ap kept_rows (sym (pending_of-kept q f) ∙ e) in
    sym (ap length g) ∙ length_part q (16 + tail q) (pending_end q - tail q) (omega arith)

-- an open client's queue leaves 64 bytes of its room
pub open-queued : {R : ℕ} {s : Bytes} → HasOpen R s → length (client_of R s).queue.queued + 64 ≤ room_of R s
unfolding client_of
open-queued {R} {s} h =
    let i = open-queue h in
    omega (arith, length-queued_of i, room-queue_part R s)

-- and so does what is pending beside it
pub open-pending : {R : ℕ} {s p : Bytes} → HasOpen R s → (client_of R s).queue.pending ≡ kept p
    → length (client_of R s).queue.queued + length p + 64 ≤ room_of R s
unfolding client_of
open-pending {R} {s} h e =
    let i = open-queue h in
    omega (arith, length-queued_of i, pending-length i e, room-queue_part R s)

-- any client's queue is within its room
pub client-queued : {R : ℕ} {s : Bytes} → HasClient R s → length (client_of R s).queue.queued ≤ room_of R s
unfolding client_of
client-queued {R} {s} h =
    let i = h.rules.queue in
    omega (arith, length-queued_of i, room-queue_part R s)

-- ---- the patterns and the recording

pub client-patterns : {R : ℕ} {s : Bytes} → HasClient R s → length (client_of R s).patterns ≤ 16
unfolding client_of
client-patterns h = few-patterns h.rules

pub shut-bare : {R : ℕ} {s : Bytes} → HasClient R s → (client_of R s).shut ≡ true → Bare (client_of R s)
unfolding client_of
shut-bare {R} {s} h e = h.rules.bare (eqb-true (phase_of s) 2 e)

pub client-recording : {R : ℕ} {s : Bytes} {xs : List Action} → HasClient R s → (client_of R s).transaction ≡ begun xs
    → recording_fits R xs ≡ true
unfolding client_of recording_fits
client-recording {R} {s} {xs} h e =
    let r = recording_part R s in
    let w = fine-rules h.rules.recording in
    let g : recordings.recorded r ≡ xs = recorded-actions r h.rules.recording ∙ ap actions_in e in
    let l : count_of r ≡ length xs = count-recorded r ∙ ap length g in
    let u : used_of r ≡ recording_charge xs = used-charge r h.rules.recording ∙ ap recording_charge g in
    and-true-true (le-leb (length xs) 64 (omega (arith, w.few)))
    (le-leb (recording_charge xs) R
    (omega (arith, w.used, length-recording_part R s (omega (arith, h.rules.sized)))))
