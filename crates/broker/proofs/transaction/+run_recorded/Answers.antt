-- `broker::transaction::run_recorded` meets its contract, one recorded action at a time.
use mathlib.Core.Path.{◌≡◌, ap, ◌∙◌}
use mathlib.Core.List.{List}
use Prim.Native.Nat.{ℕ, ◌+◌, ◌-◌, ◌<◌}
use native.Mathlib.Omega.{arith}
use lib.ListN.{length, drop}
use Rattle.octets.specs.Octets.{Bytes}
use Rattle.recording.specs.Encoding.{row_size}
use Rattle.recording.specs.Region.{rows_of, recorded}
use Rattle.store.specs.Index.{Indexes}
use Rattle.memory.specs.Image.{image_of}
use Rattle.broker.specs.CommitParts.{recorded_in, Committing, recording_from, RowTurned}
use Rattle.broker.proofs.Recorded.{in-used, recording-fine, payload-short}
use Rattle.broker.proofs.Running.{committing-count, committing-end, committing-row, committing-within}
use Rattle.broker.proofs.Running.{committing-turn, committing-short, committing-next, committing-fewer}
use Rattle.broker.proofs.Running.{committing-then}
use Rattle.broker.proofs.transaction.+run_recorded.Goals as goal
use Rattle.broker.proofs.transaction.+run_recorded.Goals.{then-size-le4100, else-size-le4100}

-- ---- the actions left

pub count-requires : goal.count-requires
count-requires t c = rw c.recording_part-recording.ensures (recording-fine (in-used c.requires.0.in-open))

pub returns-then-count-i : goal.returns-then-count-i
returns-then-count-i t c =
    let n = committing-count c.requires.0 c.recording_part-recording.ensures c.count.ensures in
    committing-end c.requires.0 (omega (arith, c.if-count-i.true, n))

-- an action is left
more : {m r : Bytes} {i k at n : ℕ} → Committing m i k at → r ≡ recording_from m i → n ≡ length (recorded r) → k < n
    → k < length (recorded_in m i)
more h e f l = omega (arith, l, committing-count h e f)

-- the size of its row
size : (m : Bytes) (i at : ℕ) {r : Bytes} {n : ℕ} → r ≡ recording_from m i → n ≡ row_size (drop at (rows_of r))
    → n ≡ row_size (drop at (rows_of (recording_from m i)))
size m i at e f = f ∙ ap (λ (r : Bytes). row_size (drop at (rows_of r))) e

-- the others, after its turn, with the index that the turn leaves
others : {m m' : Bytes} {i k at n t : ℕ} {index : List ℕ} → length (recorded_in m i) - k ≡ t → Committing m i k at
    → k < length (recorded_in m i) → n ≡ row_size (drop at (rows_of (recording_from m i)))
    → RowTurned m i at m' × Indexes (image_of m').store index
    → (length (recorded_in m' i) - (k + 1) < t)
    × (Committing m' i (k + 1) (at + n) × Indexes (image_of m').store index)
others e h l s b = (omega (arith, e, committing-fewer h l b.0), (committing-next h l b.0 s, b.1))

-- ---- the next row

pub row_size-size-requires : goal.row_size-size-requires
row_size-size-requires t c =
    rw c.recording_part-recording.ensures
    (committing-row c.requires.0
    (more c.requires.0 c.recording_part-recording.ensures c.count.ensures c.if-count-i.false))

-- a row of at most 4,100 bytes
pub run_row-requires : goal.run_row-requires
run_row-requires t c =
    let h = c.requires.0 in
    let l = more h c.recording_part-recording.ensures c.count.ensures c.if-count-i.false in
    let n = size _ _ _ c.recording_part-recording.ensures c.row_size-size.ensures in
    (committing-turn h l, committing-short h l n c.if-size-le4100.true, omega arith, c.requires.1)

-- a row of any length
pub run_row-requires-else-size-le4100 : goal.run_row-requires-else-size-le4100
run_row-requires-else-size-le4100 t c =
    let h = c.requires.0 in
    let r =
    committing-turn h (more h c.recording_part-recording.ensures c.count.ensures c.if-count-i.false) in
    let s : Bytes = drop c.args.at (rows_of (recording_from c.args.mem.now c.args.slot)) in
    (r, payload-short s r.row.here, omega arith, c.requires.1)

pub overflow_add-at : goal.overflow_add-at
overflow_add-at t c =
    let h = c.requires.0 in
    let l = more h c.recording_part-recording.ensures c.count.ensures c.if-count-i.false in
    let n = size _ _ _ c.recording_part-recording.ensures c.row_size-size.ensures in
    record { fits = omega (arith, committing-within h l n) }

-- ---- the others

pub run_recorded-requires : goal.run_recorded-requires
run_recorded-requires t c =
    let h = c.requires.0 in
    let b : RowTurned c.args.mem.now c.args.slot c.args.at c.if-size-le4100.mem
    × Indexes (image_of c.if-size-le4100.mem).store c.if-size-le4100.index =
    elim c.if-size-le4100.branch [
      | then-size-le4100 w ↦ rw (w.mem-is, w.index-is) w.run_row.ensures
      | else-size-le4100 w ↦ rw (w.mem-is, w.index-is) w.run_row-else-size-le4100.ensures
    ] in
    others c.decreases h (more h c.recording_part-recording.ensures c.count.ensures c.if-count-i.false)
    (size _ _ _ c.recording_part-recording.ensures c.row_size-size.ensures) b

pub returns : goal.returns
returns t c =
    let h = c.requires.0 in
    let b : RowTurned c.args.mem.now c.args.slot c.args.at c.if-size-le4100.mem =
    elim c.if-size-le4100.branch [
      | then-size-le4100 w ↦ rw w.mem-is w.run_row.ensures.0
      | else-size-le4100 w ↦ rw w.mem-is w.run_row-else-size-le4100.ensures.0
    ] in
    committing-then h (more h c.recording_part-recording.ensures c.count.ensures c.if-count-i.false)
    b c.run_recorded.ensures
