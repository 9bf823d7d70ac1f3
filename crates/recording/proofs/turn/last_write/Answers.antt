use native.Mathlib.Omega.{arith}
use Rattle.recording.proofs.Regions.{fine-rules}
use Rattle.recording.proofs.Walks.{row_here}
use Rattle.recording.proofs.Turns.{look-start, look-row, look-next, look-end, option_copied-or}
use Rattle.recording.proofs.turn.last_write.Goals as goal

pub loop-at-init : goal.loop-at-init
loop-at-init c = look-start c.args.r.now c.args.key.now c.args.until c.requires

pub write_at-requires : goal.write_at-requires
write_at-requires c =
    look-row c.args.r.now c.args.key.now c.args.until c.loop-at.at _ c.requires (omega arith) c.loop-at.invariant

pub row_size-at-requires : goal.row_size-at-requires
row_size-at-requires c =
    look-row c.args.r.now c.args.key.now c.args.until c.loop-at.at _ c.requires (omega arith) c.loop-at.invariant

pub overflow_add-at : goal.overflow_add-at
overflow_add-at c =
    let w = row_here c.args.r.now c.loop-at.at
    (look-row c.args.r.now c.args.key.now c.args.until c.loop-at.at _ c.requires (omega arith) c.loop-at.invariant) in
    omega (arith, w.within, (fine-rules c.requires.fine).used, (fine-rules c.requires.fine).short)

pub loop-at-smaller : goal.loop-at-smaller
loop-at-smaller c =
    let w = row_here c.args.r.now c.loop-at.at
    (look-row c.args.r.now c.args.key.now c.args.until c.loop-at.at _ c.requires (omega arith) c.loop-at.invariant) in
    omega (arith, w.size)

pub loop-at-preserved : goal.loop-at-preserved
loop-at-preserved c =
    rw (c.or-found.ensures, option_copied-or c.write_at.result c.loop-at.found, c.write_at.ensures, c.row_size-at.ensures)
    (look-next c.args.r.now c.args.key.now c.args.until c.loop-at.at _ c.requires (omega arith) c.loop-at.invariant)

pub returns : goal.returns
returns c =
    look-end c.args.r.now c.args.key.now c.args.until c.loop-at.at _ (omega arith) c.loop-at.invariant
