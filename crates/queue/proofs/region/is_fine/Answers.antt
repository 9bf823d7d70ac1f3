use mathlib.Core.Path.{sym}
use native.Mathlib.Omega.{arith}
use borrow.Author.Tests.{ne_eqb}
use Rattle.queue.proofs.Regions.{not-fine, fine-flag, fine-clear}
use Rattle.queue.proofs.region.is_fine.Goals as goal
use Rattle.queue.proofs.region.is_fine.Goals.{then-tail-head-via-then-tail-head, then-tail-head-via-else-tail-head+then-q-tail, then-room-queued-via-then-room-queued, then-room-queued-via-else-room-queued+then-room-queued-2}

pub returns-then-q-lt16 : goal.returns-then-q-lt16
returns-then-q-lt16 c = sym (not-fine c.args.reserve c.args.q.now (λ r. omega (arith, c.then-q-lt16.either)))

pub returns-then-tail-head : goal.returns-then-tail-head
returns-then-tail-head c =
    sym (not-fine c.args.reserve c.args.q.now
    (λ r. elim c.then-tail-head.branch [
      | then-tail-head-via-then-tail-head w ↦ omega arith
      | then-tail-head-via-else-tail-head+then-q-tail w ↦ omega arith
    ]))

pub returns-then-room-queued : goal.returns-then-room-queued
returns-then-room-queued c =
    sym (not-fine c.args.reserve c.args.q.now
    (λ r. elim c.then-room-queued.branch [
      | then-room-queued-via-then-room-queued w ↦ omega arith
      | then-room-queued-via-else-room-queued+then-room-queued-2 w ↦ omega arith
    ]))

pub returns-then-end-tail : goal.returns-then-end-tail
returns-then-end-tail c =
    fine-clear c.args.reserve c.args.q.now c.of-head.result.overflown c.of-head.ensures.flag
    (fine-flag c.args.reserve c.args.q.now (omega arith) (omega arith) (omega arith) (omega arith) (omega arith)
    (omega arith))

pub returns-else-end-tail : goal.returns-else-end-tail
returns-else-end-tail c =
    rw (ne_eqb _ _ c.if-end-tail.false)
    (sym (not-fine c.args.reserve c.args.q.now (λ r. c.if-end-tail.false (omega arith))))
