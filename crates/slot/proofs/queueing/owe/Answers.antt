use Rattle.message.specs.Writing.{said}
use Rattle.slot.proofs.Operations.{lent-queue}
use Rattle.slot.proofs.Lent.{lent_owed}
use Rattle.slot.proofs.queueing.owe.Goals as goal

pub returns : goal.returns
returns c =
    let A = c.args in
    lent_owed (said A.message A.body.now) c.from-kind.result.kind c.requires.0 c.from-kind.ensures.0
    (rw (lent-queue A.r A.s.now) at c.owe.ensures)
