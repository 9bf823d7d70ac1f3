use mathlib.Core.Path.{sym, ◌∙◌}
use Rattle.slot.proofs.Operations.{lent-queue, open-queue, open-client, open-reserve}
use Rattle.slot.proofs.Lent.{lent-queued}
use Rattle.slot.proofs.Resting.{settled-refused, settled-queued}
use Rattle.slot.proofs.queueing.settle_open.Goals as goal

pub returns-then-is_overflown : goal.returns-then-is_overflown
returns-then-is_overflown c =
    rw (settled-refused c.requires (sym (rw (lent-queue c.args.r c.args.s.now) at c.is_overflown.ensures) ∙ c.if-is_overflown.true)) c.refuse.ensures

pub returns-else-is_overflown : goal.returns-else-is_overflown
returns-else-is_overflown c =
    let h = c.requires in
    let b = rw (lent-queue c.args.r c.args.s.now) at c.settle.ensures in
    rw (settled-queued h (sym (rw (lent-queue c.args.r c.args.s.now) at c.is_overflown.ensures) ∙ c.if-is_overflown.false))
    (lent-queued (open-client h) b (rw (open-reserve h) (b.fine 64 (open-queue h)).in_step))
