use Rattle.model.specs.Queue.{after_take}
use Rattle.model.specs.State.{with_queue}
use Rattle.slot.specs.Region.{client_of, phase_of, reserve_of}
use Rattle.slot.proofs.Operations.{lent-queue}
use Rattle.slot.proofs.Lent.{lent-queued}
use Rattle.slot.proofs.Resting.{resting-queue, resting-queue-any}
use Rattle.slot.proofs.queueing.take.Goals as goal

pub take-requires : goal.take-requires
unfolding client_of
take-requires c = rw (lent-queue c.args.r c.args.s.now) (resting-queue-any c.requires.0, c.requires.1)

pub returns : goal.returns
unfolding client_of after_take with_queue
returns c =
    let b = rw (lent-queue c.args.r c.args.s.now) at c.take.ensures in
    let h = c.requires.0 in
    record {
      count = b.message.count;
      copied = b.message.copied;
      left = lent-queued h.client b.left (b.left.fine (reserve_of (phase_of c.args.s.now)) (resting-queue h)).in_step;
    }
