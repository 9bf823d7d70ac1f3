use Rattle.slot.specs.Image.{slipped}
use Rattle.memory.proofs.Lent.{open-used, lent-queue, lent-open-client, lent-open-resting, lent_placed}
use Rattle.memory.proofs.Returned.{lent-changes}
use Rattle.memory.proofs.queues.slip.Goals as goal

pub slip-requires : goal.slip-requires
slip-requires c =
    let h = c.requires.in-resting.in-open.in-slot in
    let p = c.slot_extent-s.ensures in
    let l = lent_placed h p in
    let q = c.requires in (
      lent-open-resting l q.in-resting,
      rw (lent-queue l, lent-open-client l q.in-resting.in-open.has-open) q.fits,
    )

pub returns : goal.returns
returns c =
    let h = c.requires.in-resting.in-open.in-slot in
    let p = c.slot_extent-s.ensures in
    lent-changes h p (slipped c.args.refusal) (open-used _ c.requires.in-resting.in-open.has-open) c.slip.ensures
