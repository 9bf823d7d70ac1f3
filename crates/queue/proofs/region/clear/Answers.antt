use Rattle.queue.proofs.Operations.{clearing}
use Rattle.queue.proofs.region.clear.Goals as goal

pub returns : goal.returns
returns c =
    rw (
      c.put_number-4.ensures,
      c.put_number-3.ensures,
      c.put_number-2.ensures,
      c.put_number.ensures,
    )
    (clearing c.args.q.now c.requires.0 c.requires.1)
