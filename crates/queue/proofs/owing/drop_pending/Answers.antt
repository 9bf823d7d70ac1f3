use native.Mathlib.Omega.{arith}
use Rattle.queue.proofs.Operations.{dropping}
use Rattle.queue.proofs.owing.drop_pending.Goals as goal

pub returns : goal.returns
returns c =
    rw (c.put_number-2.ensures, c.put_number.ensures, c.from.ensures)
    (dropping c.args.q.now c.args.overflown _ (omega arith) c.requires)
