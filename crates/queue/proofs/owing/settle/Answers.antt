use mathlib.Core.Path.{◌≡◌}
use Rattle.queue.specs.Region.{pending_end}
use Rattle.queue.proofs.Regions.{kept-flag}
use Rattle.queue.proofs.Operations.{settling}
use Rattle.queue.proofs.owing.settle.Goals as goal

pub returns : goal.returns
returns c =
    let q = c.args.q.now in
    let e : c.of-end.result.end ≡ pending_end q = c.of-end.ensures.pending_end in
    rw (c.put_number.ensures, e) (settling q c.requires.0 (kept-flag q c.requires.1))
