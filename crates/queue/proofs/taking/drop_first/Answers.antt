use mathlib.Core.Path.{◌≡◌}
use native.Mathlib.Omega.{arith}
use Rattle.queue.specs.Rows.{first_length}
use Rattle.queue.specs.Region.{head, queued_of}
use Rattle.queue.proofs.Regions.{length-queued_of}
use Rattle.queue.proofs.First.{first_length-most, last_taken, first_taken}
use Rattle.queue.proofs.taking.drop_first.Goals as goal

pub overflow_add-n : goal.overflow_add-n
overflow_add-n c =
    omega (arith, first_length-most (queued_of c.args.q.now), length-queued_of c.requires.0.in_step)

pub returns-then-tail-head : goal.returns-then-tail-head
returns-then-tail-head c =
    let q = c.args.q.now in
    let e : c.args.n ≡ first_length (queued_of q) = c.requires.1 in
    last_taken q c.clear.new.q c.requires.0 (omega arith) c.clear.ensures

pub returns-else-tail-head : goal.returns-else-tail-head
returns-else-tail-head c =
    let q = c.args.q.now in
    let e : c.args.n ≡ first_length (queued_of q) = c.requires.1 in
    let h : c.of-head.result.head ≡ head q = c.of-head.ensures.head in
    rw c.put_number.ensures (first_taken q _ c.requires.0 (omega arith) (omega arith))
