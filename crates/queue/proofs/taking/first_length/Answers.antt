use mathlib.Core.Path.{◌≡◌, sym, ◌∙◌}
use native.Mathlib.Omega.{arith}
use Rattle.queue.specs.Region.{head, tail}
use Rattle.queue.proofs.First.{first_length-short, first_length-queued_of}
use Rattle.queue.proofs.taking.first_length.Goals as goal

pub returns-then-queued-lt4 : goal.returns-then-queued-lt4
returns-then-queued-lt4 c = sym (first_length-short c.requires.in_step (omega arith))

pub returns : goal.returns
returns c =
    let q = c.args.q.now in
    let h : c.of-head.result.head ≡ head q = c.of-head.ensures.head in
    let t : c.of-head.result.tail ≡ tail q = c.of-head.ensures.tail in
    let n = c.number_at.ensures.value in
    c.min.ensures ∙ rw (n, h, t) (sym (first_length-queued_of c.requires.in_step (omega arith)))
