use mathlib.Core.Path.{◌≡◌, sym, ◌∙◌}
use Prim.Native.Nat.{◌+◌, ◌-◌, ◌≤◌}
use native.Mathlib.Omega.{arith}
use Rattle.queue.specs.Rows.{first_length, first_message}
use Rattle.queue.specs.Region.{head, tail, queued_of}
use Rattle.queue.proofs.First.{first-within, first_message-queued_of}
use Rattle.queue.proofs.taking.copy_first.Goals as goal
use Rattle.queue.proofs.taking.copy_first.Goals.{Else-n-eq0}

-- the first message lies within what is queued
within : (c : Else-n-eq0) → (
    let q = c.args.q.now in
    4 + head q + c.first_length-n.result ≤ tail q)
within c =
    let q = c.args.q.now in
    let en : c.first_length-n.result ≡ first_length (queued_of q) = c.first_length-n.ensures in
    rw en (first-within c.requires.in_step (λ z. c.if-n-eq0.false (en ∙ z)))

pub returns-then-n-eq0 : goal.returns-then-n-eq0
unfolding first_message
returns-then-n-eq0 c =
    let e : first_length (queued_of c.args.q.now) ≡ 0 = omega arith in
    record { count = sym e; copied = rw e }

pub overflow_add-at-2 : goal.overflow_add-at-2
overflow_add-at-2 c = omega (arith, within (goal.at.overflow_add-at-2 c).Else-n-eq0)

pub slice_bounds-copy-end : goal.slice_bounds-copy-end
slice_bounds-copy-end c = omega (arith, within (goal.at.slice_bounds-copy-end c).Else-n-eq0)

pub returns : goal.returns
returns c =
    let q = c.args.q.now in
    let n = c.first_length-n.result in
    let en : n ≡ first_length (queued_of q) = c.first_length-n.ensures in
    let h : c.of-at.result.head ≡ head q = c.of-at.ensures.head in
    let k : 20 + head q + first_length (queued_of q) - (20 + head q) ≡ first_length (queued_of q) = omega arith in
    record {
      count = en;
      copied = rw (h, en, k, ← (first_message-queued_of c.requires.in_step)) at c.copy.ensures;
    }
