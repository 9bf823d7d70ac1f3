use mathlib.Core.Path.{◌≡◌, ◌∙◌}
use native.Mathlib.Omega.{arith}
use Prim.Native.Nat.{◌+◌, ◌≤◌}
use lib.ListN.{length, length-set}
use Rattle.slot.proofs.Operations.{lent-queue, back-queue, becomes-refused}
use Rattle.slot.proofs.Lent.{record-room}
use Rattle.slot.proofs.queueing.refuse.Goals as goal
use Rattle.slot.proofs.queueing.refuse.Goals.{After-strip}

stripped-length : (c : After-strip) → length c.strip.new.s ≡ length c.args.s.now
stripped-length c = c.strip.ensures.size ∙ length-set c.args.s.now 0 2

enough : (c : After-strip) → 4132 + c.args.r ≤ length c.strip.new.s
enough c = omega (arith, stripped-length c, c.requires.rules.sized)

pub strip-requires : goal.strip-requires
strip-requires c =
    record { record-room = record-room c.requires.rules; enough = omega (arith, length-set c.args.s.now 0 2, c.requires.rules.sized) }

pub returns : goal.returns
returns c =
    let A = c.args in
    let t = c.strip.new.s in
    let v = c.put_error.new.q in
    let k = c.from-kind.ensures.0 in
    let b = rw (lent-queue A.r t, k) at c.put_error.ensures in
    rw (back-queue A.r t v (omega (arith, enough (goal.at.returns c).After-strip)) b.size)
    (becomes-refused A.refusal c.requires c.strip.ensures b)
