use mathlib.Core.Path.{◌≡◌, ◌∙◌}
use Prim.Native.Nat.{◌+◌, ◌≤◌}
use native.Mathlib.Omega.{arith}
use lib.ListN.{length, set, length-set}
use Rattle.slot.proofs.Operations.{lent-queue, back-queue, says, becomes-opened}
use Rattle.slot.proofs.open.Goals as goal
use Rattle.slot.proofs.open.Goals.{After-strip}

stripped-length : (c : After-strip) → length c.strip.new.s ≡ length c.args.s.now
stripped-length c =
    let s = c.args.s.now in
    c.strip.ensures.size ∙ length-set (set s 0 1) 1 c.from.result ∙ length-set s 0 1

enough : (c : After-strip) → 4260 + c.args.r ≤ length c.strip.new.s
enough c = omega (arith, stripped-length c, c.requires.queue-room)

pub returns : goal.returns
returns c =
    let A = c.args in
    let t = c.strip.new.s in
    let v = c.clear.new.q in
    let k = c.from in
    let b = rw (lent-queue A.r t) at c.clear.ensures in
    rw (back-queue A.r t v (omega (arith, enough (goal.at.returns c).After-strip)) b.size)
    (becomes-opened k.result c.requires c.strip.ensures b
    (says A.kind A.hangs k.ensures))
