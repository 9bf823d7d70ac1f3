-- `store::index::nearest` meets its contract. The loop's invariant: a search can begin at `start`, and `high` is
-- within the index. The measure is how many offsets are left to look at.
use mathlib.Core.Path.{sym, ◌∙◌}
use Prim.Native.Nat.{◌+◌, ◌-◌, ◌/◌}
use native.Mathlib.Omega.{arith}
use Rattle.store.proofs.Turns.{start-front, start-at}
use Rattle.store.proofs.index.nearest.Goals as goal

pub loop-low-init : goal.loop-low-init
loop-low-init c =
    let A = c.args in
    (start-front A.st.now A.key.now, omega (arith, c.min-high.ensures))

pub loop-low-preserved-then-is_before : goal.loop-low-preserved-then-is_before
loop-low-preserved-then-is_before c =
    let L = c.loop-low in
    let x = c.requires.1.each (L.low + (L.high - L.low) / 2) (omega (arith, L.invariant.1)) in
    let b = sym c.is_before.ensures ∙ c.if-is_before.true in
    (start-at c.args.st.now c.requires.0 x b, L.invariant.1)
