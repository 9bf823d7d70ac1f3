use native.Mathlib.Omega.{arith}
use mathlib.Core.Path.{◌≡◌}
use Prim.Native.Nat.{◌+◌, ◌-◌, ◌*◌}
use Rattle.subscriptions.specs.Region.{cell, cell_at}
use Rattle.subscriptions.proofs.cell_at.Goals as goal

pub returns : goal.returns
unfolding cell_at cell
returns c =
    let at = 4 + c.args.i * 256 in
    let e : 1 + c.from.result - 1 ≡ c.from.result = omega arith in
    let f : at + 256 - at ≡ 256 = omega arith in
    rw (e, c.from.ensures, f)
