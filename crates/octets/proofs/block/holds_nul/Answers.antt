use Rattle.std.proofs.Common.{◌∙◌, refl, sym, ap}
use mathlib.Core.Bool.{Bool, ◌||◌}
use lib.Dec.{eqb}
use lib.ListN.{get_or}
use Rattle.octets.specs.Octets.{has_nul}
use Rattle.octets.proofs.Nul.{has_nul-take-suc}
use Rattle.octets.proofs.block.holds_nul.Goals as goal

pub loop-b-init : goal.loop-b-init
unfolding has_nul
loop-b-init c = refl

pub loop-b-preserved : goal.loop-b-preserved
loop-b-preserved c =
    let L = c.loop-b in
    let s = c.args.block.now in
    ap (λ (f : Bool). f || eqb (get_or s L.b-index 0) 0) L.invariant
    ∙ sym (has_nul-take-suc s L.b-index c.loop-b-test.true)
