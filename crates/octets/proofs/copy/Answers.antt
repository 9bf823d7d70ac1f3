use Rattle.std.proofs.Common.{◌∙◌, refl, sym, arith}
use lib.ListN.{length-set}
use Rattle.octets.proofs.Laws.{sets-out, sets-take-suc, sets-clipped}
use Rattle.octets.proofs.copy.Goals as goal

pub returns-then-dst-at : goal.returns-then-dst-at
returns-then-dst-at c =
    let A = c.args in
    sym (sets-out A.dst.now A.at A.src.now c.if-dst-at.true)

pub loop-i-init : goal.loop-i-init
loop-i-init c = (refl, refl)

pub loop-i-preserved : goal.loop-i-preserved
loop-i-preserved c =
    let A = c.args in
    let L = c.loop-i in (
      rw L.invariant.0 (sets-take-suc A.dst.now A.at A.src.now L.i (omega arith)),
      simp length-set L.invariant.1,
    )

pub returns : goal.returns
returns c =
    let A = c.args in
    let L = c.loop-i in
    L.invariant.0 ∙ sets-clipped A.dst.now A.at A.src.now L.i (omega (arith, c.min-n.ensures))
