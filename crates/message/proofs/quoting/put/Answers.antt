use Rattle.std.proofs.Common.{◌∙◌, refl, ap, arith}
use lib.ListN.{length-set}
use lib.Seq.{sets, take_all}
use Rattle.octets.proofs.Laws.{sets-take-suc}
use Rattle.message.proofs.quoting.put.Goals as goal

pub loop-i-init : goal.loop-i-init
loop-i-init c = (refl, refl)

pub loop-i-preserved : goal.loop-i-preserved
loop-i-preserved c =
    let A = c.args in
    let L = c.loop-i in (
      rw L.invariant.0 (sets-take-suc A.out.now A.at A.bytes.now L.i (omega arith)),
      simp length-set L.invariant.1,
    )

pub returns : goal.returns
returns c =
    let A = c.args in
    let L = c.loop-i in
    record {
      held = L.invariant.0 ∙ ap (sets A.out.now A.at) (take_all L.i A.bytes.now (omega arith));
      past = refl;
    }
