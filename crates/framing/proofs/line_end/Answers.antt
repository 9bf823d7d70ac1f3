use Rattle.std.proofs.Common.{◌≡◌, ◌*◌, ◌+◌, arith}
use Rattle.framing.proofs.Laws.{line_end-skip}
use Rattle.framing.proofs.line_end.Goals as goal

pub loop-k-preserved : goal.loop-k-preserved
loop-k-preserved c =
    let L = c.loop-k in
    let e : 32 * (L.k + 1) ≡ 32 * L.k + 32 = omega arith in
    rw e (omega (arith, line_end-skip c.args.s.now (32 * L.k) 32 (omega arith) (omega arith)))
