-- `wire::read_binary` takes the ID and what stands behind it.
use native.Mathlib.Omega.{arith}
use Rattle.wire.proofs.Laws.{binary-nil, binary-cons}
use Rattle.wire.proofs.read_binary.Goals as goal

pub returns-in_default : goal.returns-in_default
returns-in_default c =
    rw (binary-nil c.args.skip c.args.m.now (omega (arith, c.in_default.len_below))) c.refused.ensures

pub returns : goal.returns
returns c =
    binary-cons c.args.skip c.args.m.now c.read.result c.in-len1-up.len_at_least
    c.tail-p.result.now c.tail-p.ensures c.read.ensures
