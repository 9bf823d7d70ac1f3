use Rattle.std.proofs.Common.{sym, arith}
use Rattle.octets.proofs.Words.{take-byte-same, before-byte-other, before-length}
use Rattle.octets.proofs.comparison.bytes_precede.Goals as goal

pub returns-then-a-i : goal.returns-then-a-i
returns-then-a-i c =
    let A = c.args in
    let L = c.loop-i in
    sym (before-byte-other A.a.now A.b.now L.i (omega arith) (omega arith) L.invariant c.if-a-i.true)

pub loop-i-preserved : goal.loop-i-preserved
loop-i-preserved c =
    let A = c.args in
    let L = c.loop-i in
    take-byte-same A.a.now A.b.now L.i (omega arith) (omega arith) L.invariant c.if-a-i.false

pub returns : goal.returns
returns c =
    let A = c.args in
    let L = c.loop-i in
    sym (before-length A.a.now A.b.now L.i (omega arith) L.invariant)
