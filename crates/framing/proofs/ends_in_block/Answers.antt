-- `framing::ends_in_block`: n is how many of the bytes that were looked at end a line.
use Rattle.std.proofs.Common.{◌+◌, ◌-◌, take, drop, arith}
use Rattle.framing.specs.Ends.{ends}
use Rattle.framing.proofs.Laws.{ends-take-suc, end_count-byte, bool_byte-le}
use Rattle.framing.proofs.ends_in_block.Goals as goal

pub loop-c-init : goal.loop-c-init
unfolding ends
loop-c-init c = (omega arith, omega arith)

pub loop-c-preserved : goal.loop-c-preserved
loop-c-preserved c =
    let A = c.args in
    let L = c.loop-c in
    let s = take (A.at + 32 - A.at) (drop A.at A.s.now) in
    let e = end_count-byte c.ends_line.result _ c.ends_line.ensures in
    let b = bool_byte-le c.ends_line.result in
    (omega arith, omega (arith, ends-take-suc s L.c-index c.loop-c-test.true))
