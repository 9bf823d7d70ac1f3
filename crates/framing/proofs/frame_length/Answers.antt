-- `framing::frame_length` gives the length that the head says, where that many bytes are there.
use Rattle.std.proofs.Common.{sym, arith}
use Rattle.framing.proofs.Laws.{frame_length-short, frame_length-whole, frame_length-part}
use Rattle.framing.proofs.frame_length.Goals as goal

pub returns-then-s-lt3 : goal.returns-then-s-lt3
returns-then-s-lt3 c = sym (frame_length-short c.args.s.now c.if-s-lt3.true)

pub returns-then-n-s : goal.returns-then-n-s
returns-then-n-s c =
    let v = c.number_at-n.ensures.value in
    omega (arith, frame_length-whole c.args.s.now (omega arith) (omega arith))

pub returns-else-n-s : goal.returns-else-n-s
returns-else-n-s c =
    let v = c.number_at-n.ensures.value in
    omega (arith, frame_length-part c.args.s.now (omega arith) (omega arith))
