-- `wire::read` goes by the kind.
use Rattle.wire.proofs.Laws.{reads-packets, reads-framed, reads-stream}
use Rattle.wire.proofs.read.Goals as goal

pub returns-in-Packets : goal.returns-in-Packets
returns-in-Packets c =
    rw (← c.kind_of.ensures, c.in-Packets.is)
    (reads-packets c.args.message.now c.args.buf.now c.read_binary.result c.read_binary.ensures)

pub returns-in-Stream : goal.returns-in-Stream
returns-in-Stream c =
    rw (← c.kind_of.ensures, c.in-Stream.is)
    (reads-stream c.args.message.now c.args.buf.now c.refused.result c.refused.ensures)

pub returns-in-Framed : goal.returns-in-Framed
returns-in-Framed c =
    rw (← c.kind_of.ensures, c.in-Framed.is)
    (reads-framed c.args.message.now c.args.buf.now c.read_binary-in-Framed.result c.read_binary-in-Framed.ensures)
