-- `wire::read_line` goes by what the line is.
use Rattle.wire.proofs.Laws.{line-message}
use Rattle.wire.proofs.read_line.Goals as goal

pub returns-in-Ok-Some : goal.returns-in-Ok-Some
returns-in-Ok-Some c =
    line-message c.args.line.now c.args.buf.now c.translate.new.buf c.in-Ok-Some.field-0-0 c.read_known.result
    c.requires (rw c.in-Ok-Some.field-0-is at c.in-Ok-Some.ensures)
    (rw (← c.front.ensures) c.read_known.ensures)
