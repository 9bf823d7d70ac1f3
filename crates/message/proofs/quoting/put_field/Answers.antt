-- The field is the mark that opens it, the bytes of the string, and the mark that closes it.
use Rattle.message.specs.Quoting.{quote}
use Rattle.message.proofs.Laws.{writes-append}
use Rattle.message.proofs.quoting.put_field.Goals as goal

pub returns : goal.returns
unfolding quote
returns c = writes-append c.put-from.ensures (writes-append c.put_bytes-to.ensures c.put.ensures)
