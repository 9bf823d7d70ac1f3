-- The line is the word, the fields and the end, written one after the other.
use Rattle.message.specs.Forms.{line}
use Rattle.message.proofs.Laws.{writes-append}
use Rattle.message.proofs.line.put_line.Goals as goal

pub returns : goal.returns
unfolding line
returns c =
    (writes-append
    (writes-append c.put-word_end.ensures (rw c.of.ensures.same at c.put-fields_end.ensures))
    (rw c.ending.ensures at c.put.ensures)).held
