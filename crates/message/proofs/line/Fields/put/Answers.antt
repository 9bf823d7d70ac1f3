use Rattle.message.proofs.Laws.{writes-append}
use Rattle.message.proofs.line.Fields.put.Goals as goal

pub returns-in-Numbered : goal.returns-in-Numbered
returns-in-Numbered c = rw c.in-Numbered.is (writes-append c.put_number-to.ensures c.put_field.ensures)

pub returns-in-Valued : goal.returns-in-Valued
returns-in-Valued c = rw c.in-Valued.is (writes-append c.put_field-to.ensures c.put_field-in-Valued.ensures)
