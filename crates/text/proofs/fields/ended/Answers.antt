-- `text::fields::ended`: spaces to the end.
use Rattle.text.proofs.PayloadLaws.{next-none, next-some}
use Rattle.text.proofs.fields.ended.Goals as goal

pub returns-in-None : goal.returns-in-None
returns-in-None c = rw (next-none _ c.in-None.ensures)

pub returns-in-Some : goal.returns-in-Some
returns-in-Some c = next-some c.in-Some.ensures
