-- `pattern::run` meets its contract, by the walk of the whole pattern.
use Rattle.pattern.proofs.Answers.{short, ran}
use Rattle.pattern.proofs.run.Goals as goal

pub walk_sequence-w-requires : goal.walk_sequence-w-requires
walk_sequence-w-requires c = short _ _ c.requires

pub returns : goal.returns
returns c = rw c.eq.ensures (ran _ _ _ c.walk_sequence-w.ensures)
