use mathlib.Core.Path.{sym, ◌∙◌}
use Rattle.queue.proofs.First.{is_empty-queued_of}
use Rattle.queue.proofs.taking.is_empty.Goals as goal

pub returns : goal.returns
returns c =
    sym (is_empty-queued_of c.requires.in_step ∙ cc)
