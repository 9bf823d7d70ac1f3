use mathlib.Core.Path.{◌∙◌}
use Rattle.queue.proofs.Messages.{written-length}
use Rattle.queue.proofs.outgoing.Owed.new.Goals as goal

pub invariant_of-result : goal.invariant_of-result
invariant_of-result c =
    let A = c.args in
    record {
      short = c.requires;
      measured = c.written_length.ensures ∙ written-length A.kind A.message A.body.now c.requires;
    }
