use mathlib.Core.Path.{sym, ◌∙◌}
use mathlib.Core.List.{[]}
use native.Mathlib.Omega.{arith}
use Rattle.message.specs.Writing.{said}
use Rattle.message.specs.declared.Message.TheVariants.{Error}
use Rattle.queue.proofs.Messages.{written-length}
use Rattle.queue.proofs.Steps.{error_fits-offsets}
use Rattle.queue.proofs.owing.error_fits.Goals as goal

pub returns : goal.returns
unfolding said
returns c =
    let A = c.args in
    let w = c.written_length in
    c.has_room.ensures
    ∙ sym (error_fits-offsets A.kind A.refusal A.q.now w.result c.requires
    (w.ensures ∙ written-length A.kind (Error A.refusal) [] (omega arith)))
