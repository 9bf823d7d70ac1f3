use Rattle.std.proofs.Common.{◌∙◌}
use Rattle.message.specs.Forms.{encoded, written}
use Rattle.message.proofs.FormLaws.{length_with-within}
use Rattle.message.proofs.written_length.Goals as goal

pub returns : goal.returns
unfolding encoded written
returns c =
    rw (← c.content.ensures.row, ← c.content.ensures.payload)
    (c.unwrap_or.ensures ∙ rw c.message_length.ensures (length_with-within _ _))
