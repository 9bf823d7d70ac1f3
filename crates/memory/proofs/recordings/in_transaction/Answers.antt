use mathlib.Core.Path.{ap, ◌∙◌}
use Rattle.model.specs.State.{is_on}
use Rattle.slot.specs.Image.{ClientImage}
use Rattle.memory.proofs.Lent.{lent_read, lent-used, lent-client}
use Rattle.memory.proofs.recordings.in_transaction.Goals as goal

pub in_transaction-requires : goal.in_transaction-requires
in_transaction-requires c = let l = lent_read c.requires.in-slot c.slot_part.ensures in lent-used l c.requires.has-client

pub returns : goal.returns
returns c =
    let l = lent_read c.requires.in-slot c.slot_part.ensures in
    c.in_transaction.ensures ∙ ap (λ (x : ClientImage). is_on x.transaction) (lent-client l c.requires.has-client)
