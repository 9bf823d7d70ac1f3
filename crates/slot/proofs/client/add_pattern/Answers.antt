use Rattle.slot.specs.Region.{client_of}
use Rattle.slot.proofs.Lent.{addable-part, lent-patterns}
use Rattle.slot.proofs.client.add_pattern.Goals as goal

pub add-requires : goal.add-requires
add-requires c = addable-part c.requires.addable

pub returns : goal.returns
unfolding client_of
returns c = λ R h. lent-patterns h c.add.ensures
