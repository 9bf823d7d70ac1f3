use Rattle.slot.specs.Region.{client_of}
use Rattle.slot.proofs.Lent.{lent-patterns}
use Rattle.slot.proofs.client.remove_pattern.Goals as goal

pub returns : goal.returns
unfolding client_of
returns c = λ R h. lent-patterns h c.remove.ensures
