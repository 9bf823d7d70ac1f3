use Rattle.slot.proofs.Operations.{becomes-free}
use Rattle.slot.proofs.close.Goals as goal

pub returns : goal.returns
returns c = λ R. becomes-free R c.args.s.now c.requires
