use mathlib.Core.Path.{refl}
use Rattle.broker.proofs.Decided.{obeys-shut}
use Rattle.broker.proofs.feeding.shut.Goals as goal

pub returns : goal.returns
returns c = λ n. obeys-shut c.args.slot n c.requires.fine c.args.refusal refl refl c.refuse.ensures
