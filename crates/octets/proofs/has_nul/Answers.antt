use Rattle.std.proofs.Common.{◌∙◌}
use Rattle.octets.proofs.Nul.{any_nul}
use Rattle.octets.proofs.has_nul.Goals as goal

pub returns : goal.returns
returns c = c.contains.ensures.value ∙ any_nul c.args.s.now
