-- `ffi::infod3_match` meets its contract.
use mathlib.Core.Path.{ap, ◌∙◌}
use Rattle.ffi.specs.Results.{match_result}
use Rattle.ffi.proofs.infod3_match.Goals as goal

pub returns : goal.returns
returns c = c.from.ensures ∙ ap match_result c.matches.ensures.value
