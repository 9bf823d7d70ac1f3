use Rattle.std.proofs.Common.{◌≡◌, take}
use Rattle.octets.specs.Octets.{has_nul}
use Rattle.octets.proofs.block.holds_nul.Given as goal

abbrev pub invariant-loop-b : goal.invariant-loop-b
invariant-loop-b l = l.found ≡ has_nul (take l.b-index l.block)
