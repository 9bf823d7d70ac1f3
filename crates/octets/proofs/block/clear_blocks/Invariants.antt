use Rattle.std.proofs.Common.{◌*◌, ◌≤◌}
use Rattle.octets.specs.Octets.{first_nul}
use Rattle.octets.proofs.block.clear_blocks.Given as goal

-- the first k blocks stand before the first NUL
abbrev pub invariant-loop-k : goal.invariant-loop-k
invariant-loop-k l = 16 * l.k ≤ first_nul l.s
