use Rattle.std.proofs.Common.{◌≡◌, ◌≤◌, take}
use Rattle.framing.specs.Ends.{ends}
use Rattle.framing.proofs.ends_in_block.Given as goal

-- n bytes end a line among those that were looked at
abbrev pub invariant-loop-c : goal.invariant-loop-c
invariant-loop-c l = (l.n ≤ l.c-index) × (l.n ≡ ends (take l.c-index l.c-items))
