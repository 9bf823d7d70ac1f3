use Rattle.pattern.specs.Places.{tree_at}
use Rattle.pattern.proofs.Levels.{Within}
use lib.ListN.{length}
use Prim.Native.Nat.{◌-◌}
use Rattle.pattern.proofs.walk.next_branch.Given as goal

abbrev pub invariant-loop-i : goal.invariant-loop-i
invariant-loop-i l = Within (tree_at l.pattern) (length l.pattern) l.at l.i l.depth

abbrev pub decreases-loop-i : goal.decreases-loop-i
decreases-loop-i l = length l.pattern - l.i
