-- The measures of the two walks: twice the pattern bytes that remain, and 1 more for the walk over branches. The loops'
-- invariants: a branch that is tried from i on (`Trying`), and a walk that stands at i and k (`Along`).
use Rattle.std.proofs.Common.{length, ◌-◌, ◌+◌}
use Rattle.pattern.specs.Places.{tree_at}
use Rattle.pattern.proofs.Groups.{Trying}
use Rattle.pattern.proofs.Sequences.{Along}
use Rattle.pattern.proofs.walk.+walk.Given as goal

abbrev pub decreases-walk_branches : goal.decreases-walk_branches
decreases-walk_branches l = (length l.pattern.now - l.at) + (length l.pattern.now - l.at) + 1

abbrev pub decreases-walk_sequence : goal.decreases-walk_sequence
decreases-walk_sequence l = (length l.pattern.now - l.at) + (length l.pattern.now - l.at)

abbrev pub invariant-walk_branches-loop-w : goal.invariant-walk_branches-loop-w
invariant-walk_branches-loop-w l = Trying (tree_at l.pattern) (length l.pattern) l.key l.at l.from l.i l.steps

abbrev pub decreases-walk_branches-loop-w : goal.decreases-walk_branches-loop-w
decreases-walk_branches-loop-w l = length l.pattern - l.i

abbrev pub invariant-walk_sequence-loop-i : goal.invariant-walk_sequence-loop-i
invariant-walk_sequence-loop-i l = Along (tree_at l.pattern) (length l.pattern) l.key l.at l.from l.i l.k l.steps

abbrev pub decreases-walk_sequence-loop-i : goal.decreases-walk_sequence-loop-i
decreases-walk_sequence-loop-i l = length l.pattern - l.i
