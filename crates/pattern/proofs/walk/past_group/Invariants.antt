-- i is in the group that `at` is in.
use Rattle.std.proofs.Common.{length, ◌-◌, ◌≡◌, ◌≤◌}
use Rattle.pattern.specs.Tree.{above}
use Rattle.pattern.specs.Places.{tree_at}
use Rattle.pattern.proofs.walk.past_group.Given as goal

abbrev pub invariant-loop-next : goal.invariant-loop-next
invariant-loop-next l = record {
  on : l.at ≤ l.i;
  within : l.i ≤ length l.pattern;
  same : above (tree_at l.pattern l.i) ≡ above (tree_at l.pattern l.at);
}

abbrev pub decreases-loop-next : goal.decreases-loop-next
decreases-loop-next l = length l.pattern - l.i
