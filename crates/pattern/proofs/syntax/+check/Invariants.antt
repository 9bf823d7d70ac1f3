-- The check descends with one level less, which is the measure. The loop's invariant: what is asked from `at` on is
-- what is asked from i on.
use Rattle.std.proofs.Common.{length, ◌-◌, ◌≡◌, ◌≤◌}
use Rattle.pattern.specs.Syntax.{fits}
use Rattle.pattern.specs.Checking.{tokens_at}
use Rattle.pattern.proofs.syntax.+check.Given as goal

abbrev pub decreases-check : goal.decreases-check
decreases-check l = l.left

abbrev pub invariant-loop-i : goal.invariant-loop-i
invariant-loop-i l = record {
  on : l.at ≤ l.i;
  within : l.i ≤ length l.pattern;
  same : fits l.left (tokens_at l.pattern l.at) ≡ fits l.left (tokens_at l.pattern l.i);
}

abbrev pub decreases-loop-i : goal.decreases-loop-i
decreases-loop-i l = length l.pattern - l.i
