-- `run_recorded` calls itself for the actions after the next one: the measure is the number of those left.
use Rattle.std.proofs.Common.{length, ◌-◌}
use Rattle.broker.specs.CommitParts.{recorded_in}
use Rattle.broker.proofs.transaction.+run_recorded.Given as goal

abbrev pub decreases-run_recorded : goal.decreases-run_recorded
decreases-run_recorded l = length (recorded_in l.mem.now l.slot) - l.i
