use Rattle.recording.proofs.Checks.{Checked}
use Rattle.recording.proofs.rows.rows_fine.Given as goal

-- the rows that are left decide
abbrev pub invariant-loop : goal.invariant-loop
invariant-loop l = Checked l.rows l.n l.counter l.rest
