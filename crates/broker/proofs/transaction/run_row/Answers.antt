-- `broker::transaction::run_row` meets its contract.
use native.Mathlib.Omega.{arith}
use Rattle.broker.proofs.transaction.run_row.Goals as goal

pub whole_as_slice-run_row_with : goal.whole_as_slice-run_row_with
whole_as_slice-run_row_with g c = omega (arith, c.requires.2)
