-- `memory::check::is_fine` meets its contract.
use Rattle.store.proofs.Indexing.{zeros-indexed}
use Rattle.memory.proofs.check.is_fine.Goals as goal

pub is_fine_indexing-requires : goal.is_fine_indexing-requires
is_fine_indexing-requires c = zeros-indexed 1
