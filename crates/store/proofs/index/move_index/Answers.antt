-- `store::index::move_index` meets its contract.
use Rattle.store.proofs.Moving.{moved_none}
use Rattle.store.proofs.index.move_index.Goals as goal

pub returns-then-old-new : goal.returns-then-old-new
returns-then-old-new c = moved_none c.args.index.now c.args.at c.if-old-new.true
