-- `memory::entries::delete_at` meets its contract.
use mathlib.Core.Path.{subst, sym}
use Rattle.octets.specs.Octets.{Bytes}
use Rattle.model.specs.Store.{remove}
use Rattle.store.specs.Operation.{Found}
use Rattle.memory.proofs.Stored.{store_bytes, store-changes}
use Rattle.memory.proofs.entries.delete_at.Goals as goal

pub returns : goal.returns
returns c key d =
    let e = c.store_end-end.ensures in
    store-changes c.requires.0 e (remove key)
    (c.delete_at.ensures key
    (subst (λ (t : Bytes). Found t key c.args.at c.args.old)
    (sym (store_bytes c.args.mem.now c.store_end-end.result e)) d))
