-- `memory::entries::write_at` meets its contract.
use Rattle.store.specs.Operation.{put_payload}
use Rattle.memory.proofs.Stored.{store-changes}
use Rattle.memory.proofs.entries.write_at.Goals as goal

pub returns : goal.returns
unfolding put_payload
returns c =
    let e = c.store_end-end.ensures in
    store-changes c.requires.0 e (put_payload c.args.payload.now c.args.key)
    c.write_at.ensures
