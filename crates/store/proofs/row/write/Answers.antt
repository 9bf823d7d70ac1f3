-- `store::row::write` meets its contract: four stores, one behind the other, are the row.
use Rattle.store.proofs.RowLaws.{sets-row_bytes}
use Rattle.store.proofs.row.write.Goals as goal

pub returns : goal.returns
returns c =
    let a = c.args in
    cc (sets-row_bytes a.s.now a.i a.key a.body.now)
