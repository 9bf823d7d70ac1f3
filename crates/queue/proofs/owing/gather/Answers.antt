use Rattle.queue.proofs.Appending.{gathering}
use Rattle.queue.proofs.owing.gather.Goals as goal

pub returns : goal.returns
returns c =
    let q = c.args.q.now in
    let h = c.of-head in
    rw (c.put_number-3.ensures, c.put_number-2.ensures, c.put_number.ensures, c.move_bytes.ensures)
    (gathering q h.result.head h.result.tail h.result.end c.requires h.ensures.head h.ensures.tail
    h.ensures.pending_end)
