use Rattle.queue.specs.Owed.{encoded}
use Rattle.queue.proofs.Steps.{appending}
use Rattle.queue.proofs.owing.append.Goals as goal

pub returns : goal.returns
returns c =
    let m = c.args.m in
    rw c.push.ensures
    (appending c.args.q.now c.make_room.new.q (encoded m) m.len m.measured c.requires c.make_room.ensures)
