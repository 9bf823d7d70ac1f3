use Rattle.slot.specs.Image.{notified}
use Rattle.slot.specs.Promises.{room_of}
use Rattle.slot.proofs.Resting.{becomes-same, on_client-idle, on_client-open, notified-shut, rules-open}
use Rattle.slot.proofs.client.notify.Goals as goal

pub returns-else-s-eq-OPEN : goal.returns-else-s-eq-OPEN
returns-else-s-eq-OPEN c =
    becomes-same c.requires.1 (on_client-idle (notified (room_of c.args.r c.args.s.now) c.args.body.now c.args.key) (notified-shut (room_of c.args.r c.args.s.now) c.args.body.now c.args.key) c.requires.1 c.if-s-eq-OPEN.false)

pub returns-then-s-eq-OPEN : goal.returns-then-s-eq-OPEN
returns-then-s-eq-OPEN c =
    rw (on_client-open (notified (room_of c.args.r c.args.s.now) c.args.body.now c.args.key) (rules-open c.requires.1 c.if-s-eq-OPEN.true)) c.notify_open.ensures
