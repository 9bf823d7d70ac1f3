use Rattle.slot.specs.Image.{settled}
use Rattle.slot.proofs.Resting.{becomes-same, on_client-idle, on_client-open, settled-shut, rules-open}
use Rattle.slot.proofs.queueing.settle.Goals as goal

pub returns-else-s-eq-OPEN : goal.returns-else-s-eq-OPEN
returns-else-s-eq-OPEN c = becomes-same c.requires.1 (on_client-idle settled settled-shut c.requires.1 c.if-s-eq-OPEN.false)

pub returns-then-s-eq-OPEN : goal.returns-then-s-eq-OPEN
returns-then-s-eq-OPEN c =
    rw (on_client-open settled (rules-open c.requires.1 c.if-s-eq-OPEN.true)) c.settle_open.ensures
