use mathlib.Core.Path.{sym, ap, ◌∙◌}
use Rattle.model.specs.State.{used}
use Rattle.slot.specs.Promises.{room_of}
use Rattle.slot.proofs.Slots.{slot_of-used}
use Rattle.slot.proofs.Operations.{open-client}
use Rattle.slot.proofs.Resting.{becomes-same, notified-info, notified-same}
use Rattle.slot.proofs.client.notify_open.Goals as goal

pub returns-then-any_accepts : goal.returns-then-any_accepts
returns-then-any_accepts c =
    rw (notified-info c.requires.0 (room_of c.args.r c.args.s.now) c.args.body.now c.args.key (sym c.any_accepts.ensures ∙ c.if-any_accepts.true)) c.owe.ensures

pub returns-else-any_accepts : goal.returns-else-any_accepts
returns-else-any_accepts c =
    let h = c.requires.0 in
    becomes-same (λ _. h.rules)
    (slot_of-used c.args.r c.args.s.now (open-client h).taken-up
    ∙ ap used (sym (notified-same h (room_of c.args.r c.args.s.now) c.args.body.now c.args.key (sym c.any_accepts.ensures ∙ c.if-any_accepts.false))))
