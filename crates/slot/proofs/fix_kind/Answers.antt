use mathlib.Core.Path.{ap, ◌∙◌}
use Rattle.slot.specs.Region.{kind_byte, hangs_up_in, byte_for}
use Rattle.slot.proofs.Operations.{says, becomes-kind}
use Rattle.slot.proofs.fix_kind.Goals as goal

pub returns : goal.returns
returns c =
    let A = c.args in
    λ R h. becomes-kind c.from.result h
    (says A.kind (hangs_up_in (kind_byte A.s.now))
    (c.from.ensures ∙ ap (byte_for A.kind) c.from-hangs.ensures.1))
