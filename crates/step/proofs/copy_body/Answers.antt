-- `step::copy_body` meets its contract.
use mathlib.Core.Path.{◌≡◌}
use Rattle.step.specs.TurnParts.{entry_body}
use Rattle.step.proofs.Entries.{copied}
use Rattle.step.proofs.copy_body.Goals as goal

pub returns : goal.returns
returns c =
    let a = c.args in
    let e : c.body_at-body.result.now ≡ entry_body a.mem.now a.at =
    rw c.store_part.ensures at c.body_at-body.ensures in
    copied a.buf.now c.requires.1 e c.copy.ensures
