-- `store::reading::look_up` meets its contract.
use mathlib.Core.Path.{◌∙◌}
use native.Mathlib.Omega.{arith}
use Rattle.store.specs.Operation.{body}
use Rattle.store.proofs.Change.{found-row, found_none}
use Rattle.store.proofs.reading.look_up.Goals as goal

pub returns-then-len-eq0 : goal.returns-then-len-eq0
unfolding body
returns-then-len-eq0 c = rw (found_none c.find-at.ensures c.if-len-eq0.true)

pub body_at-requires : goal.body_at-requires
body_at-requires c =
    (found-row c.requires.0 c.find-at.ensures (omega arith)).0

pub returns : goal.returns
returns c =
    c.body_at.ensures ∙ (found-row c.requires.0 c.find-at.ensures (omega arith)).1
