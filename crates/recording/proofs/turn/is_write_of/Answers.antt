use mathlib.Core.Path.{sym, ◌∙◌}
use native.Mathlib.Omega.{arith}
use lib.ListN.{length}
use borrow.Author.Tests.{leb-true}
use Rattle.recording.proofs.Bodies.{key-longer, key-other, key-ends}
use Rattle.recording.proofs.turn.is_write_of.Goals as goal
use Rattle.recording.proofs.turn.is_write_of.Goals.{then-n-payload, else-n-payload}

pub returns-then-equal : goal.returns-then-equal
returns-then-equal c =
    let k = c.args.key.now in
    let p = c.args.payload.now in
    elim c.if-n-payload.branch [
      | then-n-payload w ↦
          rw c.first_nul.ensures (sym (key-ends k p (sym w.equal.ensures ∙ sym w.value-is ∙ c.if-equal.true)))
      | else-n-payload w ↦ absurd (omega (arith, leb-true (length k) (length p) (sym w.value-is ∙ c.if-equal.true)))
    ]

pub returns-else-equal : goal.returns-else-equal
returns-else-equal c =
    let k = c.args.key.now in
    let p = c.args.payload.now in
    rw c.if-equal.false
    (elim c.if-n-payload.branch [
      | then-n-payload w ↦ sym (key-other k p (sym w.equal.ensures ∙ sym w.value-is ∙ c.if-equal.false))
      | else-n-payload w ↦ sym (key-longer k p (omega arith))
    ])
