use mathlib.Core.Path.{◌≡◌, refl, sym, ◌∙◌}
use Prim.Native.Nat.{◌+◌, ◌*◌}
use native.Mathlib.Omega.{arith}
use Rattle.subscriptions.specs.Promises.{kept}
use Rattle.subscriptions.proofs.Removing.{sets-part}
use Rattle.subscriptions.proofs.keep.Goals as goal
use Rattle.subscriptions.proofs.keep.Goals.{then-to-from, else-to-from}

pub returns : goal.returns
returns c =
    let s = c.args.s.now in
    let from = c.args.from in
    let to = c.args.to in
    let w = c.requires in
    let e = rw c.cell_at.ensures at (sym c.if-equal.ensures) in
    elim c.if-to-from.branch [
      | then-to-from w ↦ kept e refl (w.s-is ∙ w.move_bytes.ensures)
      | else-to-from w ↦
          let q : from ≡ to = omega (arith, c.requires.order) in
          kept e refl (w.s-is ∙ rw q (sym (sets-part s (4 + to * 256) 256 (omega (arith, c.requires.cell.size, c.requires.cell.index)))))
    ]
