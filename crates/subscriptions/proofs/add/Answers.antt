use mathlib.Core.Path.{◌≡◌, sym, ◌∙◌}
use Rattle.subscriptions.specs.Region.{count_of}
use Rattle.subscriptions.proofs.Cells.{length-patterns_of}
use Rattle.subscriptions.proofs.Removing.{add-held, add-new}
use Rattle.subscriptions.proofs.add.Goals as goal

pub returns-then-is_held : goal.returns-then-is_held
returns-then-is_held c =
    let A = c.args in
    add-held A.s.now A.pattern.now c.requires (sym c.is_held.ensures ∙ c.if-is_held.true)

pub returns : goal.returns
returns c =
    let s = c.args.s.now in
    let p = c.args.pattern.now in
    let en : c.count-n.result ≡ count_of s = c.count-n.ensures ∙ length-patterns_of s in
    rw (c.put_number.ensures, c.copy.ensures, c.put.ensures, en)
    (add-new s p c.requires (sym c.is_held.ensures ∙ c.if-is_held.false))
