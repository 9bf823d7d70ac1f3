-- `pattern::walk::next_branch` meets its contract. The loop's invariant: `depth` groups are open at i, inside the
-- branch that `at` is in.
use Rattle.pattern.proofs.Parts.{tree-end}
use Rattle.pattern.proofs.Levels.{within-start, within-one, within-open, within-bar, within-close}
use Rattle.pattern.proofs.Levels.{next-bar, next-close, over-end}
use borrow.Author.Rules.{rules}
use Rattle.pattern.proofs.walk.next_branch.Goals as goal

pub loop-i-preserved-in-One : goal.loop-i-preserved-in-One
loop-i-preserved-in-One c =
    within-one _ _ _ _ _ c.loop-i.invariant _ _ (rw c.in-One.is at c.part_at.ensures)

pub loop-i-preserved-in-Open : goal.loop-i-preserved-in-Open
loop-i-preserved-in-Open c =
    within-open _ _ _ _ _ c.loop-i.invariant _ (rw c.in-Open.is at c.part_at.ensures)

pub returns-in-Bar : goal.returns-in-Bar
returns-in-Bar c =
    let s = rw c.in-Bar.is at c.part_at.ensures in
    next-bar _ _ _ _ _ c.loop-i.invariant _ c.if-depth-eq0.true s

pub loop-i-preserved-in-Bar-2 : goal.loop-i-preserved-in-Bar-2
loop-i-preserved-in-Bar-2 c =
    let s = rw c.in-Bar.is at c.part_at.ensures in
    within-bar _ _ _ _ _ c.loop-i.invariant _ c.if-depth-eq0.false s

pub returns-in-Close : goal.returns-in-Close
returns-in-Close c =
    let s = rw c.in-Close.is at c.part_at.ensures in
    next-close _ _ _ _ _ c.loop-i.invariant _ c.if-depth-eq0-2.true s

pub loop-i-preserved : goal.loop-i-preserved
loop-i-preserved c =
    let s = rw c.in-Close.is at c.part_at.ensures in
    within-close _ _ _ _ _ c.loop-i.invariant _ c.if-depth-eq0-2.false s

pub returns : goal.returns
returns c = over-end _ _ _ _ _ c.loop-i.invariant (tree-end _ _ c.loop-i-test.false)

pub loop-i-init : goal.loop-i-init
loop-i-init c = within-start _ _ _ (search rules)
