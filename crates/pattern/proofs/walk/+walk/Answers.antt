-- `pattern::walk::walk_branches` and `walk_sequence` meet their contracts, one turn of each loop at a time.
use Rattle.std.proofs.Common.{arith, inl, inr}
use Rattle.pattern.proofs.Bound.{branches-most, sequence-most}
use Rattle.pattern.proofs.Groups.{trying_start, trying-steps, trying-matched, trying-next, trying-over}
use Rattle.pattern.proofs.Parts.{tree-end}
use Rattle.pattern.proofs.Sequences.{simple-passes, group-passes}
use Rattle.pattern.proofs.Sequences.{along-start, along-end, along-bar, along-close, along-matched, along-missed}
use Rattle.pattern.proofs.Sequences.{along-steps}
use Rattle.pattern.proofs.walk.+walk.Goals as goal

pub walk_branches-loop-w-init : goal.walk_branches-loop-w-init
walk_branches-loop-w-init t c = trying_start _ _ _ _ _ c.requires.at-within

pub walk_branches-overflow_add-steps : goal.walk_branches-overflow_add-steps
walk_branches-overflow_add-steps t c =
    let n = trying-steps _ _ _ _ _ _ _ c.loop-w.invariant _ c.walk_sequence-w.ensures in
    record { fits = omega (arith, n, branches-most _ _ _ _ c.requires) }

pub walk_branches-returns-then-is_some : goal.walk_branches-returns-then-is_some
walk_branches-returns-then-is_some t c =
    trying-matched _ _ _ _ _ _ _ c.loop-w.invariant _ c.walk_sequence-w.ensures _ (cc) c.past_group.ensures

pub walk_branches-loop-w-preserved : goal.walk_branches-loop-w-preserved
walk_branches-loop-w-preserved t c =
    trying-next _ _ _ _ _ _ _ c.loop-w.invariant _ c.walk_sequence-w.ensures _ (cc) c.in-Another.ensures

pub walk_branches-returns-in-Over : goal.walk_branches-returns-in-Over
walk_branches-returns-in-Over t c =
    trying-over _ _ _ _ _ _ _ c.loop-w.invariant _ c.walk_sequence-w.ensures _ (cc)
    (rw c.in-Over.is at c.next_branch.ensures)

pub walk_sequence-loop-i-init : goal.walk_sequence-loop-i-init
walk_sequence-loop-i-init t c = along-start _ _ _ _ _ c.requires.at-within c.requires.key-within

pub walk_sequence-overflow_add-steps : goal.walk_sequence-overflow_add-steps
walk_sequence-overflow_add-steps t c =
    let s = simple-passes _ _ _ _ _ _ _ _ c.in-One.ensures c.take-taken.ensures in
    let n = along-steps _ _ _ _ _ _ _ _ c.loop-i.invariant _ s in
    record { fits = omega (arith, n, sequence-most _ _ _ _ c.requires) }

pub walk_sequence-loop-i-preserved-in-One : goal.walk_sequence-loop-i-preserved-in-One
walk_sequence-loop-i-preserved-in-One t c =
    let s = simple-passes _ _ _ _ _ _ _ _ c.in-One.ensures c.take-taken.ensures in
    along-matched _ _ _ _ _ _ _ _ c.loop-i.invariant _ s _ c.in-Some.is

pub walk_sequence-returns-in_default : goal.walk_sequence-returns-in_default
walk_sequence-returns-in_default t c =
    let s = simple-passes _ _ _ _ _ _ _ _ c.in-One.ensures c.take-taken.ensures in
    along-missed _ _ _ _ _ _ _ _ c.loop-i.invariant _ s c.in_default.is

pub walk_sequence-overflow_add-steps-in-Open : goal.walk_sequence-overflow_add-steps-in-Open
walk_sequence-overflow_add-steps-in-Open t c =
    let s = group-passes _ _ _ _ _ _ _ c.in-Open.ensures c.walk_branches-w.ensures in
    let n = along-steps _ _ _ _ _ _ _ _ c.loop-i.invariant _ s in
    record { fits = omega (arith, n, sequence-most _ _ _ _ c.requires) }

pub walk_sequence-loop-i-preserved : goal.walk_sequence-loop-i-preserved
walk_sequence-loop-i-preserved t c =
    let s = group-passes _ _ _ _ _ _ _ c.in-Open.ensures c.walk_branches-w.ensures in
    along-matched _ _ _ _ _ _ _ _ c.loop-i.invariant _ s _ c.in-Some-key.is

pub walk_sequence-returns-in_default-key : goal.walk_sequence-returns-in_default-key
walk_sequence-returns-in_default-key t c =
    let s = group-passes _ _ _ _ _ _ _ c.in-Open.ensures c.walk_branches-w.ensures in
    rw c.in_default-key.is (along-missed _ _ _ _ _ _ _ _ c.loop-i.invariant _ s c.in_default-key.is)

pub walk_sequence-returns-after-loop-i : goal.walk_sequence-returns-after-loop-i
walk_sequence-returns-after-loop-i t c =
    along-end _ _ _ _ _ _ _ _ c.loop-i.invariant (tree-end _ _ c.loop-i-test.false)

pub walk_sequence-returns-in-Bar : goal.walk_sequence-returns-in-Bar
walk_sequence-returns-in-Bar t c =
    elim c.in-Bar.is [
      | inl x ↦ along-bar _ _ _ _ _ _ _ _ c.loop-i.invariant _ (rw x.1 at c.part_at.ensures)
      | inr x ↦ along-close _ _ _ _ _ _ _ _ c.loop-i.invariant _ (rw x.1 at c.part_at.ensures)
    ]
