use mathlib.Core.Path.{◌≡◌, ◌∙◌}
use native.Mathlib.Omega.{arith}
use lib.ListN.{length}
use Rattle.subscriptions.specs.Region.{patterns_of}
use Rattle.model.specs.Patterns.{remove_pattern}
use Rattle.subscriptions.proofs.Cells.{fine-rules, length-patterns_of}
use Rattle.subscriptions.proofs.Removing.{becomes-headed, sift-start, sift-next, sift-end}
use Rattle.subscriptions.proofs.remove.Goals as goal

pub loop-from-init : goal.loop-from-init
loop-from-init c =
    sift-start c.args.pattern.now c.args.s.now c.count-n.result c.requires
    (c.count-n.ensures ∙ length-patterns_of c.args.s.now)

pub loop-from-preserved : goal.loop-from-preserved
loop-from-preserved c =
    let s₀ = c.args.s.now in
    let p = c.args.pattern.now in
    let n = c.count-n.result in
    let s = c.loop-from.s in
    let from = c.loop-from.from in
    let to = c.loop-from.to in
    let w = c.loop-from.invariant in
    sift-next (patterns_of s₀) p n s from to w (omega arith) c.keep-to.result
    c.keep-to.new.s c.keep-to.ensures

pub returns : goal.returns
returns c =
    let s₀ = c.args.s.now in
    let p = c.args.pattern.now in
    let n = c.count-n.result in
    let s = c.loop-from.s in
    let from = c.loop-from.from in
    let to = c.loop-from.to in
    let w = c.loop-from.invariant in
    let l : length s₀ ≡ 4100 = (fine-rules c.requires).size in
    rw c.put_number.ensures
    (becomes-headed s to w.size (omega (arith, w.order, w.step, w.few)) (remove_pattern p (patterns_of s₀)) s₀ l
    (sift-end (patterns_of s₀) p n s from to w (omega arith)))
