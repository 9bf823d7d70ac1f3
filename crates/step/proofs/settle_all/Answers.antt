-- `step::settle_all` meets its contract. The loop's invariant: the slots before i are settled.
use mathlib.Core.Path.{◌≡◌, ap}
use native.Mathlib.Omega.{arith}
use Rattle.model.specs.State.{Sizes}
use Rattle.memory.specs.Layout.{sizes_of}
use Rattle.slot.specs.Image.{settled}
use Rattle.refinement.specs.Turn.{settled_image}
use Rattle.step.proofs.Each.{passed_start, passed-slot, passed-sizes, passed-next, passed-all}
use Rattle.step.proofs.settle_all.Goals as goal
use Rattle.step.proofs.settle_all.Goals.{After-read_sizes-sizes}

count : (c : After-read_sizes-sizes) → c.read_sizes-sizes.result.slots ≡ (sizes_of c.args.mem.now).slot_count
count c = ap (λ (z : Sizes). z.slot_count) c.read_sizes-sizes.ensures

pub loop-i-init : goal.loop-i-init
loop-i-init c = passed_start settled c.requires

pub settle-requires : goal.settle-requires
settle-requires c =
    let n = count (goal.at.settle-requires c).After-read_sizes-sizes in (
      passed-slot c.loop-i.invariant (omega (arith, n, c.loop-i-test.true)),
      passed-sizes c.loop-i.invariant c.read_sizes-sizes.ensures,
    )

pub loop-i-preserved : goal.loop-i-preserved
loop-i-preserved c = passed-next c.loop-i.invariant c.settle.ensures

pub returns : goal.returns
unfolding settled_image
returns c = passed-all c.loop-i.invariant (omega (arith, count (goal.at.returns c).After-read_sizes-sizes, c.loop-i-test.false))
