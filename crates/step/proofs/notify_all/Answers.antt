-- `step::notify_all` meets its contract. The loop's invariant: the slots before i are told.
use Prim.Native.Nat.{ℕ}
use mathlib.Core.Path.{◌≡◌, ap}
use native.Mathlib.Omega.{arith}
use Rattle.model.specs.State.{Sizes}
use Rattle.memory.specs.Layout.{sizes_of}
use Rattle.slot.specs.Image.{ClientImage, notified}
use Rattle.memory.specs.Image.{image_of}
use Rattle.step.proofs.Clients.{changes-equal}
use Rattle.step.proofs.Each.{passed_start, passed-room, passed-slot, passed-sizes, passed-next, passed-all}
use Rattle.step.proofs.notify_all.Goals as goal
use Rattle.step.proofs.notify_all.Goals.{After-read_sizes-sizes}

count : (c : After-read_sizes-sizes) → c.read_sizes-sizes.result.slots ≡ (sizes_of c.args.mem.now).slot_count
count c = ap (λ (z : Sizes). z.slot_count) c.read_sizes-sizes.ensures

pub loop-i-init : goal.loop-i-init
loop-i-init c =
    let a = c.args in
    passed_start (notified (image_of a.mem.now).sizes.queue_room a.body.now a.key) c.requires.0

pub notify-requires : goal.notify-requires
notify-requires c =
    let n = count (goal.at.notify-requires c).After-read_sizes-sizes in (
      record {
        in-slot = passed-slot c.loop-i.invariant (omega (arith, n, c.loop-i-test.true));
        key-within = c.requires.1;
        short = c.requires.2;
      },
      passed-sizes c.loop-i.invariant c.read_sizes-sizes.ensures,
    )

pub loop-i-preserved : goal.loop-i-preserved
loop-i-preserved c =
    let a = c.args in
    let told : ℕ → ClientImage → ClientImage = λ Q. notified Q a.body.now a.key in
    passed-next c.loop-i.invariant
    (changes-equal c.loop-i.i (told (image_of c.loop-i.mem).sizes.queue_room)
    (told (image_of a.mem.now).sizes.queue_room) (λ x. rw (passed-room c.loop-i.invariant)) c.notify.ensures)

pub returns : goal.returns
returns c = passed-all c.loop-i.invariant (omega (arith, count (goal.at.returns c).After-read_sizes-sizes, c.loop-i-test.false))
