use mathlib.Core.Path.{◌≡◌}
use Prim.Native.Nat.{◌+◌, ◌-◌}
use native.Mathlib.Omega.{arith}
use lib.ListN.{length}
use lib.Seq.{sets, length-sets}
use borrow.Rule.Slice.PartMut.{put_mid}
use Rattle.slot.proofs.Operations.{lent-recording, sized-recording_part, back-subscriptions, back-recording, stripping}
use Rattle.slot.proofs.strip.Goals as goal
use Rattle.slot.proofs.strip.Goals.{After-clear}

first_back : (c : After-clear) → put_mid 4 4100 c.args.s.now c.clear.new.s
    ≡ sets c.args.s.now 4 c.clear.new.s
first_back c = back-subscriptions c.args.s.now c.clear.new.s (omega (arith, c.requires)) c.clear.ensures.size

pub clear-requires-2 : goal.clear-requires-2
clear-requires-2 c =
    let A = c.args in
    let t = sets A.s.now 4 c.clear.new.s in
    let l : length t ≡ length A.s.now = length-sets A.s.now 4 c.clear.new.s in
    rw (first_back (goal.at.clear-requires-2 c).After-clear, lent-recording A.r t)
    (sized-recording_part A.r t c.requires.record-room (omega (arith, c.requires.enough)))

pub returns : goal.returns
returns c =
    let A = c.args in
    let v = c.clear.new.s in
    let w = c.clear-2.new.r in
    let t = sets A.s.now 4 v in
    let l : length t ≡ length A.s.now = length-sets A.s.now 4 v in
    let b = rw (first_back (goal.at.returns c).After-clear, lent-recording A.r t) at c.clear-2.ensures in
    let e : put_mid 4104 (4116 + A.r - 4104) t w ≡ sets t 4104 w =
    back-recording A.r t w (omega (arith, c.requires.enough)) b.size in
    rw (first_back (goal.at.returns c).After-clear, e) (stripping c.requires.enough c.clear.ensures b)
