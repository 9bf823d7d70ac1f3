-- The recording is spoiled first, which leaves the queue as it was; then the ERROR is queued.
use mathlib.Core.Path.{◌≡◌, subst, ◌∙◌}
use Prim.Native.Nat.{◌+◌, ◌-◌, ◌≤◌}
use native.Mathlib.Omega.{arith}
use lib.ListN.{length}
use lib.Seq.{sets, length-sets}
use borrow.Rule.Slice.PartMut.{put_mid}
use Rattle.protocol.specs.declared.Kind.{Kind}
use Rattle.queue.specs.Post.{PuttingError}
use Rattle.slot.specs.Region.{queue_part, client_of}
use Rattle.slot.proofs.Operations.{lent-recording, back-recording, length-recording_part, lent-queue, back-queue}
use Rattle.slot.proofs.Operations.{open-queue, queue-behind, becomes-slipped}
use Rattle.slot.proofs.queueing.slip.Goals as goal
use Rattle.slot.proofs.queueing.slip.Goals.{After-spoil}

enough : (c : After-spoil) → 4132 + c.args.r ≤ length c.args.s.now
enough c = c.requires.0.client.rules.sized

-- the recording has come back as long as it was
spoiled-size : (c : After-spoil) → length c.spoil.new.r ≡ 12 + c.args.r
spoiled-size c =
    let A = c.args in
    (rw (lent-recording A.r A.s.now) at c.spoil.ensures).size
    ∙ length-recording_part A.r A.s.now (omega (arith, enough c))

back : (c : After-spoil) → (
    let A = c.args in
    put_mid 4104 (4116 + A.r - 4104) A.s.now c.spoil.new.r ≡ sets A.s.now 4104 c.spoil.new.r)
back c =
    let A = c.args in
    back-recording A.r A.s.now c.spoil.new.r (omega (arith, enough c))
    (rw (lent-recording A.r A.s.now) at c.spoil.ensures).size

pub spoil-requires : goal.spoil-requires
spoil-requires c =
    rw (lent-recording c.args.r c.args.s.now) c.requires.0.client.rules.recording

pub put_error-requires : goal.put_error-requires
put_error-requires c =
    let s = c.args.s.now in
    let v = c.spoil.new.r in
    rw (
      back (goal.at.put_error-requires c).After-spoil,
      lent-queue c.args.r (sets s 4104 v),
      queue-behind c.args.r s v (spoiled-size (goal.at.put_error-requires c).After-spoil),
    )
    (open-queue c.requires.0.client)

pub returns : goal.returns
unfolding client_of
returns c =
    let A = c.args in
    let s = A.s.now in
    let v = c.spoil.new.r in
    let q = c.put_error.new.q in
    let br = rw (lent-recording A.r s) at c.spoil.ensures in
    let bq =
    subst (λ (k : Kind). PuttingError k A.refusal (queue_part A.r (sets s 4104 v)) q)
    c.from-kind.ensures.0
    (rw (back (goal.at.returns c).After-spoil, lent-queue A.r (sets s 4104 v)) at c.put_error.ensures) in
    rw (
      back (goal.at.returns c).After-spoil,
      back-queue A.r (sets s 4104 v) q (omega (arith, length-sets s 4104 v, enough (goal.at.returns c).After-spoil)) bq.size,
    )
    (becomes-slipped A.refusal c.requires.0.client c.requires.1 br bq)
