use mathlib.Core.Path.{◌≡◌, sym, ◌∙◌}
use Prim.Native.Nat.{◌+◌, ◌≤◌, ◌<◌}
use native.Mathlib.Omega.{arith}
use lib.ListN.{length}
use borrow.Author.Tests.{leb-true, leb-false}
use Rattle.recording.specs.Region.{used_of, count_of}
use Rattle.recording.proofs.Regions.{count-recorded, fits-many, fits-full, fits-room}
use Rattle.recording.proofs.fits.Goals as goal
use Rattle.recording.proofs.fits.Goals.{then-more-le64, else-more-le64}

pub returns-then-used-r : goal.returns-then-used-r
unfolding used_of
returns-then-used-r c =
    let r = c.args.r.now in
    let e : c.number_at-used.result ≡ used_of r = c.number_at-used.ensures.value in
    elim c.if-more-le64.branch [
      | then-more-le64 w ↦
          let k : count_of r < 64 = omega (arith, count-recorded r) in
          let l : 16 + used_of r ≤ length r =
          omega (arith, leb-true (16 + c.number_at-used.result) (length r) (sym w.value-is ∙ c.if-used-r.true)) in
          rw e (fits-room r c.args.n c.requires k l)
      | else-more-le64 w ↦ absurd (omega (arith, leb-true _ 64 (sym w.value-is ∙ c.if-used-r.true)))
    ]

pub returns-else-used-r : goal.returns-else-used-r
unfolding used_of
returns-else-used-r c =
    let r = c.args.r.now in
    let e : c.number_at-used.result ≡ used_of r = c.number_at-used.ensures.value in
    rw c.if-used-r.false
    (elim c.if-more-le64.branch [
      | then-more-le64 w ↦
          let k : count_of r < 64 = omega (arith, count-recorded r) in
          let l : length r < 16 + used_of r =
          omega (arith, leb-false (16 + c.number_at-used.result) (length r) (sym w.value-is ∙ c.if-used-r.false)) in
          fits-full r c.args.n c.requires k l
      | else-more-le64 w ↦
          let k : 64 ≤ count_of r = omega (arith, count-recorded r) in
          fits-many r c.args.n c.requires k
    ])
