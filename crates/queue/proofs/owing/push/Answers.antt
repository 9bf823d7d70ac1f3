use mathlib.Core.Path.{◌≡◌, ◌∙◌}
use Prim.Native.Nat.{◌+◌, ◌-◌, ◌≤◌}
use native.Mathlib.Omega.{arith}
use lib.ListN.{length}
use lib.Seq.{sets}
use borrow.Rule.Slice.PartMut.{put_mid}
use Rattle.octets.specs.Part.{part}
use Rattle.octets.proofs.Parts.{length_part, lent-part-sets}
use Rattle.queue.specs.Owed.{encoded}
use Rattle.queue.proofs.Messages.{written_out, pushed_row}
use Rattle.queue.proofs.owing.push.Goals as goal

pub returns : goal.returns
returns c =
    let A = c.args in
    let q = A.q.now in
    let b = A.m.body.now in
    let n = A.m.len in
    let m = encoded A.m in
    let e = c.of-end.result.end in
    let w = c.write in
    let q₁ = c.put_number.new.s in
    let en : n ≡ length m = A.m.measured in
    let k : 20 + e + n - (20 + e) ≡ n = omega arith in
    let l₁ : length q₁ ≡ length q = c.put_number.auto.s in
    let l : 20 + e + n ≤ length q₁ = omega (arith, c.requires.enough, c.of-end.ensures.pending_end) in
    let lo : length (part q₁ (20 + e) n) ≡ n = length_part q₁ (20 + e) n l in
    let o : w.new.out ≡ sets (part q₁ (20 + e) n) 0 m =
    written_out A.m.kind A.m.message b (part q₁ (20 + e) n) w.new.out w.result A.m.short
    (omega arith) (rw k at w.ensures) in
    let g : put_mid (20 + e) (20 + e + n - (20 + e)) q₁ w.new.out ≡ sets q₁ (20 + e) m =
    rw k (lent-part-sets q₁ (20 + e) n 0 (20 + e) m w.new.out o l (omega arith) (omega arith)) in
    c.put_number-2.ensures
    ∙ rw (g, c.put_number.ensures) (pushed_row q m e n c.of-end.ensures.pending_end en)
