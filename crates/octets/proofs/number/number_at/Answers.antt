use Rattle.std.proofs.Common.{◌≡◌, ◌+◌, ◌-◌, ◌<◌, refl, arith}
use Rattle.octets.specs.Number.{number, digits}
use Rattle.octets.specs.Part.{part}
use Rattle.octets.proofs.Numbers.{number-take-suc, digit-bound, digit_fits, all-read}
use Rattle.octets.proofs.Parts.{length_part, get_d_part}
use Rattle.octets.proofs.number.number_at.Goals as goal

pub loop-b-init : goal.loop-b-init
unfolding number digits
loop-b-init g c = (refl, omega arith)

pub loop-b-preserved : goal.loop-b-preserved
loop-b-preserved g c =
    let A = c.args in
    let L = c.loop-b in
    let n = A.at + g.row.W - A.at in
    let s = part A.s.now A.at n in
    let l = length_part A.s.now A.at n (omega arith) in
    let b : c.from.result < 256 =
    omega (arith, get_d_part A.s.now A.at n L.b-index (omega arith), c.type_inv.s (A.at + L.b-index)) in (
      omega (arith, number-take-suc s L.b-index c.loop-b-test.true),
      digit-bound L.n c.from.result L.b-index L.invariant.1 b,
    )

pub overflow_mul-n : goal.overflow_mul-n
overflow_mul-n g c =
    let A = c.args in
    let l = length_part A.s.now A.at (A.at + g.row.W - A.at) (omega arith) in
    omega (arith, digit_fits c.loop-b.n c.loop-b.b-index c.loop-b.invariant.1 (omega arith))

pub returns : goal.returns
returns g c =
    let A = c.args in
    let L = c.loop-b in
    let e : A.at + g.row.W - A.at ≡ g.row.W = omega arith in
    let l = length_part A.s.now A.at (A.at + g.row.W - A.at) (omega arith) in
    all-read g.row.W A.s.now A.at L.n L.b-index (omega arith) (omega arith) (rw e at L.invariant.0) L.invariant.1
