use mathlib.Core.Path.{◌≡◌}
use Prim.Native.Nat.{◌+◌}
use native.Mathlib.Omega.{arith}
use Rattle.protocol.specs.Ids.{id_of}
use Rattle.recording.specs.Region.{used_of, count_of}
use Rattle.recording.proofs.Writing.{space, row_written, becomes-added}
use Rattle.recording.proofs.add.Goals as goal

pub put_number-requires : goal.put_number-requires
unfolding used_of
put_number-requires c =
    let A = c.args in
    let r = A.r.now in
    let s = space r (id_of A.id) A.payload.now c.requires in
    let eu : c.number_at-used.result ≡ used_of r = c.number_at-used.ensures.value in
    omega (arith, s.room)

pub put_header-requires : goal.put_header-requires
unfolding used_of
put_header-requires c =
    let A = c.args in
    let r = A.r.now in
    let s = space r (id_of A.id) A.payload.now c.requires in
    let eu : c.number_at-used.result ≡ used_of r = c.number_at-used.ensures.value in
    omega (arith, s.room)

pub returns : goal.returns
unfolding used_of count_of
returns c =
    let A = c.args in
    let r = A.r.now in
    let p = A.payload.now in
    let eu : c.number_at-used.result ≡ used_of r = c.number_at-used.ensures.value in
    let en : c.number_at-n.result ≡ count_of r = c.number_at-n.ensures.value in
    rw (
      c.put_header.ensures,
      c.copy.ensures,
      c.put_number.ensures,
      c.put.ensures,
      c.from.ensures,
    )
    (rw (eu, en, row_written r (12 + used_of r) (id_of A.id) p) (becomes-added r (id_of A.id) p c.requires))
