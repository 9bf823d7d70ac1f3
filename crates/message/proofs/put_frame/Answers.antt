use native.Mathlib.Omega.{arith}
use mathlib.Core.Path.{◌≡◌}
use Prim.Native.Nat.{◌/◌, ◌%◌}
use lib.ListN.{length}
use Rattle.octets.specs.Number.{big_endian}
use Rattle.message.proofs.put_frame.Goals as goal

pub returns : goal.returns
unfolding big_endian
returns c =
    let n = length c.args.payload.now in
    let q : n / 256 % 256 ≡ n / 256 = omega (arith, c.requires.short) in
    rw (c.copy.ensures, c.put_number.ensures, q)
