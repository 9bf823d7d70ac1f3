use mathlib.Core.Path.{refl}
use native.Mathlib.Omega.{arith}
use Rattle.octets.specs.Table.{rows}
use Rattle.subscriptions.proofs.Removing.{becomes-headed}
use Rattle.subscriptions.proofs.clear.Goals as goal

pub returns : goal.returns
unfolding rows
returns c =
    let s = c.args.s.now in
    rw c.put_number.ensures (becomes-headed s 0 c.requires (omega arith) _ s c.requires refl)
