-- `store::writing::clear` meets its contract.
use mathlib.Core.Path.{refl}
use mathlib.Core.List.{[]}
use native.Mathlib.Omega.{arith}
use Rattle.model.specs.Invariant.{Ascending}
use Rattle.store.proofs.Rows.{Rows}
use Rattle.store.proofs.Splice.{length-headed, represents-headed, becomes}
use Rattle.store.proofs.writing.clear.Goals as goal

pub returns : goal.returns
unfolding Rows Ascending
returns c =
    let st = c.args.st.now in
    let l = c.requires in
    rw c.put_head.ensures
    (becomes st (length-headed st 0 0) (represents-headed st [] 0 0 refl tt refl (omega arith) (omega arith)))
