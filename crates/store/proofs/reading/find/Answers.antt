-- `store::reading::find` meets its contract.
use mathlib.Core.Path.{◌≡◌}
use Prim.Native.Nat.{◌+◌, ◌<◌}
use native.Mathlib.Omega.{arith}
use mathlib.Core.Bool.{true}
use lib.ListN.{drop}
use Rattle.octets.specs.Order.{order}
use Rattle.std.proofs.Common.{Less, Equal, Greater}
use Rattle.store.specs.Row.{key_of, row_fine}
use Rattle.store.specs.Region.{used_of}
use Rattle.store.proofs.Region.{represents}
use Rattle.store.proofs.Turns.{searched-start, searched-row, searched-within}
use Rattle.store.proofs.Turns.{searched-less, searched-equal, searched-greater, searched-end}
use Rattle.store.proofs.reading.find.Goals as goal
use Rattle.store.proofs.reading.find.Goals.{In-loop-at}

-- the loop has not come to the end of what is used
inside : (c : In-loop-at) → c.loop-at.at < used_of c.args.st.now
inside c = omega (arith, c.loop-at.invariant.to_end)

-- so a row stands at `at`
here : (c : In-loop-at) → row_fine (drop (8 + c.loop-at.at) c.args.st.now) ≡ true
here c = searched-row c.loop-at.invariant.searched (inside c)

pub loop-at-init : goal.loop-at-init
loop-at-init c =
    record { to_end = c.used-end.ensures; searched = searched-start c.requires.0 c.nearest-at.ensures }

pub key_at-requires : goal.key_at-requires
key_at-requires c = here (goal.at.key_at-requires c).In-loop-at

pub row_size-at-requires : goal.row_size-at-requires
row_size-at-requires c = here (goal.at.row_size-at-requires c).In-loop-at

pub row_size-requires : goal.row_size-requires
row_size-requires c = here (goal.at.row_size-requires c).In-loop-at

pub overflow_add-at : goal.overflow_add-at
overflow_add-at c =
    let w = searched-within c.loop-at.invariant.searched (inside (goal.at.overflow_add-at c).In-loop-at) in
    let r = represents c.args.st.now c.requires.0 in
    omega (arith, c.row_size-at.ensures)

pub loop-at-preserved : goal.loop-at-preserved
loop-at-preserved c =
    let i = inside (goal.at.loop-at-preserved c).In-loop-at in
    let o : order (key_of (drop (8 + c.loop-at.at) c.args.st.now)) c.args.key.now ≡ Less = cc in
    rw c.row_size-at.ensures
    (record { to_end = c.loop-at.invariant.to_end; searched = searched-less c.loop-at.invariant.searched i o })

pub returns-in-Equal : goal.returns-in-Equal
returns-in-Equal c =
    let i = inside (goal.at.returns-in-Equal c).In-loop-at in
    let o : order (key_of (drop (8 + c.loop-at.at) c.args.st.now)) c.args.key.now ≡ Equal = cc in
    rw c.row_size.ensures (searched-equal c.loop-at.invariant.searched i o)

pub returns-in-Greater : goal.returns-in-Greater
returns-in-Greater c =
    let i = inside (goal.at.returns-in-Greater c).In-loop-at in
    let o : order (key_of (drop (8 + c.loop-at.at) c.args.st.now)) c.args.key.now ≡ Greater = cc in
    searched-greater c.loop-at.invariant.searched i o

pub returns : goal.returns
returns c = searched-end c.loop-at.invariant.searched (omega (arith, c.loop-at.invariant.to_end))
