-- `commit::refuses_any` meets its contract.
use mathlib.Core.Path.{◌≡◌, ap}
use Prim.Native.Nat.{ℕ, ◌+◌, ◌<◌}
use native.Mathlib.Omega.{arith}
use lib.ListN.{length, drop}
use Rattle.recording.specs.Encoding.{row_size}
use Rattle.recording.specs.Region.{rows_of, recorded}
use Rattle.recording.proofs.Walks.{row_here, walk-row}
use Rattle.commit.proofs.Steps.{tally-start, try-start, try-turn, try-stopped, try-next, try-end}
use Rattle.commit.proofs.refuses_any.Goals as goal
use Rattle.commit.proofs.refuses_any.Goals.{In-loop}

-- an action stands at the offset
here : (c : In-loop) → c.loop.counter < length (recorded c.args.recording.now)
here c = omega (arith, c.count-end.ensures)

pub loop-init : goal.loop-init
loop-init c =
    let A = c.args in
    let g = c.requires in
    try-start A.store.now A.recording.now A.patterns.now _ g
    (tally-start A.store.now _ _ g.store-fine c.used.ensures c.count.ensures)

pub turn-requires : goal.turn-requires
turn-requires c =
    let A = c.args in
    let w = c.loop in
    let l = here (goal.at.turn-requires c).In-loop in
    try-turn A.store.now A.recording.now A.patterns.now w.t w.at w.counter w.patterns c.requires l w.invariant

pub returns-in_default : goal.returns-in_default
returns-in_default c =
    let A = c.args in
    let w = c.loop in
    let l = here (goal.at.returns-in_default c).In-loop in
    try-stopped A.store.now A.recording.now A.patterns.now w.t w.at w.counter w.patterns c.requires l w.invariant
    _ c.in_default.ensures

pub row_size-at-requires : goal.row_size-at-requires
row_size-at-requires c =
    let w = c.loop in
    walk-row c.args.recording.now w.at w.counter w.invariant.walk (here (goal.at.row_size-at-requires c).In-loop)

pub overflow_add-at : goal.overflow_add-at
overflow_add-at c =
    let r = c.args.recording.now in
    let w = c.loop in
    let l = here (goal.at.overflow_add-at c).In-loop in
    let m = row_here r w.at (walk-row r w.at w.counter w.invariant.walk l) in
    omega (arith, m.bound, m.size, c.row_size-at.ensures)

pub loop-preserved : goal.loop-preserved
loop-preserved c =
    let A = c.args in
    let r = A.recording.now in
    let w = c.loop in
    let l = here (goal.at.loop-preserved c).In-loop in
    let e : w.at + c.row_size-at.result ≡ w.at + row_size (drop w.at (rows_of r)) =
    ap (λ (z : ℕ). w.at + z) c.row_size-at.ensures in
    rw e
    (try-next A.store.now r A.patterns.now w.t w.at w.counter w.patterns c.requires l w.invariant
    c.in-Some.next _ c.in-Some.ensures)

pub returns : goal.returns
returns c =
    let A = c.args in
    let w = c.loop in
    try-end A.store.now A.recording.now A.patterns.now w.t w.at w.counter w.patterns
    (omega (arith, c.count-end.ensures)) w.invariant
