-- `store::check::rows_fine` meets its contract.
use mathlib.Core.Path.{◌≡◌, sym}
use Prim.Native.Nat.{◌+◌, ◌-◌, ◌*◌, ◌<◌, min}
use native.Mathlib.Omega.{arith}
use Rattle.std.proofs.Common.{lit<}
use Rattle.std.proofs.lemmas.Grind.{div_ceil_times}
use Rattle.store.specs.Region.{entries}
use Rattle.store.specs.Index.{Indexes}
use Rattle.store.proofs.Indexing.{unindexed, indexes-set}
use Rattle.store.proofs.Walks.{reached-start, passed_start, passed-append, failed-append}
use Rattle.store.proofs.Walks.{passed-boundary, passed-end, failed-end}
use Rattle.store.proofs.check.rows_fine.Goals as goal
use Rattle.store.proofs.check.rows_fine.Goals.{After-note}

-- a walk begins in front of a row
begun : (c : After-note) → 32 * c.loop-n.n < c.args.count
begun c =
    let d = div_ceil_times c.args.count 32 (lit< tt) in
    omega (arith, c.div_ceil-n-end.ensures)

-- the offset that is noted is where a row begins
indexed : (c : After-note) → Indexes (entries c.args.count c.args.rows.now) c.note.new.index
indexed c =
    let L = c.loop-n in
    let count = c.args.count in
    let done = min (32 * L.n) count in
    let b = passed-boundary L.invariant.passed (count - done) count (omega arith) in
    rw c.note.ensures (indexes-set L.n L.invariant.indexed b)

pub loop-n-init : goal.loop-n-init
loop-n-init c =
    let A = c.args in
    let z : min 0 A.count ≡ 0 = omega arith in
    record {
      passed = rw z (passed_start (reached-start A.rows.now));
      indexed = unindexed (entries A.count A.rows.now) A.index.now c.requires;
    }

pub returns-in_default : goal.returns-in_default
returns-in_default c =
    let a = (goal.at.returns-in_default c).After-note in
    let L = c.loop-n in
    let count = c.args.count in
    let k = c.min in
    let b = begun a in (
      sym (failed-end (failed-append L.invariant.passed c.in_default.ensures)
          (count - (min (32 * L.n) count + k.result)) count (omega (arith, k.ensures))),
      indexed a,
    )

pub loop-n-preserved : goal.loop-n-preserved
loop-n-preserved c =
    let a = (goal.at.loop-n-preserved c).After-note in
    let L = c.loop-n in
    let count = c.args.count in
    let k = c.min in
    let b = begun a in
    let n : min (32 * L.n) count + k.result ≡ min (32 * (L.n + 1)) count = omega (arith, k.ensures) in
    record {
      passed = rw n at (passed-append L.invariant.passed c.in-Some.ensures);
      indexed = indexed a;
    }

pub returns : goal.returns
returns c =
    let L = c.loop-n in
    let count = c.args.count in
    let d = div_ceil_times count 32 (lit< tt) in
    let n : min (32 * L.n) count ≡ count = omega (arith, c.div_ceil-n-end.ensures) in
    (sym (passed-end (rw n at L.invariant.passed)), L.invariant.indexed)
