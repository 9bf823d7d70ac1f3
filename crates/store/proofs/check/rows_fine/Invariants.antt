use Prim.Native.Nat.{◌*◌, min}
use Rattle.store.specs.Region.{entries}
use Rattle.store.specs.Index.{Indexes}
use Rattle.store.specs.Walk.{Passed}
use Rattle.store.proofs.check.rows_fine.Given as goal

-- Of the rows 32 for each walk have passed, or all, and the index is one of the store.
abbrev pub invariant-loop-n : goal.invariant-loop-n
invariant-loop-n l = record {
  passed : Passed l.rows 0 0 (min (32 * l.n) l.count) l.walk.prev l.walk.at;
  indexed : Indexes (entries l.count l.rows) l.index;
}
