-- `store::check::is_fine` meets its contract: each way out is a clause of the test.
use mathlib.Core.Path.{◌≡◌, ◌∙◌}
use mathlib.Core.List.{List}
use mathlib.Core.Bool.{false}
use mathlib.Core.Option.{none}
use Prim.Native.Nat.{ℕ, ◌+◌, ◌-◌, ◌≤◌, ◌<◌}
use native.Mathlib.Omega.{arith}
use borrow.Author.Tests.{le-leb, lt-leb}
use lib.ListN.{length}
use Rattle.octets.specs.Octets.{Bytes}
use Rattle.octets.specs.Part.{part}
use Rattle.store.specs.Region.{used_of, count_of, rows_of, rows_fine, store_fine, entries, store_of}
use Rattle.store.specs.Index.{Indexes}
use Rattle.store.proofs.Indexing.{unindexed}
use Rattle.store.proofs.check.is_fine.Goals as goal
use Rattle.store.proofs.check.is_fine.Goals.{then-st-used-via-then-st-used}
use Rattle.store.proofs.check.is_fine.Goals.{then-st-used-via-else-st-used+then-count-gt1024}

module _ (st : Bytes) where
  fine-short : length st < 8 → false ≡ store_fine st
  unfolding store_fine
  fine-short h = rw (lt-leb 8 (length st) h)

  fine-full : (u : ℕ) → u ≡ used_of st → 8 ≤ length st → length st < 8 + u → false ≡ store_fine st
  unfolding store_fine
  fine-full u e h k = rw (le-leb 8 (length st) h, ← e, lt-leb (8 + u) (length st) k)

  fine-many : (u n : ℕ) → u ≡ used_of st → n ≡ count_of st → 8 ≤ length st → 8 + u ≤ length st → 1024 < n
      → false ≡ store_fine st
  unfolding store_fine
  fine-many u n e f h k m = rw (le-leb 8 (length st) h, ← e, le-leb (8 + u) (length st) k, ← f, lt-leb n 1024 m)

  fine-rows : (u n : ℕ) → u ≡ used_of st → n ≡ count_of st → 8 ≤ length st → 8 + u ≤ length st → n ≤ 1024
      → rows_fine none n (part st 8 (8 + u - 8)) ≡ store_fine st
  unfolding store_fine rows_of
  fine-rows u n e f h k m =
      let s : 8 + u - 8 ≡ u = omega arith in
      rw (le-leb 8 (length st) h, s, ← e, le-leb (8 + u) (length st) k, ← f, le-leb n 1024 m)

  -- an index of the rows is one of the store
  indexed-rows : {index : List ℕ} (u n : ℕ) → u ≡ used_of st → n ≡ count_of st
      → Indexes (entries n (part st 8 (8 + u - 8))) index → Indexes (store_of st) index
  unfolding store_of rows_of
  indexed-rows u n e f x =
      let s : 8 + u - 8 ≡ u = omega arith in
      rw (← e, ← f) (rw s at x)

pub returns-then-st-lt8 : goal.returns-then-st-lt8
returns-then-st-lt8 c =
    (fine-short c.args.st.now c.if-st-lt8.true, unindexed _ _ c.requires)

pub returns-then-st-used : goal.returns-then-st-used
returns-then-st-used c =
    let st = c.args.st.now in
    let u = c.number_at-used in
    let n = c.number_at-count in
    elim c.then-st-used.branch [
      | then-st-used-via-then-st-used w ↦
          (fine-full st u.result u.ensures.value c.if-st-lt8.false w.if-st-used.true, unindexed _ _ c.requires)
      | then-st-used-via-else-st-used+then-count-gt1024 w ↦ (
        fine-many st u.result n.result u.ensures.value n.ensures.value
            c.if-st-lt8.false w.if-st-used.false w.if-count-gt1024.true,
        unindexed _ _ c.requires,
      )
    ]

pub returns : goal.returns
returns c =
    let r = c.rows_fine in (
      r.ensures.0
          ∙ fine-rows c.args.st.now c.number_at-used.result c.number_at-count.result
          c.number_at-used.ensures.value c.number_at-count.ensures.value
          c.if-st-lt8.false c.if-st-used.false c.if-count-gt1024.false,
      indexed-rows c.args.st.now c.number_at-used.result c.number_at-count.result
          c.number_at-used.ensures.value c.number_at-count.ensures.value r.ensures.1,
    )
