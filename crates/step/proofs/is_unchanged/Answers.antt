-- `step::is_unchanged` goes by what stands behind the key, and by the key's row.
-- ---- a value
use mathlib.Core.Path.{◌≡◌, ◌∙◌}
use Prim.Native.Nat.{◌<◌, ◌≤◌}
use native.Mathlib.Omega.{arith}
use borrow.Author.Rules.{part_to_end}
use lib.ListN.{length}
use borrow.Author.Tests.{eq-eqb}
use Rattle.model.specs.Store.{lookup}
use Rattle.recording.specs.Encoding.{key_in}
use Rattle.store.specs.Region.{store_of}
use Rattle.store.specs.Operation.{charge, body_found}
use Rattle.store.proofs.Change.{found-row, found_none}
use Rattle.step.proofs.Writes.{key-behind, unchanged-delete, unchanged-absent, entry-long, unchanged-present}
use Rattle.step.proofs.is_unchanged.Goals as goal
use Rattle.step.proofs.is_unchanged.Goals.{After-body_at}

-- the body is that of the key's entry
entry : (c : After-body_at)
    → c.body_at.result.now ≡ body_found c.args.store.now (key_in c.args.p.now)
entry c =
    let h = c.requires in
    c.body_at.ensures ∙ (found-row h.fine h.found (omega (arith, c.if-old-ne0.true))).1

there : (c : After-body_at)
    → 0 < charge (key_in c.args.p.now)
    (lookup (key_in c.args.p.now) (store_of c.args.store.now))
there c = omega (arith, c.requires.found.size, c.if-old-ne0.true)

longer : (c : After-body_at)
    → c.in-Value.start ≤ length c.body_at.result.now
longer c =
    entry-long c.args.p.now (store_of c.args.store.now) _ _ (key-behind c.requires c.in-Value.is) (entry c)
    (there c)

pub returns-in-Delete : goal.returns-in-Delete
returns-in-Delete c =
    unchanged-delete c.args.p.now (store_of c.args.store.now) (key-behind c.requires c.in-Delete.is)
    c.requires.found.size

pub returns-else-old-ne0 : goal.returns-else-old-ne0
returns-else-old-ne0 c =
    rw (eq-eqb c.args.old 0 c.if-old-ne0.false)
    (unchanged-absent c.args.p.now (store_of c.args.store.now) _ _ (key-behind c.requires c.in-Value.is)
    (found_none c.requires.found c.if-old-ne0.false))

pub body_at-requires : goal.body_at-requires
body_at-requires c =
    let h = c.requires in
    (found-row h.fine h.found (omega (arith, c.if-old-ne0.true))).0

pub returns-then-old-ne0 : goal.returns-then-old-ne0
returns-then-old-ne0 c =
    c.equal.ensures
    ∙ rw (part_to_end c.args.p.now c.in-Value.start, part_to_end c.body_at.result.now c.in-Value.start)
    (unchanged-present c.args.p.now (store_of c.args.store.now) _ _ (key-behind c.requires c.in-Value.is)
    (entry (goal.at.returns-then-old-ne0 c).After-body_at) (there (goal.at.returns-then-old-ne0 c).After-body_at))

pub slice_bounds-equal-count-then-old-ne0 : goal.slice_bounds-equal-count-then-old-ne0
slice_bounds-equal-count-then-old-ne0 c = longer (goal.at.slice_bounds-equal-count-then-old-ne0 c).After-body_at

pub slice_bounds-equal-start-then-old-ne0 : goal.slice_bounds-equal-start-then-old-ne0
slice_bounds-equal-start-then-old-ne0 c = longer (goal.at.slice_bounds-equal-start-then-old-ne0 c).After-body_at

pub slice_bounds-equal-count : goal.slice_bounds-equal-count
slice_bounds-equal-count c = omega (arith, (key-behind c.requires c.in-Value.is).1)

pub slice_bounds-equal-start : goal.slice_bounds-equal-start
slice_bounds-equal-start c = omega (arith, (key-behind c.requires c.in-Value.is).1)
