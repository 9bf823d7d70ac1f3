-- `step::turn_sub` meets its contract. The loop's invariant: the client is owed what the passed entries give, and the
-- walk stands at the next one's row. The measure is what is left of the entries.
use mathlib.Core.Path.{refl, sym, subst}
use Prim.Native.Nat.{ℕ, ◌+◌}
use native.Mathlib.Omega.{arith}
use borrow.Author.Rules.{rules}
use Rattle.step.proofs.Entries.{count_entries}
use Rattle.step.proofs.Turns.{turn-addable, added-open, sub-becomes}
use Rattle.step.proofs.Walk.{Walked, walk_start, walk-row, walk-told, walk_end}
use Rattle.step.proofs.Walk.{Told, told-row, told-small, told-next}
use Rattle.step.proofs.turn_sub.Goals as goal
use Rattle.step.proofs.turn_sub.Goals.{After-owe_match}

-- the entry has had its turn
told : (c : After-owe_match)
    → Told c.args.slot c.args.pattern.now c.add_pattern.new.mem
    c.owe_match.new.mem c.count-passed-end.result c.loop-passed.at c.loop-passed._passed
told c = walk-told c.loop-passed.invariant.0 c.loop-passed-test.true c.owe_match.ensures

pub add_pattern-requires : goal.add_pattern-requires
add_pattern-requires c = turn-addable c.requires

pub loop-passed-init : goal.loop-passed-init
loop-passed-init c =
    let n = rw c.store_part.ensures at c.count-passed-end.ensures in (
      walk_start c.args.pattern.now c.count-passed-end.result
          (added-open c.requires.in-open c.args.pattern.now c.add_pattern.ensures)
          (count_entries c.add_pattern.ensures.sound n),
      refl,
    )

pub owe_match-requires : goal.owe_match-requires
owe_match-requires c =
    (walk-row c.loop-passed.invariant.0 c.loop-passed-test.true, omega (arith, c.loop-passed.invariant.1))

pub row_size-at-requires : goal.row_size-at-requires
row_size-at-requires c = rw c.store_part-in-loop-passed.ensures (told-row (told (goal.at.row_size-at-requires c).After-owe_match))

pub overflow_add-at : goal.overflow_add-at
overflow_add-at c =
    let e = rw c.store_part-in-loop-passed.ensures at c.row_size-at.ensures in
    omega (arith, told-small (told (goal.at.overflow_add-at c).After-owe_match))

pub loop-passed-preserved : goal.loop-passed-preserved
loop-passed-preserved c =
    let a = c.args in
    let e = rw c.store_part-in-loop-passed.ensures at c.row_size-at.ensures in (
      subst (λ (n : ℕ).
          Walked a.slot a.pattern.now c.add_pattern.new.mem c.owe_match.new.mem
          c.count-passed-end.result (c.loop-passed.at + n) (c.loop-passed._passed + 1))
          (sym e) (told-next (told (goal.at.loop-passed-preserved c).After-owe_match)),
      search rules,
    )

pub returns : goal.returns
returns c =
    sub-becomes c.requires.in-open c.args.pattern.now c.add_pattern.ensures
    (walk_end c.loop-passed.invariant.0 c.loop-passed-test.false)
