-- `store::check::key_follows` meets its contract.
use mathlib.Core.Path.{ap₂, ◌∙◌}
use borrow.Author.Tests.{eq-eqb}
use Rattle.octets.specs.Order.{before}
use Rattle.store.proofs.Walks.{follows-first, follows_next}
use Rattle.store.proofs.check.key_follows.Goals as goal

pub returns-then-at-eq0 : goal.returns-then-at-eq0
returns-then-at-eq0 c =
    let a = c.args in
    eq-eqb a.at 0 c.if-at-eq0.true ∙ follows-first a.rows.now a.prev a.at c.if-at-eq0.true

pub returns-else-at-eq0 : goal.returns-else-at-eq0
returns-else-at-eq0 c =
    let a = c.args in
    c.precedes.ensures
    ∙ ap₂ before c.key.ensures c.key-else-at-eq0.ensures
    ∙ follows_next a.rows.now a.prev a.at c.if-at-eq0.false
