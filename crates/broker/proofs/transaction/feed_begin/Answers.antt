use mathlib.Core.Path.{refl, sym, ◌∙◌}
use mathlib.Core.List.{[]}
use Rattle.model.specs.State.{begun}
use Rattle.broker.proofs.Decided.{obeys-as, obeys-consumed, begin-on, begin-off}
use Rattle.broker.proofs.Recorded.{in-used}
use Rattle.broker.proofs.transaction.feed_begin.Goals as goal

pub in_transaction-requires : goal.in_transaction-requires
in_transaction-requires c = in-used c.requires.in-open

pub returns-then-in_transaction : goal.returns-then-in_transaction
returns-then-in_transaction c =
    let A = c.args in
    λ n. obeys-as
    (begin-on A.mem.now A.slot n (sym c.in_transaction.ensures ∙ c.if-in_transaction.true))
    (c.refuse.ensures n)

pub returns : goal.returns
returns c =
    let A = c.args in
    λ n. obeys-as
    (begin-off A.mem.now A.slot n (sym c.in_transaction.ensures ∙ c.if-in_transaction.false))
    (obeys-consumed A.slot n c.requires.fine (begun []) refl refl
    c.begin.ensures)
