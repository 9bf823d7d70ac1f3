use mathlib.Core.Path.{sym, ◌∙◌}
use native.Mathlib.Omega.{arith}
use Rattle.recording.proofs.Checks.{check-broken, check-next, check-end}
use Rattle.recording.proofs.rows.rows_fine.Goals as goal

pub returns-in_default : goal.returns-in_default
returns-in_default c =
    sym (check-broken c.args.rows.now c.args.n c.loop.counter c.loop.rest.now c.loop.invariant c.loop-test.true
    c.in_default.ensures)

pub loop-preserved : goal.loop-preserved
loop-preserved c =
    check-next c.args.rows.now c.args.n c.loop.counter c.loop.rest.now c.loop.invariant c.loop-test.true
    c.in-Some.behind.now c.in-Some.ensures

pub returns : goal.returns
returns c =
    c.is_empty.ensures
    ∙ sym (check-end c.args.rows.now c.args.n c.loop.counter c.loop.rest.now c.loop.invariant (omega arith))
