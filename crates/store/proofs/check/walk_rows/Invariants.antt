use Rattle.store.specs.Walk.{Passed}
use Rattle.store.proofs.check.walk_rows.Given as goal

-- The first `counter` rows have passed.
abbrev pub invariant-loop : goal.invariant-loop
invariant-loop l = Passed l.rows l.fn.from.prev l.fn.from.at l.counter l.prev l.at
