use Rattle.commit.proofs.Steps.{Trying}
use Rattle.commit.proofs.refuses_any.Given as goal

-- The first actions are gone through, and `at` is the offset of the next one.
abbrev pub invariant-loop : goal.invariant-loop
invariant-loop l = Trying l.store l.recording l.initial.patterns l.t l.at l.counter l.patterns
