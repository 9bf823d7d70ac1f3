use mathlib.Core.Path.{◌≡◌}
use Prim.Native.Nat.{◌-◌}
use Rattle.store.specs.Region.{used_of}
use Rattle.store.proofs.Turns.{Searched}
use Rattle.store.proofs.reading.find.Given as goal

-- The keys of the rows up to `at` come before the key, and what is found in the whole is what is found in the rest.
abbrev pub invariant-loop-at : goal.invariant-loop-at
invariant-loop-at l = record {
  to_end : l.end ≡ used_of l.st;
  searched : Searched l.st l.key l.at;
}

abbrev pub decreases-loop-at : goal.decreases-loop-at
decreases-loop-at l = l.end - l.at
