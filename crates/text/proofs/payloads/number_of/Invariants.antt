use mathlib.Core.Path.{◌≡◌}
use Prim.Native.Nat.{◌<◌}
use lib.ListN.{drop}
use Rattle.text.specs.Payload.{number_from}
use Rattle.text.proofs.payloads.number_of.Given as goal

abbrev pub invariant-loop-c : goal.invariant-loop-c
invariant-loop-c l = (l.n < 256) × (number_from 0 l.s ≡ number_from l.n (drop l.c-index l.s))
