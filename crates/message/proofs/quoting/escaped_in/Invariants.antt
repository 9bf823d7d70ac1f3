-- n bytes are escaped before the byte c.
use mathlib.Core.Path.{◌≡◌}
use Prim.Native.Nat.{◌+◌, ◌≤◌}
use lib.ListN.{drop}
use Rattle.message.specs.Quoting.{escaped}
use Rattle.message.proofs.quoting.escaped_in.Given as goal

abbrev pub invariant-loop-c : goal.invariant-loop-c
invariant-loop-c l = (l.n + escaped (drop l.c-index l.s) ≡ escaped l.s) × (l.n ≤ l.c-index)
