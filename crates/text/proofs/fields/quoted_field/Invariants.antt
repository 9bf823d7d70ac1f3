use Prim.Native.Nat.{◌-◌}
use lib.ListN.{length}
use Rattle.text.specs.Fields.{quoted}
use Rattle.text.proofs.ScanLaws.{Scanning}
use Rattle.text.proofs.fields.quoted_field.Given as goal

abbrev pub invariant-loop-i : goal.invariant-loop-i
invariant-loop-i l = Scanning quoted l.line l.at l.initial.buf l.to l.buf l.i l.len l.nul

abbrev pub decreases-loop-i : goal.decreases-loop-i
decreases-loop-i l = length l.line - l.i
