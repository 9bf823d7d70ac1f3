use Prim.Native.Nat.{◌-◌}
use lib.ListN.{length}
use Rattle.text.proofs.ScanLaws.{Scanning}
use Rattle.server_text.specs.Strings.{exact}
use Rattle.server_text.proofs.strings.string_at.Given as goal

abbrev pub invariant-loop-i : goal.invariant-loop-i
invariant-loop-i l = Scanning exact l.line l.at l.initial.buf l.to l.buf l.i l.len l.nul

abbrev pub decreases-loop-i : goal.decreases-loop-i
decreases-loop-i l = length l.line - l.i
