use Rattle.server_text.proofs.ScanLaws.{Raw}
use Rattle.server_text.proofs.strings.raw_from.Given as goal

abbrev pub invariant-loop-i : goal.invariant-loop-i
invariant-loop-i l = Raw l.line l.at l.i
