use Rattle.std.proofs.Common.{◌+◌, ◌*◌}
use Rattle.server_text.proofs.ScanLaws.{Raw}
use Rattle.server_text.proofs.strings.raw_end.Given as goal

-- the blocks before block k may all stand raw
abbrev pub invariant-loop-k : goal.invariant-loop-k
invariant-loop-k l = Raw l.line l.at (l.at + 32 * l.k)
