-- `read_wire::show_stream`: what is left to show gets shorter.
use Rattle.std.proofs.Common.{length}
use Rattle.read_wire.proofs.show_stream.Given as goal

abbrev pub decreases-loop-rest : goal.decreases-loop-rest
decreases-loop-rest g l = length l.rest
