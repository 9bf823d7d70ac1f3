use Rattle.std.proofs.Common.{◌≡◌, take, length}
use lib.Seq.{sets}
use Rattle.message.proofs.quoting.put.Given as goal

-- the first i bytes are written
abbrev pub invariant-loop-i : goal.invariant-loop-i
invariant-loop-i l = (l.out ≡ sets l.initial.out l.at (take l.i l.bytes)) × (length l.out ≡ length l.initial.out)
