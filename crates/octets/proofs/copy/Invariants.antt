use Rattle.std.proofs.Common.{◌≡◌, take, length}
use lib.Seq.{sets}
use Rattle.octets.proofs.copy.Given as goal

-- the first i bytes of src are copied
abbrev pub invariant-loop-i : goal.invariant-loop-i
invariant-loop-i l = (l.dst ≡ sets l.initial.dst l.at (take l.i l.src)) × (length l.dst ≡ length l.initial.dst)
