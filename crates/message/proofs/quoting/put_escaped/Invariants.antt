-- The bytes before c are written, and `to` is the place after them.
use lib.ListN.{take}
use Rattle.message.specs.Quoting.{escapes}
use Rattle.message.specs.Post.{Writes}
use Rattle.message.proofs.quoting.put_escaped.Given as goal

abbrev pub invariant-loop-c : goal.invariant-loop-c
invariant-loop-c l = Writes (escapes (take l.c-index l.s)) l.initial.out l.at l.to l.out
