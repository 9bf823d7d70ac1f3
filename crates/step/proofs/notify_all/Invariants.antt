use Rattle.slot.specs.Image.{notified}
use Rattle.memory.specs.Image.{image_of}
use Rattle.step.proofs.Each.{Passed}
use Rattle.step.proofs.notify_all.Given as goal

abbrev pub invariant-loop-i : goal.invariant-loop-i
invariant-loop-i l = Passed (notified (image_of l.initial.mem).sizes.queue_room l.body l.key) l.i l.initial.mem l.mem
