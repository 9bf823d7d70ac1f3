use Rattle.memory.specs.Layout.{sizes_from}
use Rattle.memory.specs.Promises.{Freeing}
use Rattle.memory.proofs.setting.free_slots.Given as goal

abbrev pub invariant-loop-i : goal.invariant-loop-i
invariant-loop-i l = Freeing (sizes_from l.z) l.initial.mem l.i l.mem
