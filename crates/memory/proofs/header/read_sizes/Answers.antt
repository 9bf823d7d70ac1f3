-- `memory::header::read_sizes` meets its contract.
use Rattle.memory.specs.Layout.{sizes_of}
use Rattle.memory.proofs.header.read_sizes.Goals as goal

pub returns : goal.returns
unfolding sizes_of
returns c =
    rw (
      c.number_at.ensures.value,
      c.number_at-2.ensures.value,
      c.number_at-3.ensures.value,
      c.number_at-4.ensures.value,
    )
