-- `memory::setting::put_header` meets its contract.
use Rattle.memory.specs.Layout.{sizes_from}
use Rattle.memory.proofs.Fresh.{heading}
use Rattle.memory.proofs.setting.put_header.Goals as goal

pub returns : goal.returns
returns c =
    rw (
      c.put_number-5.ensures,
      c.put_number-4.ensures,
      c.put_number-3.ensures,
      c.put_number-2.ensures,
      c.put_number.ensures,
    )
    (heading (sizes_from c.args.z) c.args.mem.now c.requires)
