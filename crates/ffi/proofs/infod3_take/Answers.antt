-- `ffi::infod3_take` meets its contract.
use Rattle.ffi.proofs.Given.{takes-given}
use Rattle.ffi.proofs.infod3_take.Goals as goal

pub returns : goal.returns
returns c = takes-given c.from.ensures.0 c.from.ensures.1 c.take.ensures
