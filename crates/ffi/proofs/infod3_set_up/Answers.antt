-- `ffi::infod3_set_up` meets its contract.
use Rattle.ffi.proofs.Given.{sets-up-given}
use Rattle.ffi.proofs.infod3_set_up.Goals as goal

pub returns : goal.returns
returns c = sets-up-given c.from.ensures.0 c.from.ensures.1 c.set_up.ensures
