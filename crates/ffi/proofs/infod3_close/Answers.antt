-- `ffi::infod3_close` meets its contract.
use Rattle.ffi.proofs.Given.{serves-given}
use Rattle.ffi.proofs.infod3_close.Goals as goal

pub returns : goal.returns
returns c = serves-given c.from.ensures.0 c.from.ensures.1 c.close.ensures
