-- `ffi::infod3_feed` meets its contract.
use Rattle.ffi.proofs.Given.{serves-given}
use Rattle.ffi.proofs.infod3_feed.Goals as goal

pub returns : goal.returns
returns c = serves-given c.from.ensures.0 c.from.ensures.1 c.feed.ensures
