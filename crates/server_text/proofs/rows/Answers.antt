-- `server_text::rows`: the rows of the code are the server's rows of the table, computed.
use mathlib.Core.Path.{refl}
use Rattle.octets.specs.Octets.{ascii}
use Rattle.server_text.proofs.rows.Goals as goal

pub returns : goal.returns
unfolding ascii
returns c = refl
