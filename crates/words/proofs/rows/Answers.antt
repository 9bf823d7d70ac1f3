-- `words::rows`: the rows of the code are those of the table of words, computed.
use Rattle.std.proofs.Common.{refl}
use Rattle.octets.specs.Octets.{ascii}
use Rattle.words.proofs.rows.Goals as goal

pub returns : goal.returns
unfolding ascii
returns c = refl
