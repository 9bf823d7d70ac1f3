-- That the premises of the theorems can be met.
use Rattle.std.specs.Prelude.{List}
use Rattle.octets.specs.Octets.{Bytes}
use Rattle.model.specs.State.{Sizes}
use Rattle.model.specs.Decision.{Call, Reply}
use Rattle.infod3.specs.Infod3.{infod3}
use Rattle.refinement.specs.Promises.{SetsUp, Run}

-- A set up of the memory m₀ is answered 0, and the calls xs go through on what it leaves, each lent the memory that
-- the last one left and each keeping its contract.
pub record Possible (z : Sizes) (m₀ : Bytes) (xs : List Call) : Type 0 where
  pub started : Bytes
  pub sets-up : SetsUp z m₀ 0 0 started
  pub replies : List Reply
  pub ended : Bytes
  pub runs : Run infod3 started xs replies ended
