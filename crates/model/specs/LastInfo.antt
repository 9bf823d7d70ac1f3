-- The last INFO for a key among messages, and what demand 3 says of it.
use Rattle.std.specs.Prelude.{◌≡◌, List, [], ◌∷◌, cond}
use Rattle.std.proofs.Math.Option.{Option, some, none}
use Rattle.octets.specs.Octets.{Bytes}
use Rattle.octets.specs.Order.{same}
use Rattle.protocol.specs.Terms.{Message, version, info, pong, error}
use Rattle.model.specs.Turn.{or_else}

-- the value that a message carries for the key, itself perhaps none, if it is an INFO for the key
unfoldable pub info_for : Bytes → Message → Option (Option Bytes)
info_for k version = none
info_for k (info x v) = cond (same k x) (some v) none
info_for k (pong i) = none
info_for k (error r) = none

-- the value that the last INFO for the key carries, if any message is one
unfoldable pub last_info : Bytes → List Message → Option (Option Bytes)
last_info k [] = none
last_info k (m ∷ ms) = or_else (last_info k ms) (info_for k m)

-- The last INFO carries the key's present value, or none if it is absent; without any such message the key is absent.
pub record UpToDate (last : Option (Option Bytes)) (present : Option Bytes) : Type 0 where
  pub by-info : (v : Option Bytes) → last ≡ some v → v ≡ present
  pub by-none : last ≡ none → present ≡ none
