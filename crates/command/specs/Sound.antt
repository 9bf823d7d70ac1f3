-- What holds of every command that is read (document 01, "From bytes to one command", Payloads and Order).
use Rattle.std.specs.Prelude.{◌≡◌, true, false, ℕ, ◌≤◌, ◌<◌, length}
use Rattle.octets.specs.Octets.{Bytes, has_nul}
use Rattle.pattern.specs.Syntax as Syntax
use Rattle.protocol.specs.Terms.{Action, hello, sub, unsub, read, write, ping, begin, commit, plain, payload}
use Rattle.protocol.specs.Terms.{action_id}
use Rattle.protocol.specs.Terms.{Reading, blank, command, invalid}

-- a pattern without NUL, valid, of at most 255 bytes
pub record GoodPattern (p : Bytes) : Type 0 where
  pub clean : has_nul p ≡ false
  pub valid : Syntax.valid p ≡ true
  pub short : length p ≤ 255

-- HELLO has a version byte, a pattern is good, a key has no NUL
abbrev pub Fine : Action → Type 0
Fine (hello t) = 0 < length t
Fine (sub p) = GoodPattern p
Fine (unsub p) = GoodPattern p
Fine (read k) = has_nul k ≡ false
Fine (write k v) = has_nul k ≡ false
Fine (ping i) = Unit {0}

-- a command that was read from this ID and payload: both are its own, and the payload is not too long
pub record SoundAction (id : ℕ) (p : Bytes) (a : Action) : Type 0 where
  pub identity : action_id a ≡ id
  pub content : payload a ≡ p
  pub fits : length p ≤ 65535
  pub fine : Fine a

-- the same of a reading: BEGIN and COMMIT have their IDs and no payload, and a refusal is no command
abbrev pub SoundReading : ℕ → Bytes → Reading → Type 0
SoundReading id p blank = ⊥
SoundReading id p (command begin) = (id ≡ 5) × (length p ≡ 0)
SoundReading id p (command commit) = (id ≡ 6) × (length p ≡ 0)
SoundReading id p (command (plain a)) = SoundAction id p a
SoundReading id p (invalid r) = Unit {0}
