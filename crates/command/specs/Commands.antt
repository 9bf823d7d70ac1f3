-- A message's ID and payload as a command, or its refusal (document 01, "From bytes to one command", IDs, Payloads
-- and Order): an unknown ID is refused first, then a bad parameter, then a payload that is too long. A WRITE's key
-- and value are places of the payload.
use Rattle.std.specs.Prelude.{◌≡◌, [], ◌∷◌, cond, ℕ, ◌+◌, ◌-◌, eqb, leb, ltb, length, Result, Ok, Err}
use Rattle.octets.specs.Octets.{Bytes, has_nul, first_nul}
use Rattle.pattern.specs.Syntax.{valid}
use Rattle.protocol.specs.declared.Refusal.{Refusal}
use Rattle.protocol.specs.declared.Refusal.TheVariants.{Unknown, Parameter, Room}
use Rattle.command.specs.declared.Written.{Written}
use Rattle.command.specs.declared.Written.TheVariants.{Delete, Value}
use Rattle.command.specs.declared.Command.{Command}
use Rattle.command.specs.declared.Command.TheVariants.{Hello, Sub, Unsub, Read, Write, Begin, Commit, Ping}

-- no room where the payload passes 65,535 bytes
unfoldable pub fitting : Bytes → Command → Result Command Refusal
fitting p c = cond (leb (length p) 65535) (Ok c) (Err Room)

-- HELLO has a version byte, then text that may hold any byte
unfoldable pub hello_of : Bytes → Result Command Refusal
hello_of [] = Err Parameter
hello_of (v ∷ t) = fitting (v ∷ t) Hello

-- SUB and UNSUB: a NUL or an invalid pattern is a bad parameter; no room where the pattern passes 255 bytes
unfoldable pub pattern_of : Bytes → Command → Result Command Refusal
pattern_of p c =
    cond (has_nul p) (Err Parameter)
    (cond (valid p) (cond (leb (length p) 255) (Ok c) (Err Room)) (Err Parameter))

-- READ is a key: a NUL in it is a bad parameter
unfoldable pub read_of : Bytes → Result Command Refusal
read_of p = cond (has_nul p) (Err Parameter) (fitting p Read)

-- no NUL means delete; else the value is what follows the first NUL, which may be empty and may hold NULs
unfoldable pub written_of : ℕ → ℕ → Written
written_of n size = cond (ltb n size) (Value (n + 1) (size - (n + 1))) Delete

-- the parts of a WRITE's payload: its key has n bytes, and w is what stands behind it
pub record Splits (p : Bytes) (n : ℕ) (w : Written) : Type 0 where
  pub key : n ≡ first_nul p
  pub written : w ≡ written_of (first_nul p) (length p)

-- WRITE is a key, then optionally NUL and a value
unfoldable pub write_of : Bytes → Result Command Refusal
write_of p = fitting p (Write (first_nul p) (written_of (first_nul p) (length p)))

-- BEGIN or COMMIT with a payload is a bad parameter
unfoldable pub empty_of : Bytes → Command → Result Command Refusal
empty_of [] c = Ok c
empty_of (b ∷ p) c = Err Parameter

-- the command of an ID and a payload; other IDs, server IDs included, are unknown
unfoldable pub command_of : ℕ → Bytes → Result Command Refusal
command_of id p =
    cond (eqb id 0) (hello_of p)
    (cond (eqb id 1) (pattern_of p Sub)
    (cond (eqb id 2) (pattern_of p Unsub)
    (cond (eqb id 3) (read_of p)
    (cond (eqb id 4) (write_of p)
    (cond (eqb id 5) (empty_of p Begin)
    (cond (eqb id 6) (empty_of p Commit)
    (cond (eqb id 7) (fitting p Ping)
    (Err Unknown))))))))
