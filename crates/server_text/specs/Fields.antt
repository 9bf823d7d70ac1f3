-- The fields of a line that a server wrote, read back as a payload in binary form: the inverse of message's `fields`.
-- Each field stands behind one space. None where the fields have another form.
-- Numbers: 32 space, 34 quotation mark, 48 the digit 0.
use Rattle.std.specs.Prelude.{[], ◌∷◌, ◌++◌, Bool, true, false, cond, ◌&&◌, ℕ, eqb}
use Rattle.std.proofs.Math.Option.{Option, some, none, map}
use Rattle.octets.specs.Octets.{Bytes, has_nul}
use Rattle.text.specs.Fields.{Scan, malformed, scanned, word, after_word}
use Rattle.text.specs.Payload.{number_from}
use Rattle.message.specs.declared.Shape.{Shape}
use Rattle.message.specs.declared.Shape.TheVariants.{Numbered, Quoted, Keyed, Bare}
use Rattle.server_text.specs.Strings.{exact}

-- ---- strings and numbers

-- a space and a string: its bytes, and what follows it
unfoldable pub string_in : Bytes → Scan
string_in [] = malformed
string_in (c ∷ []) = malformed
string_in (c ∷ d ∷ s) = cond (eqb c 32 && eqb d 34) (exact s) malformed

-- the bytes of a string that nothing follows
unfoldable pub last_of : Scan → Option Bytes
last_of malformed = none
last_of (scanned v []) = some v
last_of (scanned v (c ∷ r)) = none

-- a number below 256 in decimal digits, without leading zeros
unfoldable pub number_in : Bytes → Option ℕ
number_in [] = none
number_in (a ∷ []) = number_from 0 (a ∷ [])
number_in (a ∷ b ∷ s) = cond (eqb a 48) none (number_from 0 (a ∷ b ∷ s))

-- ---- payloads

-- a number and the string that follows it
unfoldable pub numbered : Option ℕ → Bytes → Option Bytes
numbered none s = none
numbered (some n) s = map (◌∷◌ n) (last_of (string_in s))

-- a space, a number and a string
unfoldable pub numbered_in : Bytes → Option Bytes
numbered_in [] = none
numbered_in (c ∷ s) = cond (eqb c 32) (numbered (number_in (word s)) (after_word s)) none

-- what follows a key: nothing, or NUL and the value of a string
unfoldable pub value_in : Bytes → Option Bytes
value_in [] = some []
value_in (c ∷ s) = map (◌∷◌ 0) (last_of (string_in (c ∷ s)))

-- a key without NUL, and what follows it
unfoldable pub keyed_in : Scan → Option Bytes
keyed_in malformed = none
keyed_in (scanned k r) = cond (has_nul k) none (map (◌++◌ k) (value_in r))

-- no fields
unfoldable pub bare_in : Bytes → Option Bytes
bare_in [] = some []
bare_in (c ∷ s) = none

-- the payload of fields of a shape
unfoldable pub payload_in : Shape → Bytes → Option Bytes
payload_in Numbered s = numbered_in s
payload_in Quoted s = last_of (string_in s)
payload_in Keyed s = keyed_in (string_in s)
payload_in Bare s = bare_in s

-- whether a payload has what its shape needs: a number its byte, and no fields hold nothing
unfoldable pub suits : Shape → Bytes → Bool
suits Numbered [] = false
suits Numbered (n ∷ t) = true
suits Quoted p = true
suits Keyed p = true
suits Bare [] = true
suits Bare (c ∷ p) = false
