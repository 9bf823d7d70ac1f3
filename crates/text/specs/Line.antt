-- A text line as a message: its ID and its payload in binary form (document 01, "From bytes to one command", Text). A
-- line is given without its ending byte.
use Rattle.std.specs.Prelude.{◌≡◌, List, [], ◌∷◌, ℕ}
use Rattle.std.proofs.Math.Option.{Option, none, some}
use Rattle.octets.specs.Octets.{Bytes}
use Rattle.protocol.specs.declared.Refusal.{Refusal}
use Rattle.protocol.specs.declared.Refusal.TheVariants.{Unknown, Parameter}
use Rattle.words.specs.Words.{id_of, Gives}
use Rattle.text.specs.Fields.{trim, word, after_word, Field, fields}
use Rattle.text.specs.Payload.{payload_for}

-- what a line is: blank, refused, or a message's ID and payload
pub data Line : Type 0 where
  blank : Line
  refused : Refusal → Line
  message : ℕ → Bytes → Line

-- the payload that h makes of the fields, where none is malformed
abbrev pub made : (List Field → Option Bytes) → Option (List Field) → Option Bytes
made h none = none
made h (some fs) = h fs

-- no command has more than two fields
unfoldable pub payload_of : (List Field → Option Bytes) → Bytes → Option Bytes
payload_of h s = made h (fields 2 s)

-- a missing, surplus or malformed field is refused
abbrev pub of_payload : ℕ → Option Bytes → Line
of_payload id none = refused Parameter
of_payload id (some p) = message id p

-- an unknown word is refused before its fields are looked at
abbrev pub of_id : Option ℕ → Bytes → Line
of_id none s = refused Unknown
of_id (some id) s = of_payload id (payload_of (payload_for id) s)

-- the word is all that stands before the next space
unfoldable pub begun : Bytes → Line
begun [] = blank
begun (c ∷ s) = of_id (id_of (word (c ∷ s))) (after_word (c ∷ s))

-- a line that is empty or of spaces only is blank
unfoldable pub line_of : Bytes → Line
line_of s = begun (trim s)

-- the line is not blank, and its word gives an ID, or none
pub record Worded (s : Bytes) (o : Option ℕ) : Type 0 where
  pub begins : trim s ≡ [] → ⊥
  pub gives : Gives (word (trim s)) o
