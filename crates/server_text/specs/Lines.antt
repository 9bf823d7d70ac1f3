-- A text line of the server as a message: its ID and its payload in binary form (request P1). A line is given without
-- its LF. Case counts, and a line is never blank: an empty one has no word and is unknown.
-- Numbers: 13 CR.
use Rattle.std.specs.Prelude.{List, [], ◌∷◌, Bool, true, false, cond, ℕ, ◌-◌, eqb, length, take, drop, get_or}
use Rattle.std.proofs.Math.Option.{Option, some, none}
use Rattle.octets.specs.Octets.{Bytes}
use Rattle.octets.specs.Order.{same}
use Rattle.protocol.specs.declared.Refusal.{Refusal}
use Rattle.protocol.specs.declared.Refusal.TheVariants.{Unknown, Parameter}
use Rattle.text.specs.Fields.{word, after_word}
use Rattle.message.specs.Rows.{Row, table}
use Rattle.server_text.specs.Fields.{payload_in}

-- what a message of the server is decoded to: a refusal, or its ID and its payload
pub data Decoded : Type 0 where
  refused : Refusal → Decoded
  message : ℕ → Bytes → Decoded

-- the rows of the server's messages, which stand behind those of the eight commands
abbrev pub server_rows : List Row
server_rows = drop 8 table

-- the first row with a word
unfoldable pub row_named : Bytes → List Row → Option Row
row_named w [] = none
row_named w (r ∷ rs) = cond (same w r.word) (some r) (row_named w rs)

-- the first row with an ID
unfoldable pub row_with : ℕ → List Row → Option Row
row_with i [] = none
row_with i (r ∷ rs) = cond (eqb i r.id) (some r) (row_with i rs)

-- a payload that its fields do not give is a bad parameter
abbrev pub of_payload : ℕ → Option Bytes → Decoded
of_payload id none = refused Parameter
of_payload id (some p) = message id p

-- an unknown word is refused first, then a line without its CR, then its fields
abbrev pub of_row : Option Row → Bool → Bytes → Decoded
of_row none cr s = refused Unknown
of_row (some r) false s = refused Parameter
of_row (some r) true s = of_payload r.id (payload_in r.shape s)

-- a line without its end, and whether it had its CR
unfoldable pub decoded_body : Bool → Bytes → Decoded
decoded_body cr s = of_row (row_named (word s) server_rows) cr (after_word s)

-- whether a line ends in CR
abbrev pub ends_cr : Bytes → Bool
ends_cr s = eqb (get_or s (length s - 1) 0) 13

-- the CR right before the LF is no part of the word or the fields
unfoldable pub decoded_line : Bytes → Decoded
decoded_line s = cond (ends_cr s) (decoded_body true (take (length s - 1) s)) (decoded_body false s)
