-- The fields of a text line (document 01, "From bytes to one command", Text). A line is given without its ending
-- byte. Only 0x20 is a space. Numbers here: 32 is the space, 34 the quote `"`, 48 the digit 0, 92 the backslash.
use Rattle.std.specs.Prelude.{List, [], ◌∷◌, Bool, cond, ◌&&◌, ℕ, zero, suc, ◌+◌, ◌-◌, ◌*◌, eqb, leb, ltb}
use Rattle.std.proofs.Math.Option.{Option, none, some, map}
use Rattle.octets.specs.Octets.{Bytes}

-- what stands from the first byte on that is no space
unfoldable pub trim : Bytes → Bytes
trim [] = []
trim (c ∷ s) = cond (eqb c 32) (trim s) (c ∷ s)

-- the bytes before the first space, or all of them
unfoldable pub word : Bytes → Bytes
word [] = []
word (c ∷ s) = cond (eqb c 32) [] (c ∷ word s)

-- what stands from that space on
unfoldable pub after_word : Bytes → Bytes
after_word [] = []
after_word (c ∷ s) = cond (eqb c 32) (c ∷ s) (after_word s)

-- c is one of the first n digits
abbrev pub is_digit : ℕ → ℕ → Bool
is_digit n c = leb 48 c && ltb c (48 + n)

-- the byte that three octal digits spell, at most \377
unfoldable pub octal : ℕ → ℕ → ℕ → Option ℕ
octal a b c = cond (is_digit 4 a && is_digit 8 b && is_digit 8 c) (some (((a - 48) * 8 + (b - 48)) * 8 + (c - 48))) none

-- a quoted string's bytes and what follows its closing quote; or it is malformed
pub data Scan : Type 0 where
  malformed : Scan
  scanned : Bytes → Bytes → Scan

-- one byte more in front; malformed where there is none
unfoldable pub onto : Option ℕ → Scan → Scan
onto none r = malformed
onto (some c) malformed = malformed
onto (some c) (scanned s rest) = scanned (c ∷ s) rest

-- after the closing quote comes a space or the line's end
unfoldable pub closed : Bytes → Scan
closed [] = scanned [] []
closed (c ∷ s) = cond (eqb c 32) (scanned [] (c ∷ s)) malformed

-- `quoted` is what follows an opening quote: it runs to the next quote, and in it a backslash takes three octal
-- digits, which `escaped` reads
unfoldable mutual
  pub quoted : Bytes → Scan
  quoted [] = malformed
  quoted (c ∷ s) = cond (eqb c 34) (closed s) (cond (eqb c 92) (escaped s) (onto (some c) (quoted s)))

  pub escaped : Bytes → Scan
  escaped [] = malformed
  escaped (a ∷ []) = malformed
  escaped (a ∷ b ∷ []) = malformed
  escaped (a ∷ b ∷ c ∷ s) = onto (octal a b c) (quoted s)

-- a field, by how it was written, and the bytes it stands for
pub data Field : Type 0 where
  plain : Bytes → Field
  in_quotes : Bytes → Field

-- the bytes that a field stands for
abbrev pub bytes_of : Field → Bytes
bytes_of (plain s) = s
bytes_of (in_quotes s) = s

-- what comes next in a line: nothing, a malformed field, or a field and what follows it
pub data Next : Type 0 where
  ended : Next
  faulty : Next
  field : Field → Bytes → Next

-- a quoted string as the next field
abbrev pub of_scan : Scan → Next
of_scan malformed = faulty
of_scan (scanned s rest) = field (in_quotes s) rest

-- a field that does not begin with a quote stands for its own bytes
unfoldable pub starting : Bytes → Next
starting [] = ended
starting (c ∷ s) = cond (eqb c 34) (of_scan (quoted s)) (field (plain (word (c ∷ s))) (after_word (c ∷ s)))

-- fields stand apart by one or more spaces
unfoldable pub next : Bytes → Next
next s = starting (trim s)

-- the fields that x begins, where f gives those of the rest
abbrev pub followed : Next → (Bytes → Option (List Field)) → Option (List Field)
followed ended f = some []
followed faulty f = none
followed (field x rest) f = map (◌∷◌ x) (f rest)

-- the fields of s: none where one is malformed or there are more than n
unfoldable pub fields : ℕ → Bytes → Option (List Field)
fields zero s = followed (next s) (λ rest. none)
fields (suc n) s = followed (next s) (fields n)
