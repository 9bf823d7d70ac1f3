-- A pattern's bytes as tokens: the first two sentences of document 01, "Patterns".
-- A `\` that stands at the pattern's end, with no byte to make ordinary, is the token `Backslash`.
use Rattle.std.specs.Prelude.{ℕ, List, [], ◌∷◌, cond, eqb}
use Rattle.octets.specs.Octets.{Bytes}
use Rattle.pattern.specs.declared.token.Token.{Token}
use Rattle.pattern.specs.declared.token.Token.TheVariants.{Open, Bar, Close, Star, Any, Byte, Backslash}

-- "The bytes ( | ) * ? \ are special."
unfoldable pub single : ℕ → Token
single c =
    cond (eqb c 40) Open
    (cond (eqb c 124) Bar
    (cond (eqb c 41) Close
    (cond (eqb c 42) Star
    (cond (eqb c 63) Any
    (cond (eqb c 92) Backslash
    (Byte c))))))

-- "After an unescaped \ the next byte is ordinary": 92 is `\`, and the two bytes are one token.
unfoldable pub tokens : Bytes → List Token
tokens [] = []
tokens (c ∷ []) = single c ∷ []
tokens (c ∷ d ∷ p) = cond (eqb c 92) (Byte d ∷ tokens p) (single c ∷ tokens (d ∷ p))
