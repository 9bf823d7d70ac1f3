-- The strings of a line that a server wrote (document 01, "Messages written"; request P1, "takes only lines of the
-- form 01 writes"). The reader of commands takes any octal escape and most raw bytes; this one takes the five
-- escapes that the writer makes, and no byte raw that the writer escapes.
-- Numbers: 34 quotation mark, 92 backslash.
use Rattle.std.specs.Prelude.{[], ◌∷◌, cond, ℕ, eqb}
use Rattle.std.proofs.Math.Option.{Option, some, none}
use Rattle.octets.specs.Octets.{Bytes}
use Rattle.text.specs.Fields.{octal, Scan, malformed, scanned, onto}
use Rattle.message.specs.Quoting.{is_escaped}

-- a byte that a string escapes; no other is written as an escape
unfoldable pub escaped_only : Option ℕ → Option ℕ
escaped_only none = none
escaped_only (some n) = cond (is_escaped n) (some n) none

-- `exact` is what follows an opening quotation mark: the string's bytes, and what follows its closing mark. A
-- backslash takes three octal digits, which `exact_escape` reads.
unfoldable mutual
  pub exact : Bytes → Scan
  exact [] = malformed
  exact (c ∷ s) =
      cond (eqb c 34) (scanned [] s)
      (cond (eqb c 92) (exact_escape s) (cond (is_escaped c) malformed (onto (some c) (exact s))))

  pub exact_escape : Bytes → Scan
  exact_escape [] = malformed
  exact_escape (a ∷ []) = malformed
  exact_escape (a ∷ b ∷ []) = malformed
  exact_escape (a ∷ b ∷ c ∷ s) = onto (escaped_only (octal a b c)) (exact s)
