-- The reader of text reads back what the writer of text quotes: strings set into a line come out as the same strings
-- (`fields-quoted`). Document 01's five escapes and its rule for reading one are two definitions; here they agree.
use mathlib.Core.Path.{◌≡◌, refl, ap, ◌∙◌}
use mathlib.Core.List.{List, [], ◌∷◌, ◌++◌, append_assoc, map}
use mathlib.Core.Bool.{Bool, true, false}
use mathlib.Core.Option.{some}
use Prim.Native.Nat.{ℕ, zero, suc, ◌≤◌}
use native.Mathlib.Omega.{arith}
use lib.ListN.{length}
use borrow.Author.Tests.{ne_eqb}
use Rattle.octets.specs.Octets.{Bytes}
use Rattle.text.specs.Fields.{scanned, onto, closed, quoted, trim, starting, next, field, in_quotes}
use Rattle.text.specs.Fields.{of_scan, fields}
use Rattle.text.proofs.Escapes.{octal-read}
use Rattle.message.specs.Quoting.{is_escaped, escape, escapes, quote}
use Rattle.message.proofs.Laws.{escape-escaped, escape-plain, escaped-below, plain-marks}
use Rattle.wire.specs.Strings.{quoted_fields}

-- a byte as the writer sets it is read as that byte
read-escape : (c : ℕ) (t : Bytes) → quoted (escape c ++ t) ≡ onto (some c) (quoted t)
unfolding quoted
read-escape c t = by (is_escaped c) refl
  where
    by : (b : Bool) → is_escaped c ≡ b → quoted (escape c ++ t) ≡ onto (some c) (quoted t)
    by true e = rw (escape-escaped c e) (octal-read c t (escaped-below c e))
    by false e =
        let m = plain-marks c e in
        rw (escape-plain c e, ne_eqb c 34 m.0, ne_eqb c 92 m.1)

-- a string, its closing quote, and what may follow one
quoted-escapes : (s r : Bytes) → closed r ≡ scanned [] r → quoted (escapes s ++ 34 ∷ r) ≡ scanned s r
unfolding escapes quoted onto
quoted-escapes [] r h = h
quoted-escapes (c ∷ s) r h =
    rw append_assoc
    (read-escape c (escapes s ++ 34 ∷ r) ∙ ap (onto (some c)) (quoted-escapes s r h))

-- a quoted string before the line's end or a space is one field
pub next-quote : (s r : Bytes) → closed r ≡ scanned [] r → next (32 ∷ quote s ++ r) ≡ field (in_quotes s) r
unfolding next trim starting quote
next-quote s r h =
    ap (λ (t : Bytes). of_scan (quoted t)) (append_assoc (escapes s) (34 ∷ []) r) ∙ ap of_scan (quoted-escapes s r h)

closed-fields : (ss : List Bytes) → closed (quoted_fields ss) ≡ scanned [] (quoted_fields ss)
unfolding closed quoted_fields
closed-fields [] = refl
closed-fields (s ∷ ss) = refl

-- strings set into a line are its fields
pub fields-quoted : (n : ℕ) (ss : List Bytes) → length ss ≤ n → fields n (quoted_fields ss) ≡ some (map in_quotes ss)
unfolding fields quoted_fields next trim starting
fields-quoted zero [] h = refl
fields-quoted (suc n) [] h = refl
fields-quoted zero (s ∷ ss) h = absurd (omega arith)
fields-quoted (suc n) (s ∷ ss) h =
    rw (next-quote s (quoted_fields ss) (closed-fields ss), fields-quoted n ss (omega arith))
