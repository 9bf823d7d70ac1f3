-- The rows of the eight commands: what is computed on all of them at once, and that the fields which are written are
-- read as the payload, shape by shape.
use mathlib.Core.Path.{◌≡◌, refl, sym, ap, ◌∙◌}
use mathlib.Core.List.{List, [], ◌∷◌, ◌++◌, append-nil, map}
use mathlib.Core.Bool.{Bool, true, false}
use mathlib.Core.Option.{Option, some, none}
use Prim.Native.Nat.{ℕ, zero, suc, ◌+◌, ◌/◌, ◌<◌}
use native.Mathlib.Omega.{arith}
use lib.Dec.{eqb, ltb}
use lib.ListN.{get_or}
use borrow.Author.Tests.{ne_eqb}
use Rattle.octets.specs.Octets.{Bytes, ascii}
use Rattle.octets.specs.Order.{same}
use Rattle.protocol.specs.Terms.{value_tail}
use Rattle.framing.specs.Framing.{starts_text}
use Rattle.text.specs.Fields.{Field, plain, in_quotes, word, after_word, trim, starting, next}
use Rattle.text.specs.Fields as Text
use Rattle.text.specs.Payload.{version, by_count, keyed, payload_for}
use Rattle.text.specs.Payload as Payload
use Rattle.words.specs.Words.{lower, look_up, id_of}
use Rattle.command.specs.Refusals.{is_bad}
use Rattle.message.specs.Quoting.{decimal}
use Rattle.message.specs.Rows.{Row, table, command_rows, row_in, row_of}
use Rattle.message.specs.Forms.{field, key_of, value_of, value_field, number_fields, ending}
use Rattle.message.specs.Forms as Forms
use Rattle.message.specs.declared.Shape.{Shape}
use Rattle.message.specs.declared.Shape.TheVariants.{Numbered, Quoted, Keyed, Bare}
use Rattle.message.proofs.FormLaws.{key-value}
use Rattle.wire.specs.Strings.{quoted_fields}
use Rattle.wire.proofs.RoundTrip.{fields-quoted}
use Rattle.server_text.specs.Fields.{suits}
use Rattle.server_text.specs.Lines.{row_with}
use Rattle.server_text.proofs.NumberLaws.{number_from-decimal}
use Rattle.server_text.proofs.FieldLaws.{word-before, decimal-spaceless, has_nul-key_of}
use Rattle.server_text.proofs.RowLaws.{All, all_alike, all-with}

-- ---- the fields of a command, as the server reads them

unfoldable pub value_fields : Option Bytes → List Field
value_fields none = []
value_fields (some v) = in_quotes v ∷ []

unfoldable pub fields_of : Shape → Bytes → List Field
fields_of Numbered [] = []
fields_of Numbered (n ∷ t) = plain (decimal n) ∷ in_quotes t ∷ []
fields_of Quoted p = in_quotes p ∷ []
fields_of Keyed p = in_quotes (key_of p) ∷ value_fields (value_of p)
fields_of Bare p = []

-- digits stand for themselves
next-decimal : (n : ℕ) (f : Bytes)
    → next (32 ∷ decimal n ++ f) ≡ Text.field (plain (word (decimal n ++ f))) (after_word (decimal n ++ f))
unfolding next trim starting decimal
next-decimal n f = by (ltb n 10) (ltb n 100) refl refl
  where
    by : (a b : Bool) → ltb n 10 ≡ a → ltb n 100 ≡ b
        → next (32 ∷ decimal n ++ f) ≡ Text.field (plain (word (decimal n ++ f))) (after_word (decimal n ++ f))
    by true b e g =
        rw (e, ne_eqb (48 + n) 32 (λ q. omega arith), ne_eqb (48 + n) 34 (λ q. omega arith))
    by false true e g =
        rw (e, g, ne_eqb (48 + n / 10) 32 (λ q. omega arith), ne_eqb (48 + n / 10) 34 (λ q. omega arith))
    by false false e g =
        rw (e, g, ne_eqb (48 + n / 100) 32 (λ q. omega arith), ne_eqb (48 + n / 100) 34 (λ q. omega arith))

one-string : (n : ℕ) (s : Bytes) → Text.fields (suc n) (field s) ≡ some (in_quotes s ∷ [])
unfolding quoted_fields
one-string n s = rw (append-nil (field s)) at (fields-quoted (suc n) (s ∷ []) (omega arith))

number-text : (n : ℕ) (t : Bytes)
    → Text.fields 2 (32 ∷ decimal n ++ field t) ≡ some (plain (decimal n) ∷ in_quotes t ∷ [])
unfolding Text.fields
number-text n t =
    let w = word-before (decimal n) (field t) (decimal-spaceless n) refl in
    rw (next-decimal n (field t), w.0, w.1, one-string 0 t)

key-text : (k : Bytes) (o : Option Bytes)
    → Text.fields 2 (field k ++ value_field o) ≡ some (in_quotes k ∷ value_fields o)
unfolding quoted_fields value_field value_fields
key-text k none = fields-quoted 2 (k ∷ []) (omega arith)
key-text k (some v) = rw (append-nil (field v)) at (fields-quoted 2 (k ∷ v ∷ []) (omega arith))

-- the fields that are written are read as the same fields
pub text-fields : (sh : Shape) (p : Bytes) → suits sh p ≡ true
    → Text.fields 2 (Forms.fields sh p) ≡ some (fields_of sh p)
unfolding suits Forms.fields number_fields fields_of quoted_fields
text-fields Numbered [] h = let z : ◌≡◌ {A = ℕ} 0 1 = cc in absurd (omega arith)
text-fields Numbered (n ∷ t) h = number-text n t
text-fields Quoted p h = one-string 1 p
text-fields Keyed p h = key-text (key_of p) (value_of p)
text-fields Bare p h = nothing
  where
    nothing : Text.fields 2 [] ≡ some []
    nothing = fields-quoted 2 [] (omega arith)

-- ---- the payload of the fields

-- a reader of fields gives back the payloads that suit a shape
abbrev Reads : Shape → (List Field → Option Bytes) → Type 0
Reads sh f = (p : Bytes) → suits sh p ≡ true → get_or p 0 0 < 256 → f (fields_of sh p) ≡ some p

numbered-read : Reads Numbered Payload.hello_payload
unfolding suits fields_of by_count version
numbered-read [] h b = let z : ◌≡◌ {A = ℕ} 0 1 = cc in absurd (omega arith)
numbered-read (n ∷ t) h b = rw (number_from-decimal n b)

quoted-read : (a : Option Bytes) → Reads Quoted (by_count a Payload.the_field Payload.not_two)
unfolding fields_of by_count
quoted-read a p h b = refl

keyed-read : Reads Keyed Payload.write_payload
unfolding fields_of value_fields value_tail by_count keyed
keyed-read p h b = by (value_of p) (key-value p)
  where
    by : (o : Option Bytes) → key_of p ++ value_tail o ≡ p
        → Payload.write_payload (in_quotes (key_of p) ∷ value_fields o) ≡ some p
    by none e = rw (has_nul-key_of p) (ap some (sym (append-nil (key_of p)) ∙ e))
    by (some v) e = rw (has_nul-key_of p) (ap some e)

bare-read : Reads Bare Payload.no_payload
unfolding suits fields_of by_count
bare-read [] h b = refl
bare-read (c ∷ p) h b = let z : ◌≡◌ {A = ℕ} 0 1 = cc in absurd (omega arith)

-- ---- the rows

-- the ID that the server's words find for a row's word; whether the word begins with a space, and whether it begins a
-- text; the end of the row's line; the row with its ID; whether its ID would begin a text
pub record Sent : Type 0 where
  pub named : Option ℕ
  pub spaced : Bool
  pub text_word : Bool
  pub ended : Bytes
  pub listed : Option Row
  pub text_id : Bool

abbrev sent_of : Row → Sent
sent_of r = record {
  named = id_of r.word;
  spaced = eqb (get_or r.word 0 0) 32;
  text_word = starts_text (get_or r.word 0 0);
  ended = ending r.id;
  listed = row_with r.id table;
  text_id = starts_text r.id;
}

abbrev sent_due : Row → Sent
sent_due r = record {
  named = some r.id;
  spaced = false;
  text_word = true;
  ended = 10 ∷ [];
  listed = some r;
  text_id = false;
}

all-sent : map sent_of command_rows ≡ map sent_due command_rows
unfolding ascii same lower look_up id_of row_with ending starts_text
all-sent = refl

-- the server reads the fields of a row's shape as its payload
abbrev Pays : Row → Type 0
Pays r = Reads r.shape (payload_for r.id)

all-pay : All Pays command_rows
unfolding payload_for
all-pay = (
  numbered-read,
  (
    quoted-read none,
    (quoted-read none, (quoted-read none, (keyed-read, (bare-read, (bare-read, (quoted-read (some []), tt)))))),
  ),
)

-- a payload that the server does not refuse as bad suits the row's shape
abbrev Fits : Row → Type 0
Fits r = (p : Bytes) → is_bad r.id p ≡ false → suits r.shape p ≡ true

byte_fits : (p : Bytes) → is_bad 0 p ≡ false → suits Numbered p ≡ true
unfolding suits is_bad
byte_fits [] h = let z : ◌≡◌ {A = ℕ} 0 1 = cc in absurd (omega arith)
byte_fits (c ∷ p) h = refl

nothing-fits : (i : ℕ) → ((c : ℕ) (p : Bytes) → is_bad i (c ∷ p) ≡ true) → (p : Bytes) → is_bad i p ≡ false
    → suits Bare p ≡ true
unfolding suits
nothing-fits i f [] h = refl
nothing-fits i f (c ∷ p) h = let z : ◌≡◌ {A = ℕ} 0 1 = cc (f c p) in absurd (omega arith)

all_fit : All Fits command_rows
unfolding suits is_bad
all_fit = (
  byte_fits,
  (
    λ p h. refl,
    (
      λ p h. refl,
      (
        λ p h. refl,
        (λ p h. refl, (nothing-fits 5 (λ c p. refl), (nothing-fits 6 (λ c p. refl), (λ p h. refl, tt)))),
      ),
    ),
  ),
)

module _ (i : ℕ) (r : Row) (e : row_with i command_rows ≡ some r) where
  sent : (sent_of r ≡ sent_due r) × (r.id ≡ i)
  sent = all-with (λ r. sent_of r ≡ sent_due r) command_rows i r (all_alike sent_of sent_due command_rows all-sent) e

  pub sent-listed : row_with i table ≡ some r
  sent-listed = ap (λ (j : ℕ). row_with j table) (sym sent.1) ∙ ap (λ (x : Sent). x.listed) sent.0

  pub sent-named : id_of r.word ≡ some i
  sent-named = ap (λ (x : Sent). x.named) sent.0 ∙ ap some sent.1

  pub sent-visible : eqb (get_or r.word 0 0) 32 ≡ false
  sent-visible = ap (λ (x : Sent). x.spaced) sent.0

  pub sent-capital : starts_text (get_or r.word 0 0) ≡ true
  sent-capital = ap (λ (x : Sent). x.text_word) sent.0

  pub sent-ended : ending i ≡ 10 ∷ []
  sent-ended = ap ending (sym sent.1) ∙ ap (λ (x : Sent). x.ended) sent.0

  pub sent-framed : starts_text i ≡ false
  sent-framed = ap starts_text (sym sent.1) ∙ ap (λ (x : Sent). x.text_id) sent.0

  pub sent-pays : (p : Bytes) → suits r.shape p ≡ true → get_or p 0 0 < 256
      → payload_for i (fields_of r.shape p) ≡ some p
  sent-pays p h b =
      let q = all-with Pays command_rows i r all-pay e in
      ap (λ (j : ℕ). payload_for j (fields_of r.shape p)) (sym q.1) ∙ q.0 p h b

  pub sent-fits : (p : Bytes) → is_bad i p ≡ false → suits r.shape p ≡ true
  sent-fits p h =
      let q = all-with Fits command_rows i r all_fit e in
      q.0 p (ap (λ (j : ℕ). is_bad j p) q.1 ∙ h)

-- each of the eight IDs has its row
pub sent-row : (i : ℕ) → i < 8 → row_with i command_rows ≡ some (row_of i)
unfolding row_with row_in row_of
sent-row zero h = refl
sent-row (suc zero) h = refl
sent-row (suc (suc zero)) h = refl
sent-row (suc (suc (suc zero))) h = refl
sent-row (suc (suc (suc (suc zero)))) h = refl
sent-row (suc (suc (suc (suc (suc zero))))) h = refl
sent-row (suc (suc (suc (suc (suc (suc zero)))))) h = refl
sent-row (suc (suc (suc (suc (suc (suc (suc zero))))))) h = refl
sent-row (suc (suc (suc (suc (suc (suc (suc (suc i)))))))) h = absurd (omega arith)
