-- The reader of lines is the exact inverse of the writer, for every row of the server's messages at once: it reads
-- back what was written (`line-complete`), and what it reads is what was written (`line-sound`).
use mathlib.Core.Path.{◌≡◌, refl, sym, ap, ◌∙◌}
use mathlib.Core.List.{[], ◌∷◌, ◌++◌}
use mathlib.Core.Bool.{Bool, true, false, cond}
use mathlib.Core.Option.{Option, some, none}
use Prim.Native.Nat.{ℕ, suc, ◌-◌, ◌<◌}
use native.Mathlib.Omega.{arith}
use lib.ListN.{length, take, get_or, length-append}
use lib.Seq.{get_or_at, split_at, drop-length, take-append_seam}
use borrow.Author.Tests.{eqb-true}
use Rattle.octets.specs.Octets.{Bytes}
use Rattle.octets.proofs.Orders.{same-eq}
use Rattle.text.specs.Fields.{word, after_word}
use Rattle.message.specs.Rows.{Row}
use Rattle.message.specs.Forms.{number_fields, fields}
use Rattle.message.specs.declared.Shape.{Shape}
use Rattle.message.specs.declared.Shape.TheVariants.{Numbered, Quoted, Keyed, Bare}
use Rattle.server_text.specs.Fields.{payload_in, suits}
use Rattle.server_text.specs.Lines.{message, server_rows, row_named, row_with, of_payload, of_row}
use Rattle.server_text.specs.Lines.{decoded_body, ends_cr, decoded_line}
use Rattle.server_text.proofs.FieldLaws.{Spaced, word-before, payload_in-fields, fields-payload_in}
use Rattle.server_text.proofs.FieldLaws.{suits-payload_in, word-after_word}
use Rattle.server_text.proofs.RowLaws.{row-id, word-spaceless, served-listed, served-named, word-with, body}

-- ---- complete

-- fields begin with a space, if there are any
pub fields-spaced : (sh : Shape) (p : Bytes) → Spaced (fields sh p)
unfolding fields number_fields
fields-spaced Numbered [] = tt
fields-spaced Numbered (n ∷ t) = refl
fields-spaced Quoted p = refl
fields-spaced Keyed p = refl
fields-spaced Bare p = tt

-- a line that ends in CR
line-cr : (b : Bytes) → decoded_line (b ++ (13 ∷ [])) ≡ decoded_body true b
unfolding decoded_line
line-cr b =
    let l : length (b ++ (13 ∷ [])) - 1 ≡ length b = rw length-append (omega arith) in
    rw (l, get_or_at b 13 [] 0 (length b) refl, take-append_seam b (13 ∷ []))

module _ (i : ℕ) (r : Row) (e : row_with i server_rows ≡ some r) (p : Bytes) (h : suits r.shape p ≡ true)
    (k : get_or p 0 0 < 256) where
  body-complete : decoded_body true (body r p) ≡ message i p
  unfolding decoded_body
  body-complete =
      let l = served-listed i r e in
      let w = word-before r.word (fields r.shape p) (word-spaceless i r l) (fields-spaced r.shape p) in
      rw (w.0, w.1, served-named i r e, payload_in-fields r.shape p h k, row-id i r l)

  pub line-complete : decoded_line (body r p ++ (13 ∷ [])) ≡ message i p
  line-complete = line-cr (body r p) ∙ body-complete

-- ---- sound

-- b is the word and the fields of a server message with this ID and payload
pub record Body (b : Bytes) (i : ℕ) (p : Bytes) : Type 0 where
  pub row : Row
  pub with : row_with i server_rows ≡ some row
  pub is : b ≡ body row p
  pub fit : suits row.shape p ≡ true

module _ (b : Bytes) (i : ℕ) (p : Bytes) where
  payload-sound : (r : Row) → row_named (word b) server_rows ≡ some r → (o : Option Bytes)
      → payload_in r.shape (after_word b) ≡ o → of_payload r.id o ≡ message i p → Body b i p
  payload-sound r e none f h = let z : ◌≡◌ {A = ℕ} 0 1 = cc in absurd (omega arith)
  payload-sound r e (some q) f h =
      let n = word-with (word b) r e in
      let h₁ : r.id ≡ i = cc in
      let h₂ : q ≡ p = cc in
      let g : payload_in r.shape (after_word b) ≡ some p = f ∙ ap some h₂ in
      let w : word b ≡ r.word = same-eq (word b) r.word n.1 in
      record {
        row = r;
        with = ap (λ (j : ℕ). row_with j server_rows) (sym h₁) ∙ n.0;
        is = word-after_word b ∙ rw (w, fields-payload_in r.shape (after_word b) p g);
        fit = suits-payload_in r.shape (after_word b) p g;
      }

  row-sound : (o : Option Row) → row_named (word b) server_rows ≡ o → of_row o true (after_word b) ≡ message i p
      → Body b i p
  row-sound none e h = let z : ◌≡◌ {A = ℕ} 0 1 = cc in absurd (omega arith)
  row-sound (some r) e h = payload-sound r e (payload_in r.shape (after_word b)) refl h

  body-sound : decoded_body true b ≡ message i p → Body b i p
  unfolding decoded_body
  body-sound h = row-sound (row_named (word b) server_rows) refl h

  open-sound : decoded_body false b ≡ message i p → ⊥
  unfolding decoded_body
  open-sound h = by (row_named (word b) server_rows) h
    where
      by : (o : Option Row) → of_row o false (after_word b) ≡ message i p → ⊥
      by none h = let z : ◌≡◌ {A = ℕ} 0 1 = cc in omega arith
      by (some r) h = let z : ◌≡◌ {A = ℕ} 0 1 = cc in omega arith

-- a line that ends in CR is its front and CR
cr-split : (s : Bytes) → ends_cr s ≡ true → s ≡ take (length s - 1) s ++ (13 ∷ [])
cr-split [] e = let z : ◌≡◌ {A = ℕ} 0 1 = cc in absurd (omega arith)
cr-split (c ∷ s) e =
    let j : suc (length s) - 1 ≡ length s = omega arith in
    let f : get_or (c ∷ s) (length s) 0 ≡ 13 = rw j at (eqb-true (get_or (c ∷ s) (suc (length s) - 1) 0) 13 e) in
    rw j (split_at (c ∷ s) (length s) 0 (omega arith) ∙ rw (f, drop-length s))

-- a line that is read as a message is its word, its fields and CR
pub line-sound : (s : Bytes) (i : ℕ) (p : Bytes) → decoded_line s ≡ message i p
    → (b : Bytes) × ((s ≡ b ++ (13 ∷ [])) × Body b i p)
unfolding decoded_line
line-sound s i p h = by (ends_cr s) refl h
  where
    by : (t : Bool) → ends_cr s ≡ t
        → cond t (decoded_body true (take (length s - 1) s)) (decoded_body false s) ≡ message i p
        → (b : Bytes) × ((s ≡ b ++ (13 ∷ [])) × Body b i p)
    by true e h = (take (length s - 1) s, (cr-split s e, body-sound (take (length s - 1) s) i p h))
    by false e h = absurd (open-sound s i p h)
