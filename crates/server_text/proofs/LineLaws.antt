-- A line by its word, its fields and its end.
use mathlib.Core.Path.{◌≡◌, refl, sym, ap, ◌∙◌}
use mathlib.Core.List.{List, [], ◌∷◌, map}
use mathlib.Core.Bool.{Bool, true, false, ◌&&◌}
use mathlib.Core.Option.{Option, none, some}
use Prim.Native.Nat.{ℕ, suc, ◌+◌, ◌-◌, ◌≤◌, ◌<◌}
use native.Mathlib.Nat.{sub-zero}
use native.Mathlib.Numerals.{add-one}
use native.Mathlib.Omega.{arith}
use lib.ListN.{length, set, get_or, take, drop, drop_of_length-le}
use lib.Dec.{eqb}
use lib.Pointwise.{pointwise}
use lib.Seq.{drop-cons, drop-length}
use Rattle.std.proofs.lemmas.List.{length-map}
use Rattle.std.proofs.Common.{None, Some, Result, Ok, Err}
use Rattle.std.specs.Option.{option_map}
use Rattle.octets.specs.Octets.{Bytes}
use Rattle.octets.specs.Options.{in_code}
use Rattle.octets.specs.Order.{same}
use Rattle.protocol.specs.declared.Refusal.TheVariants.{Unknown, Parameter}
use Rattle.text.specs.Fields.{word}
use Rattle.text.specs.FieldPost.{Spelled}
use Rattle.text.specs.declared.fields.Malformed.{Malformed}
use Rattle.message.specs.Rows.{Row, row_in_code}
use Rattle.message.specs.declared.Row as Code
use Rattle.message.specs.declared.Shape.TheVariants.{Numbered}
use Rattle.server_text.specs.Fields.{payload_in}
use Rattle.server_text.specs.Lines.{refused, server_rows, row_named, of_payload, decoded_body, decoded_line}
use Rattle.server_text.specs.Promises.{BuildsAs, Builds, Translates}

-- ---- a payload

-- a payload that is at most so long is at most longer
pub builds-most : (p : Option Bytes) (m k : ℕ) (buf : Bytes) (to : ℕ) (r : Result ℕ Malformed) (buf' : Bytes)
    → Builds p m buf to r buf' → m ≤ k → Builds p k buf to r buf'
builds-most p m k buf to (Ok n) buf' w h =
    record {
      value = w.value;
      is = w.is;
      count = w.count;
      held = w.held;
      short = omega (arith, w.short);
    }
builds-most p m k buf to (Err e) buf' w h = w

module _ {p : Option Bytes} {most : ℕ} {out₁ : Bytes} {n : ℕ} {out₂ : Bytes} (w : BuildsAs p most out₁ 1 n out₂) where
  -- an ID before it
  pub built-message : (id : ℕ) (out : Bytes) → out₁ ≡ set out 0 id
      → Translates (of_payload id p) out (Ok (record { id = id; len = n })) out₂
  built-message id out e =
      rw w.is (record { answer = rw w.count; held = w.held ∙ rw e })

pub built-faulty : (p : Option Bytes) (id : ℕ) (out out' : Bytes) → p ≡ none → length out' ≡ length out
    → Translates (of_payload id p) out (Err Parameter) out'
built-faulty p id out out' e h = rw e (record { answer = refl; held = h })

-- ---- the word

-- what the look-up of a word gives

row-none : (o : Option Row) → option_map row_in_code None ≡ in_code o → o ≡ none
row-none none e = refl
row-none (some r) e = let z : ◌≡◌ {A = ℕ} 0 1 = cc in absurd (omega arith)

row-some : (o : Option Row) (r : Code.Row) → option_map row_in_code (Some r) ≡ in_code o → o ≡ some (row_in_code r)
row-some none r e = let z : ◌≡◌ {A = ℕ} 0 1 = cc in absurd (omega arith)
row-some (some q) r e = cc

module _ (s : Bytes) (e : ℕ) (w : Spelled s 0 e) where
  word-front : word s ≡ take e s
  word-front = w.is ∙ ap (λ (n : ℕ). take n s) (sub-zero e)

  pub body-unknown : (cr : Bool) → option_map row_in_code None ≡ in_code (row_named (take e s) server_rows)
      → decoded_body cr s ≡ refused Unknown
  unfolding decoded_body
  body-unknown cr q = rw (word-front, row-none (row_named (take e s) server_rows) q)

  module _ (r : Code.Row) (q : option_map row_in_code (Some r) ≡ in_code (row_named (take e s) server_rows)) where
    pub body_open : decoded_body false s ≡ refused Parameter
    unfolding decoded_body
    body_open = rw (word-front, row-some (row_named (take e s) server_rows) r q)

    pub body-row : decoded_body true s ≡ of_payload r.id (payload_in r.shape (drop e s))
    unfolding decoded_body
    body-row = rw (word-front, row-some (row_named (take e s) server_rows) r q, w.rest)

-- ---- the rows of the code

-- a row for an index past the table
abbrev pub no_row : Code.Row
no_row = record { id = 0; word = record { ref_ptr = (0, 0); now = [] }; shape = Numbered }

pub rows-length : (rows : List Code.Row) → map row_in_code rows ≡ server_rows → length rows ≡ 4
rows-length rows e = sym (length-map rows row_in_code) ∙ ap length e

-- the look-up has come to row i
module _ (w : Bytes) (rows : List Code.Row) (i : ℕ) (o : Option Row)
    (k : o ≡ row_named w (map row_in_code (drop i rows))) where
  module _ (b : Bool) (h : i < length rows) (n : b ≡ same w (get_or rows i no_row).word.now) where
    pub row-found : b ≡ true → Some (row_in_code (get_or rows i no_row)) ≡ in_code o
    unfolding row_named
    row-found t = rw (k, drop-cons rows i no_row h, ← n, t)

    pub row-passed : b ≡ false → o ≡ row_named w (map row_in_code (drop (i + 1) rows))
    unfolding row_named
    row-passed t = k ∙ rw (drop-cons rows i no_row h, ← n, t, add-one i)

  pub rows-ended : length rows ≤ i → None ≡ in_code o
  unfolding row_named
  rows-ended h = rw (k, drop_of_length-le rows h)

-- ---- the end

-- the last byte of a line, against CR
last-cr : (s : Bytes) → pointwise eqb (drop (length s - 1) s) (13 ∷ []) ≡ eqb (get_or s (length s - 1) 0) 13
last-cr [] = refl
last-cr (c ∷ s) =
    let n : suc (length s) - 1 ≡ length s = omega arith in
    rw (n, drop-cons (c ∷ s) (length s) 0 (omega arith), drop-length s)
    (and_true (eqb (get_or (c ∷ s) (length s) 0) 13))
  where
    and_true : (b : Bool) → (b && true) ≡ b
    and_true true = refl
    and_true false = refl

pub line-cr : (s x : Bytes) → pointwise eqb (drop (length s - 1) s) (13 ∷ []) ≡ true → x ≡ take (length s - 1) s
    → decoded_line s ≡ decoded_body true x
unfolding decoded_line
line-cr s x e f = rw (f, sym (last-cr s) ∙ e)

pub line-open : (s : Bytes) → pointwise eqb (drop (length s - 1) s) (13 ∷ []) ≡ false
    → decoded_line s ≡ decoded_body false s
unfolding decoded_line
line-open s e = rw (sym (last-cr s) ∙ e)

pub line-empty : (s : Bytes) → length s ≡ 0 → decoded_line s ≡ decoded_body false s
line-empty [] h = line-open [] refl
line-empty (c ∷ s) h = absurd (omega arith)
