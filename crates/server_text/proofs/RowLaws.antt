-- Rows of the table: what is computed on all of them at once holds of the one that an ID or a word finds. What all
-- twelve have in common is `Common`, what the server's rows have beside it is `Served`.
use mathlib.Core.Path.{◌≡◌, refl, sym, ap, ◌∙◌}
use mathlib.Core.List.{List, [], ◌∷◌, ◌++◌, map}
use mathlib.Core.Bool.{Bool, true, false, cond}
use mathlib.Core.Option.{Option, some, none}
use Prim.Native.Nat.{ℕ, ◌+◌, ◌/◌, ◌%◌, ◌<◌}
use native.Mathlib.Omega.{arith}
use lib.Dec.{eqb, ltb}
use lib.ListN.{length}
use borrow.Author.Tests.{eqb-true, ne_eqb, ltb-true}
use Rattle.octets.specs.Octets.{Bytes, ascii}
use Rattle.octets.specs.Order.{same}
use Rattle.message.specs.Quoting.{is_escaped, escapes, quote, decimal, has}
use Rattle.message.specs.Rows.{Row, table, row_in, row_of}
use Rattle.message.specs.Forms.{field, key_of, value_of, value_field, number_fields, fields, ending}
use Rattle.message.specs.declared.Shape.{Shape}
use Rattle.message.specs.declared.Shape.TheVariants.{Numbered, Quoted, Keyed, Bare}
use Rattle.message.proofs.Theorems.{has-append, escapes-lack}
use Rattle.server_text.specs.Lines.{server_rows, row_named, row_with}

-- ---- every row of a list

abbrev pub All : (Row → Type 0) → List Row → Type 0
All P [] = Unit {0}
All P (r ∷ rs) = P r × All P rs

-- what two functions give alike on a whole list they give alike on each row
pub all_alike : {A : Type 0} (f g : Row → A) (rs : List Row) → map f rs ≡ map g rs → All (λ r. f r ≡ g r) rs
all_alike f g [] h = tt
all_alike f g (r ∷ rs) h =
    let e : f r ≡ g r = cc in
    let k : map f rs ≡ map g rs = cc in
    (e, all_alike f g rs k)

pub all-with : (P : Row → Type 0) (rs : List Row) (i : ℕ) (r : Row) → All P rs → row_with i rs ≡ some r
    → P r × (r.id ≡ i)
unfolding row_with
all-with P [] i r a e = let z : ◌≡◌ {A = ℕ} 0 1 = cc in absurd (omega arith)
all-with P (q ∷ rs) i r a e = by (eqb i q.id) refl e (all-with P rs i r a.1)
  where
    by : (b : Bool) → eqb i q.id ≡ b → cond b (some q) (row_with i rs) ≡ some r
        → (row_with i rs ≡ some r → P r × (r.id ≡ i)) → P r × (r.id ≡ i)
    by true f g k =
        let h : q ≡ r = cc in
        (rw h at a.0, rw h at (sym (eqb-true i q.id f)))
    by false f g k = k g

pub all_named : (P : Row → Type 0) (rs : List Row) (w : Bytes) (r : Row) → All P rs → row_named w rs ≡ some r
    → P r × (same w r.word ≡ true)
unfolding row_named
all_named P [] w r a e = let z : ◌≡◌ {A = ℕ} 0 1 = cc in absurd (omega arith)
all_named P (q ∷ rs) w r a e = by (same w q.word) refl e (all_named P rs w r a.1)
  where
    by : (b : Bool) → same w q.word ≡ b → cond b (some q) (row_named w rs) ≡ some r
        → (row_named w rs ≡ some r → P r × (same w r.word ≡ true)) → P r × (same w r.word ≡ true)
    by true f g k =
        let h : q ≡ r = cc in
        (rw h at a.0, rw h at f)
    by false f g k = k g

-- ---- what all twelve have in common

-- the row of its ID; whether a word is there, and whether it holds a space, an LF or a CR
pub record Common : Type 0 where
  pub own : Row
  pub filled : Bool
  pub spaces : Bool
  pub lfs : Bool
  pub crs : Bool

abbrev common_of : Row → Common
common_of r = record {
  own = row_of r.id;
  filled = ltb 0 (length r.word);
  spaces = has 32 r.word;
  lfs = has 10 r.word;
  crs = has 13 r.word;
}

abbrev common_due : Row → Common
common_due r = record { own = r; filled = true; spaces = false; lfs = false; crs = false }

all-common : map common_of table ≡ map common_due table
unfolding ascii has row_in row_of
all-common = refl

module _ (i : ℕ) (r : Row) (e : row_with i table ≡ some r) where
  common : (common_of r ≡ common_due r) × (r.id ≡ i)
  common = all-with (λ r. common_of r ≡ common_due r) table i r (all_alike common_of common_due table all-common) e

  pub row-id : r.id ≡ i
  row-id = common.1

  pub row-own : row_of i ≡ r
  row-own = ap row_of (sym common.1) ∙ ap (λ (x : Common). x.own) common.0

  pub word-filled : 0 < length r.word
  word-filled = ltb-true 0 (length r.word) (ap (λ (x : Common). x.filled) common.0)

  pub word-spaceless : has 32 r.word ≡ false
  word-spaceless = ap (λ (x : Common). x.spaces) common.0

  pub word-lfless : has 10 r.word ≡ false
  word-lfless = ap (λ (x : Common). x.lfs) common.0

  pub word-crless : has 13 r.word ≡ false
  word-crless = ap (λ (x : Common). x.crs) common.0

-- ---- what the server's rows have beside it

-- the rows that its word and its ID find, and the end of its line
pub record Served : Type 0 where
  pub named : Option Row
  pub with : Option Row
  pub listed : Option Row
  pub ended : Bytes

abbrev served_of : Row → Served
served_of r = record {
  named = row_named r.word server_rows;
  with = row_with r.id server_rows;
  listed = row_with r.id table;
  ended = ending r.id;
}

abbrev served_due : Row → Served
served_due r = record { named = some r; with = some r; listed = some r; ended = 13 ∷ 10 ∷ [] }

all-served : map served_of server_rows ≡ map served_due server_rows
unfolding ascii same row_named row_with ending
all-served = refl

each-served : All (λ r. served_of r ≡ served_due r) server_rows
each-served = all_alike served_of served_due server_rows all-served

module _ (i : ℕ) (r : Row) (e : row_with i server_rows ≡ some r) where
  served : (served_of r ≡ served_due r) × (r.id ≡ i)
  served = all-with (λ r. served_of r ≡ served_due r) server_rows i r each-served e

  pub served-listed : row_with i table ≡ some r
  served-listed = ap (λ (j : ℕ). row_with j table) (sym served.1) ∙ ap (λ (x : Served). x.listed) served.0

  pub served-named : row_named r.word server_rows ≡ some r
  served-named = ap (λ (x : Served). x.named) served.0

  pub served-ended : ending i ≡ 13 ∷ 10 ∷ []
  served-ended = ap ending (sym served.1) ∙ ap (λ (x : Served). x.ended) served.0

-- a word of the server is the word of its row, and its ID finds that row
pub word-with : (w : Bytes) (r : Row) → row_named w server_rows ≡ some r
    → (row_with r.id server_rows ≡ some r) × (same w r.word ≡ true)
word-with w r e =
    let q = all_named (λ r. served_of r ≡ served_due r) server_rows w r each-served e in
    (ap (λ (x : Served). x.with) q.0, q.1)

-- ---- the fields of a line hold no line end

lacks-append : (b : ℕ) (s t : Bytes) → has b s ≡ false → has b t ≡ false → has b (s ++ t) ≡ false
lacks-append b s t h k = has-append b s t ∙ rw (h, k)

module _ (b : ℕ) (h : b < 32) (e : is_escaped b ≡ true) where
  field-lacks : (s : Bytes) → has b (field s) ≡ false
  unfolding quote has
  field-lacks s =
      let m : eqb 34 b ≡ false = ne_eqb 34 b (λ q. omega arith) in
      let t : has b (34 ∷ []) ≡ false = rw m in
      rw (ne_eqb 32 b (λ q. omega arith), m)
      (lacks-append b (escapes s) (34 ∷ []) (escapes-lack b (omega arith) e s) t)

  digit-lacks : (n : ℕ) → eqb (48 + n) b ≡ false
  digit-lacks n = ne_eqb (48 + n) b (λ q. omega arith)

  decimal-lacks : (n : ℕ) → has b (decimal n) ≡ false
  unfolding has decimal
  decimal-lacks n = by (ltb n 10) (ltb n 100)
    where
      by : (x y : Bool)
          → has b (cond x ((48 + n) ∷ []) (cond y ((48 + n / 10) ∷ (48 + n % 10) ∷ [])
          ((48 + n / 100) ∷ (48 + n / 10 % 10) ∷ (48 + n % 10) ∷ []))) ≡ false
      by true y = rw (digit-lacks n)
      by false true = rw (digit-lacks (n / 10), digit-lacks (n % 10))
      by false false = rw (digit-lacks (n / 100), digit-lacks (n / 10 % 10), digit-lacks (n % 10))

  value-lacks : (o : Option Bytes) → has b (value_field o) ≡ false
  unfolding has value_field
  value-lacks none = refl
  value-lacks (some v) = field-lacks v

  fields-lack : (sh : Shape) (p : Bytes) → has b (fields sh p) ≡ false
  unfolding has fields number_fields
  fields-lack Numbered [] = refl
  fields-lack Numbered (n ∷ t) =
      rw (ne_eqb 32 b (λ q. omega arith)) (lacks-append b (decimal n) (field t) (decimal-lacks n) (field-lacks t))
  fields-lack Quoted p = field-lacks p
  fields-lack Keyed p = lacks-append b (field (key_of p)) (value_field (value_of p)) (field-lacks (key_of p))
      (value-lacks (value_of p))
  fields-lack Bare p = refl

-- word and fields of a row
abbrev pub body : Row → Bytes → Bytes
body r p = r.word ++ fields r.shape p

module _ (i : ℕ) (r : Row) (e : row_with i table ≡ some r) (p : Bytes) where
  pub body-lfless : has 10 (body r p) ≡ false
  unfolding is_escaped
  body-lfless =
      lacks-append 10 r.word (fields r.shape p) (word-lfless i r e)
      (fields-lack 10 (omega arith) refl r.shape p)

  pub body-crless : has 13 (body r p) ≡ false
  unfolding is_escaped
  body-crless =
      lacks-append 13 r.word (fields r.shape p) (word-crless i r e)
      (fields-lack 13 (omega arith) refl r.shape p)
