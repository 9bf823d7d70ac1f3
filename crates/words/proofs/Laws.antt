-- Command words in small letters and byte by byte, and the look-up row by row.
use mathlib.Core.Path.{◌≡◌, refl, sym, ap, ap₂, ◌∙◌}
use mathlib.Core.List.{List, [], ◌∷◌, map}
use mathlib.Core.Bool.{Bool, true, false, cond, ◌&&◌, and-eq-true_iff, false≢true}
use mathlib.Core.Option.{Option}
use Prim.Native.Nat.{ℕ, zero, suc, ◌+◌, ◌≤◌, ◌<◌}
use native.Mathlib.Numerals.{add-one}
use native.Mathlib.Omega.{arith}
use lib.Dec.{leb, ltb, eqb}
use lib.ListN.{length, get_or, drop, drop_of_length-le}
use lib.Seq.{drop-cons}
use borrow.Author.Tests.{ltb-true, ltb-false, le-leb, lt-leb, eqb-true, eq-eqb, ne_eqb}
use Rattle.std.proofs.Common.{Some, None, inl, inr, ◌↔◌}
use Rattle.std.proofs.lemmas.List.{length-map}
use Rattle.std.specs.Bool.{IsTrue}
use Rattle.std.specs.Char.{to_ascii_lowercase}
use Rattle.octets.specs.Octets.{Bytes}
use Rattle.octets.specs.Order.{same}
use Rattle.octets.proofs.Orders.{eq-same, ne_same}
use Rattle.words.specs.Words.{Entry, In, words, lower, names, look_up}
use Rattle.words.proofs.Rule.{small, small-entry}
use Rattle.words.specs.Table.{entry_of}
use Rattle.words.specs.declared.Row.{Row}
use Rattle.octets.specs.Options.{in_code}
use Rattle.protocol.specs.Ids
use Rattle.protocol.specs.declared.command_id.CommandId.TheVariants.{Hello}

-- ---- a name in any case

-- std's small letter is the definitions'
lowercase_lower : (c : ℕ) → to_ascii_lowercase c ≡ lower c
unfolding lower
lowercase_lower c = by (ltb c 65) (ltb c 91) refl refl
  where
    by : (l h : Bool) → ltb c 65 ≡ l → ltb c 91 ≡ h
        → cond l c (cond h (c + 32) c) ≡ cond (leb 65 c && leb c 90) (c + 32) c
    by true h p q = rw (lt-leb 65 c (ltb-true c 65 p))
    by false true p q = rw (le-leb 65 c (ltb-false c 65 p), le-leb c 90 (omega (arith, ltb-true c 91 q)))
    by false false p q = rw (le-leb 65 c (ltb-false c 65 p), lt-leb c 90 (omega (arith, ltb-false c 91 q)))

lowercase-word : (w : Bytes) → map to_ascii_lowercase w ≡ map lower w
lowercase-word [] = refl
lowercase-word (c ∷ w) = ap₂ (λ (x : ℕ) (l : Bytes). x ∷ l) (lowercase_lower c) (lowercase-word w)

small-lower : (name : Bytes) → small name ≡ true → map lower name ≡ name
small-lower [] s = refl
small-lower (c ∷ name) s =
    let t = (and-eq-true_iff (eqb (lower c) c) (small name)).0 s in
    rw (eqb-true (lower c) c t.0, small-lower name t.1)

-- std's test in any case of a name that has no capitals
pub any_case : (w name : Bytes) (b : Bool)
    → (IsTrue b ↔ (map to_ascii_lowercase w ≡ map to_ascii_lowercase name)) → map lower name ≡ name
    → b ≡ same (map lower w) name
any_case w name b t s = by b t.0 t.1
  where
    e : map to_ascii_lowercase name ≡ name
    e = lowercase-word name ∙ s

    by : (b : Bool) → (b ≡ true → map to_ascii_lowercase w ≡ map to_ascii_lowercase name)
        → (map to_ascii_lowercase w ≡ map to_ascii_lowercase name → b ≡ true) → b ≡ same (map lower w) name
    by true f g = sym (eq-same (map lower w) name (sym (lowercase-word w) ∙ f refl ∙ e))
    by false f g =
        sym (ne_same (map lower w) name (λ q. false≢true (g (lowercase-word w ∙ q ∙ sym e))))

-- ---- a word by its bytes

pub not-word : (w name : Bytes) → (length w ≡ length name → ⊥) → same (map lower w) name ≡ false
not-word w name h = ne_same (map lower w) name (λ e. h (sym (length-map w lower) ∙ ap length e))

module _ (w name : Bytes) (i : ℕ) where
  word_at : i < length w → i < length name
      → same (map lower (drop i w)) (drop i name) ≡ cond (eqb (lower (get_or w i 0)) (get_or name i 0))
      (same (map lower (drop (i + 1) w)) (drop (i + 1) name)) false
  unfolding same
  word_at h k = rw (add-one i, drop-cons w i 0 h, drop-cons name i 0 k)

  pub word-no : i < length w → i < length name → (lower (get_or w i 0) ≡ get_or name i 0 → ⊥)
      → same (map lower (drop i w)) (drop i name) ≡ false
  word-no h k e = word_at h k ∙ rw (ne_eqb _ _ e)

  pub word-yes : i < length w → i < length name → lower (get_or w i 0) ≡ get_or name i 0
      → same (map lower (drop i w)) (drop i name) ≡ same (map lower (drop (i + 1) w)) (drop (i + 1) name)
  word-yes h k e = word_at h k ∙ rw (eq-eqb _ _ e)

  pub word-all : length w ≤ i → length name ≤ i → same (map lower (drop i w)) (drop i name) ≡ true
  unfolding same
  word-all h k = rw (drop_of_length-le w h, drop_of_length-le name k)

-- ---- a row has no capitals

pub word-small : (e : Entry) → In e words → map lower e.word ≡ e.word
word-small e m = small-lower e.word (small-entry e m).0

pub letter-small : (e : Entry) (c : ℕ) → In e words → e.letter ≡ Some c → map lower (c ∷ []) ≡ (c ∷ [])
letter-small e c m l = small-lower (c ∷ []) (rw l at (small-entry e m).1)

-- ---- the rows of the code

-- a row for an index past the table
abbrev pub no_row : Row
no_row = record { word = record { ref_ptr = (0, 0); now = [] }; letter = None; id = Hello }

-- each row is one of those that they are mapped to
in_map : (f : Row → Entry) (rows : List Row) (i : ℕ) → i < length rows → In (f (get_or rows i no_row)) (map f rows)
in_map f [] i h = absurd (omega arith)
in_map f (r ∷ rows) zero h = inl refl
in_map f (r ∷ rows) (suc i) h = inr (in_map f rows i (omega arith))

pub row_of-words : (rows : List Row) (i : ℕ) → map entry_of rows ≡ words → i < length rows
    → In (entry_of (get_or rows i no_row)) words
row_of-words rows i e h = rw e at (in_map entry_of rows i h)

-- the look-up has come to row i
module _ (w : Bytes) (rows : List Row) (i : ℕ) (o : Option ℕ) (k : o ≡ look_up w (map entry_of (drop i rows))) where
  module _ (b : Bool) (h : i < length rows) (n : b ≡ names w (entry_of (get_or rows i no_row))) where
    pub row-found : b ≡ true → Some (Ids.id_of (get_or rows i no_row).id) ≡ in_code o
    unfolding look_up
    row-found t = rw (k, drop-cons rows i no_row h, ← n, t)

    pub row-passed : b ≡ false → o ≡ look_up w (map entry_of (drop (i + 1) rows))
    unfolding look_up
    row-passed t = k ∙ rw (drop-cons rows i no_row h, ← n, t, add-one i)

  pub rows-ended : length rows ≤ i → None ≡ in_code o
  unfolding look_up
  rows-ended h = rw (k, drop_of_length-le rows h)
