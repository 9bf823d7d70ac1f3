-- The rule of the command words, both ways: a word gives an ID exactly where it names a row of that ID, and none
-- exactly where it names no row (`id_of-gives`, `gives-id_of`).
-- The table is asked one computed question (`words-fit`); the laws of the look-up hold of every table that passes it.
use mathlib.Core.Path.{◌≡◌, refl, sym, ap, ◌∙◌}
use mathlib.Core.Logic.{inl, inr}
use mathlib.Core.List.{List, [], ◌∷◌, map}
use mathlib.Core.Bool.{Bool, true, false, cond, not, ◌&&◌, ◌||◌, false≢true, and-eq-true_iff, or-true}
use mathlib.Core.Option.{Option, none, some, some-injective, none-ne-some}
use Prim.Native.Nat.{ℕ, ◌+◌}
use lib.Dec.{eqb, leb}
use borrow.Author.Tests.{eqb-true, leb-true, le-leb, not-true}
use Rattle.octets.specs.Octets.{Bytes, ascii}
use Rattle.octets.specs.Order.{same}
use Rattle.octets.proofs.Orders.{same-eq, eq-same}
use Rattle.words.specs.Words.{Entry, words, lower, is_letter, names, look_up, id_of}
use Rattle.words.specs.Words.{EitherCase, AnyCase, IsLetter, Names, In, Gives}
use Rattle.std.specs.Prelude.{Some, None}
use Rattle.std.specs.Prelude as Code

-- whether every row of a table passes a test
abbrev pub every : (Entry → Bool) → List Entry → Bool
every f [] = true
every f (e ∷ es) = f e && every f es

-- then each row of it does
pub every_in : (f : Entry → Bool) (es : List Entry) (e : Entry) → every f es ≡ true → In e es → f e ≡ true
every_in f [] e h x'' = elim x'' [ ]
every_in f (x ∷ es) e h (inl q) = rw q ((and-eq-true_iff (f x) (every f es)).0 h).0
every_in f (x ∷ es) e h (inr m) = every_in f es e ((and-eq-true_iff (f x) (every f es)).0 h).1 m

-- ---- any case, and small letters

either-lower : (b : ℕ) → EitherCase b (lower b)
unfolding lower
either-lower b = by (leb 65 b) (leb b 90) refl refl
  where
    by : (l h : Bool) → leb 65 b ≡ l → leb b 90 ≡ h → EitherCase b (cond (l && h) (b + 32) b)
    by true true p q = inr (leb-true 65 b p, leb-true b 90 q, refl)
    by true false p q = inl refl
    by false h p q = inl refl

-- a word is its small letters in any case
any-lower : (w : Bytes) → AnyCase w (map lower w)
any-lower [] = tt
any-lower (b ∷ w) = (either-lower b, any-lower w)

lower-either : (b c : ℕ) → lower c ≡ c → EitherCase b c → lower b ≡ c
unfolding lower
lower-either b c s (inl e) = rw e s
lower-either b c s (inr (l, h, e)) = rw (le-leb 65 b l, le-leb b 90 h) e

-- whether no byte is a capital
abbrev pub small : Bytes → Bool
small [] = true
small (c ∷ s) = eqb (lower c) c && small s

-- the small letters of a name in any case are the name, if that has no capitals
pub lower-any : (w name : Bytes) → small name ≡ true → AnyCase w name → map lower w ≡ name
lower-any [] (c ∷ name) s a = elim a [ ]
lower-any (b ∷ w) [] s a = elim a [ ]
lower-any [] [] s a = refl
lower-any (b ∷ w) (c ∷ name) s (e, a) =
    let t = (and-eq-true_iff (eqb (lower c) c) (small name)).0 s in
    rw (lower-either b c (eqb-true (lower c) c t.0) e, lower-any w name t.1 a)

-- ---- a row's names

letter-lower : (w : Bytes) (l : Code.Option ℕ) → is_letter (map lower w) l ≡ true → IsLetter w l
letter-lower w (Some c) h = rw (same-eq (map lower w) (c ∷ []) h) at (any-lower w)
letter-lower w None h = absurd (false≢true h)

names-lower : (w : Bytes) (e : Entry) → names (map lower w) e ≡ true → Names w e
names-lower w e = by (same (map lower w) e.word) refl
  where
    by : (b : Bool) → same (map lower w) e.word ≡ b → (b || is_letter (map lower w) e.letter) ≡ true → Names w e
    by true s h = inl (rw (same-eq (map lower w) e.word s) at (any-lower w))
    by false s h = inr (letter-lower w e.letter h)

abbrev pub small_letter : Code.Option ℕ → Bool
small_letter (Some c) = small (c ∷ [])
small_letter None = true

lower-letter : (w : Bytes) (l : Code.Option ℕ) → small_letter l ≡ true → IsLetter w l → is_letter (map lower w) l ≡ true
lower-letter w None s a = elim a [ ]
lower-letter w (Some c) s a = eq-same (map lower w) (c ∷ []) (lower-any w (c ∷ []) s a)

-- whether a row's word and letter have no capitals
abbrev small_row : Entry → Bool
small_row e = small e.word && small_letter e.letter

lower-names : (w : Bytes) (e : Entry) → small_row e ≡ true → Names w e → names (map lower w) e ≡ true
lower-names w e s n = by ((and-eq-true_iff (small e.word) (small_letter e.letter)).0 s) n
  where
    by : (small e.word ≡ true) × (small_letter e.letter ≡ true) → Names w e → names (map lower w) e ≡ true
    by t (inl a) = rw (eq-same (map lower w) e.word (lower-any w e.word t.0 a))
    by t (inr a) = rw (lower-letter w e.letter t.1 a) (or-true (same (map lower w) e.word))

-- ---- a table in which no two rows share a name

-- whether the letter of a row names row x as well
abbrev shares_letter : Code.Option ℕ → Entry → Bool
shares_letter (Some c) x = names (c ∷ []) x
shares_letter None x = false

-- whether the word or the letter of row e names row x as well
abbrev shares : Entry → Entry → Bool
shares e x = names e.word x || shares_letter e.letter x

letter-shares : (w : Bytes) (l : Code.Option ℕ) (x : Entry) → is_letter w l ≡ true → names w x ≡ true
    → shares_letter l x ≡ true
letter-shares w (Some c) x h k = rw (same-eq w (c ∷ []) h) at k
letter-shares w None x h k = absurd (false≢true h)

-- what names two rows they share
names-shares : (w : Bytes) (e x : Entry) → names w e ≡ true → names w x ≡ true → shares e x ≡ true
names-shares w e x = by (same w e.word) refl
  where
    by : (b : Bool) → same w e.word ≡ b → (b || is_letter w e.letter) ≡ true → names w x ≡ true
        → shares e x ≡ true
    by true s h k = let n : names e.word x ≡ true = rw (same-eq w e.word s) at k in rw n
    by false s h k = rw (letter-shares w e.letter x h k) (or-true (names e.word x))

-- whether no row shares anything with a later one
abbrev apart : List Entry → Bool
apart [] = true
apart (e ∷ es) = every (λ x. not (shares e x)) es && apart es

-- whether no row has a capital or shares anything with another: the one question to the table
abbrev fit : List Entry → Bool
fit es = every small_row es && apart es

words-fit : fit words ≡ true
unfolding ascii same lower
words-fit = refl

-- a row of the words has no capitals
pub small-entry : (e : Entry) → In e words → (small e.word ≡ true) × (small_letter e.letter ≡ true)
small-entry e m =
    let t = (and-eq-true_iff (every small_row words) (apart words)).0 words-fit in
    (and-eq-true_iff (small e.word) (small_letter e.letter)).0 (every_in small_row words e t.0 m)

-- ---- the look-up in such a table

-- it finds every row that is named
look_up-in : (w : Bytes) (es : List Entry) (e : Entry) → apart es ≡ true → In e es → names w e ≡ true
    → look_up w es ≡ some e.id
unfolding look_up
look_up-in w [] e a x3 h = elim x3 [ ]
look_up-in w (x ∷ es) e a (inl q) h = rw (← q, h)
look_up-in w (x ∷ es) e a (inr m) h =
    let t = (and-eq-true_iff (every (λ y. not (shares x y)) es) (apart es)).0 a in
    by (names w x) refl (not-true (shares x e) (every_in (λ y. not (shares x y)) es e t.0 m))
    (look_up-in w es e t.1 m h)
  where
    by : (b : Bool) → names w x ≡ b → shares x e ≡ false → look_up w es ≡ some e.id
        → cond b (some x.id) (look_up w es) ≡ some e.id
    by true n d k = absurd (false≢true (sym d ∙ names-shares w x e n h))
    by false n d k = k

-- and nothing else
look_up-row : (w : Bytes) (es : List Entry) (i : ℕ) → look_up w es ≡ some i
    → (e : Entry) × In e es × (names w e ≡ true) × (e.id ≡ i)
unfolding look_up
look_up-row w [] i h = absurd (none-ne-some i h)
look_up-row w (x ∷ es) i h = by (names w x) refl (look_up-row w es i) h
  where
    by : (b : Bool) → names w x ≡ b
        → (look_up w es ≡ some i → (e : Entry) × In e es × (names w e ≡ true) × (e.id ≡ i))
        → cond b (some x.id) (look_up w es) ≡ some i
        → (e : Entry) × In e (x ∷ es) × (names w e ≡ true) × (e.id ≡ i)
    by true n k h = (x, inl refl, n, some-injective x.id i h)
    by false n k h = let r = k h in (r.0, inr r.1, r.2, r.3)

-- ---- the rule

-- a word that names a row gives its ID
pub row-known : (w : Bytes) (e : Entry) → In e words → Names w e → id_of w ≡ some e.id
unfolding id_of
row-known w e m n =
    let t = (and-eq-true_iff (every small_row words) (apart words)).0 words-fit in
    look_up-in (map lower w) words e t.1 m (lower-names w e (every_in small_row words e t.0 m) n)

-- what the look-up says of a word is what the rule says
pub id_of-gives : (w : Bytes) (o : Option ℕ) → id_of w ≡ o → Gives w o
unfolding id_of
id_of-gives w (some i) h =
    let r = look_up-row (map lower w) words i h in (r.0, r.1, names-lower w r.0 r.2, r.3)
id_of-gives w none h = λ e m n. none-ne-some e.id (sym h ∙ row-known w e m n)

-- and what the rule says is what the look-up says
pub gives-id_of : (w : Bytes) (o : Option ℕ) → Gives w o → id_of w ≡ o
gives-id_of w (some i) (e, m, n, q) = row-known w e m n ∙ ap some q
gives-id_of w none g = by (id_of w) (id_of-gives w (id_of w) refl)
  where
    by : (o : Option ℕ) → Gives w o → o ≡ none
    by (some i) (e, m, n, q) = absurd (g e m n)
    by none h = refl

-- no word gives two IDs, or an ID and none
pub gives_one : (w : Bytes) (o p : Option ℕ) → Gives w o → Gives w p → o ≡ p
gives_one w o p g h = sym (gives-id_of w o g) ∙ gives-id_of w p h
