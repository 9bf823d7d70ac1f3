-- The command words (document 01, "From bytes to one command", IDs and Text; document 02, P3): one table of word,
-- letter and ID, its look-up (`id_of`), and the rule that the look-up is proved to keep, both ways (`Gives`).
use Rattle.std.specs.Prelude.{◌≡◌, ◌⊎◌, List, [], ◌∷◌, map, Bool, false, cond, ◌&&◌, ◌||◌, ℕ, ◌+◌, ◌≤◌, leb}
use Rattle.std.specs.Prelude.{Some, None}
use Rattle.std.specs.Prelude as Code
use Rattle.std.proofs.Math.Option.{Option, none, some}
use Prim.Native.Char.{code}
use Rattle.octets.specs.Octets.{Bytes, ascii}
use Rattle.octets.specs.Order.{same}

-- a row of the table: a word and its letter, in small letters, and the ID that they name
pub record Entry : Type 0 where
  pub word : Bytes
  pub letter : Code.Option ℕ
  pub id : ℕ

-- HELLO has no letter
abbrev pub words : List Entry
words =
    record { word = ascii "hello"; letter = None; id = 0 }
    ∷ record { word = ascii "sub"; letter = Some (code "s"); id = 1 }
    ∷ record { word = ascii "unsub"; letter = Some (code "u"); id = 2 }
    ∷ record { word = ascii "read"; letter = Some (code "r"); id = 3 }
    ∷ record { word = ascii "write"; letter = Some (code "w"); id = 4 }
    ∷ record { word = ascii "begin"; letter = Some (code "b"); id = 5 }
    ∷ record { word = ascii "commit"; letter = Some (code "c"); id = 6 }
    ∷ record { word = ascii "ping"; letter = Some (code "p"); id = 7 }
    ∷ []

-- ---- the look-up

-- the small letter of an ASCII capital; every other byte stays
unfoldable pub lower : ℕ → ℕ
lower c = cond (leb 65 c && leb c 90) (c + 32) c

-- whether w, given in small letters, is the letter alone
abbrev pub is_letter : Bytes → Code.Option ℕ → Bool
is_letter w (Some c) = same w (c ∷ [])
is_letter w None = false

-- whether w, given in small letters, is the row's word or its letter
abbrev pub names : Bytes → Entry → Bool
names w e = same w e.word || is_letter w e.letter

-- the ID of the first row that w names
unfoldable pub look_up : Bytes → List Entry → Option ℕ
look_up w [] = none
look_up w (e ∷ es) = cond (names w e) (some e.id) (look_up w es)

-- the ID that a word or a letter names, in letters of either case
unfoldable pub id_of : Bytes → Option ℕ
id_of w = look_up (map lower w) words

-- ---- the rule

-- b is c, or the ASCII capital whose small letter is c; no other byte has a case
abbrev pub EitherCase : ℕ → ℕ → Type 0
EitherCase b c = (b ≡ c) ⊎ ((65 ≤ b) × (b ≤ 90) × (b + 32 ≡ c))

-- w is in any case the name, which is given in small letters: as long, and each byte is the name's in either case
abbrev pub AnyCase : Bytes → Bytes → Type 0
AnyCase [] [] = Unit {0}
AnyCase [] (c ∷ name) = ⊥
AnyCase (b ∷ w) [] = ⊥
AnyCase (b ∷ w) (c ∷ name) = EitherCase b c × AnyCase w name

-- w is in any case the letter
abbrev pub IsLetter : Bytes → Code.Option ℕ → Type 0
IsLetter w (Some c) = AnyCase w (c ∷ [])
IsLetter w None = ⊥

-- w is in any case the row's word or its letter
abbrev pub Names : Bytes → Entry → Type 0
Names w e = AnyCase w e.word ⊎ IsLetter w e.letter

-- e is a row of the list
abbrev pub In : Entry → List Entry → Type 0
In e [] = ⊥
In e (x ∷ es) = (e ≡ x) ⊎ In e es

-- what a word gives: the ID of a row that it names, or none where it names no row
abbrev pub Gives : Bytes → Option ℕ → Type 0
Gives w (some i) = (e : Entry) × In e words × Names w e × (e.id ≡ i)
Gives w none = (e : Entry) → In e words → Names w e → ⊥
