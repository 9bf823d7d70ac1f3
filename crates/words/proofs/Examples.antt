-- Words and the IDs that they give, computed; cases that are easy to get wrong, by the rule.
use mathlib.Core.Path.{◌≡◌, refl}
use mathlib.Core.List.{List, [], ◌∷◌, ◌++◌, map}
use mathlib.Core.Option.{Option, none, some}
use Prim.Native.Nat.{ℕ}
use Rattle.octets.specs.Octets.{Bytes, ascii}
use Rattle.octets.specs.Order.{same}
use Rattle.words.specs.Words.{lower, look_up, id_of, Gives}
use Rattle.words.proofs.Rule.{id_of-gives}

abbrev ids : List (Bytes × Option ℕ)
ids =
    (ascii "hElLo", some 0)
    ∷ (ascii "h", none)
    ∷ (ascii "H", none)
    ∷ (ascii "sUb", some 1)
    ∷ (ascii "S", some 1)
    ∷ (ascii "UNSUB", some 2)
    ∷ (ascii "u", some 2)
    ∷ (ascii "ReaD", some 3)
    ∷ (ascii "R", some 3)
    ∷ (ascii "wRITE", some 4)
    ∷ (ascii "w", some 4)
    ∷ (ascii "bEGIN", some 5)
    ∷ (ascii "B", some 5)
    ∷ (ascii "coMMit", some 6)
    ∷ (ascii "c", some 6)
    ∷ (ascii "PiNg", some 7)
    ∷ (ascii "P", some 7)
    ∷ (ascii "pin", none)
    ∷ (ascii "pings", none)
    ∷ (ascii "su", none)
    ∷ (ascii "ss", none)
    ∷ (ascii "p\"", none)
    ∷ (ascii "", none)
    -- NUL is no part of a word, and no letter
    ∷ (ascii "ping" ++ (0 ∷ []), none)
    ∷ (0 ∷ [], none)
    -- no case has the long s, nor a byte 32 below a capital, 32 above a small letter, or a capital's with its eighth
    -- bit set
    ∷ (197 ∷ 191 ∷ ascii "ub", none)
    ∷ (ascii "0ING", none)
    ∷ (211 ∷ [], none)
    ∷ (147 ∷ [], none)
    ∷ []

abbrev id_computed : Bytes × Option ℕ → Option ℕ
id_computed e = id_of e.0

abbrev id_given : Bytes × Option ℕ → Option ℕ
id_given e = e.1

pub ids-hold : map id_computed ids ≡ map id_given ids
unfolding ascii lower same look_up id_of
ids-hold = refl

-- HELLO has no letter
pub h-unknown : Gives (ascii "h") none
unfolding ascii lower same look_up id_of
h-unknown = id_of-gives (ascii "h") none refl

-- a letter in any case is its row's alone
pub s-is-sub : Gives (ascii "S") (some 1)
unfolding ascii lower same look_up id_of
s-is-sub = id_of-gives (ascii "S") (some 1) refl

-- NUL is no part of a word
pub nul-unknown : Gives (ascii "sub" ++ (0 ∷ [])) none
unfolding ascii lower same look_up id_of
nul-unknown = id_of-gives (ascii "sub" ++ (0 ∷ [])) none refl
