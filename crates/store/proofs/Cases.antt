-- The layout by examples: regions that hold a store, with the store that one holds, and regions that do not, each
-- broken in one place; then what is found in one of them.
use mathlib.Core.Path.{◌≡◌, refl}
use mathlib.Core.List.{[], ◌∷◌, ◌++◌}
use mathlib.Core.Bool.{true, false}
use Prim.Native.Nat.{ℕ}
use lib.ListN.{length}
use Rattle.octets.specs.Octets.{Bytes, ascii}
use Rattle.octets.specs.Order.{same, before}
use Rattle.octets.specs.Number.{digits, number, number_at, big_endian}
use Rattle.model.specs.Store.{lookup, store_charge}
use Rattle.store.specs.Row.{key_of, value_of, entry_of, row_fine}
use Rattle.store.specs.Region.{rows_of, follows, rows_fine, store_fine, entries, store_of}
use Rattle.store.specs.Operation.{lower, charge, body, fits_with, store_fits_with}

-- a region: used bytes, number of entries, and the room
region : ℕ → ℕ → Bytes → Bytes
region used count room = big_endian 4 used ++ (big_endian 4 count ++ room)

-- a row: owner, key, the byte behind it, value
row : ℕ → Bytes → ℕ → Bytes → Bytes
row owner k nul v =
    big_endian 4 (length (k ++ (nul ∷ v))) ++ (big_endian 2 (length k) ++ (owner ∷ (k ++ (nul ∷ v))))

-- the rows of a = x, of b = nothing, and of the empty key
ax : Bytes
ax = row 0 (ascii "a") 0 (ascii "x")

b : Bytes
b = row 0 (ascii "b") 0 []

empty-key : Bytes
empty-key = row 0 [] 0 (ascii "y")

two : Bytes
two = region 19 2 (ax ++ (b ++ (7 ∷ 7 ∷ [])))

-- ---- regions that hold a store

-- one row, byte for byte
ax-bytes : ax ≡ 0 ∷ 0 ∷ 0 ∷ 3 ∷ 0 ∷ 1 ∷ 0 ∷ 97 ∷ 0 ∷ 120 ∷ []
unfolding ax row big_endian ascii
ax-bytes = refl

-- two rows with other bytes behind them; no row; the empty key before another
holding : store_fine two ∷ store_fine (region 0 0 []) ∷ store_fine (region 19 2 (empty-key ++ ax)) ∷ []
    ≡ true ∷ true ∷ true ∷ []
unfolding two ax b empty-key row region ascii big_endian
    store_fine rows_fine row_fine follows rows_of key_of before number_at number digits
holding = refl

two-holds : store_of two ≡ record { key = ascii "a"; value = ascii "x" } ∷ record { key = ascii "b"; value = [] } ∷ []
unfolding two ax b row region ascii big_endian store_of entries rows_of entry_of key_of value_of number_at number digits
two-holds = refl

-- ---- regions that do not

-- shorter than its head; more used than there is room; a row cut short; a byte behind the last row; an entry too few,
-- and one too many
broken-numbers : store_fine (0 ∷ 0 ∷ 0 ∷ 0 ∷ 0 ∷ 0 ∷ 0 ∷ [])
    ∷ store_fine (region 20 2 (ax ++ b))
    ∷ store_fine (region 18 2 (ax ++ b))
    ∷ store_fine (region 20 2 (ax ++ (b ++ (0 ∷ []))))
    ∷ store_fine (region 19 1 (ax ++ b))
    ∷ store_fine (region 19 3 (ax ++ b))
    ∷ []
    ≡ false ∷ false ∷ false ∷ false ∷ false ∷ false ∷ []
unfolding ax b row region ascii big_endian store_fine rows_fine row_fine follows rows_of key_of before number_at number digits
broken-numbers = refl

-- keys in the wrong order; the same key twice; an owner; no NUL behind the key; a body without room for the NUL
broken-rows : store_fine (region 19 2 (b ++ ax))
    ∷ store_fine (region 20 2 (ax ++ ax))
    ∷ store_fine (region 10 1 (row 1 (ascii "a") 0 (ascii "x")))
    ∷ store_fine (region 10 1 (row 0 (ascii "a") 1 (ascii "x")))
    ∷ store_fine (region 8 1 (0 ∷ 0 ∷ 0 ∷ 1 ∷ 0 ∷ 1 ∷ 0 ∷ 0 ∷ 0 ∷ []))
    ∷ []
    ≡ false ∷ false ∷ false ∷ false ∷ false ∷ []
unfolding ax b row region ascii big_endian store_fine rows_fine row_fine follows rows_of key_of before number_at number digits
broken-rows = refl

-- ---- what is found

-- the places of three keys: before all, of an entry, and behind all
places : store_charge (lower [] (store_of two))
    ∷ store_charge (lower (ascii "b") (store_of two))
    ∷ store_charge (lower (ascii "ba") (store_of two))
    ∷ []
    ≡ 0 ∷ 10 ∷ 19 ∷ []
unfolding two ax b row region ascii big_endian store_of entries rows_of entry_of key_of value_of number_at number digits
    lower before store_charge
places = refl

-- the sizes of their rows, and the body of one
sizes : charge [] (lookup [] (store_of two)) ∷ charge (ascii "b") (lookup (ascii "b") (store_of two)) ∷ [] ≡ 0 ∷ 9 ∷ []
unfolding two ax b row region ascii big_endian store_of entries rows_of entry_of key_of value_of number_at number digits
    lookup same charge
sizes = refl

body-found : body (ascii "a") (lookup (ascii "a") (store_of two)) ≡ ascii "a" ++ (0 ∷ ascii "x")
unfolding two ax b row region ascii big_endian store_of entries rows_of entry_of key_of value_of number_at number digits
    lookup same body
body-found = refl

-- A room of 21 bytes, of which 19 are used: the row of b may grow by 2, and no row may be put beside it.
room : store_fits_with two 9 11 ∷ store_fits_with two 9 12 ∷ store_fits_with two 0 8 ∷ store_fits_with two 9 0 ∷ []
    ≡ true ∷ false ∷ false ∷ true ∷ []
unfolding two ax b row region ascii big_endian fits_with number_at number digits
room = refl
