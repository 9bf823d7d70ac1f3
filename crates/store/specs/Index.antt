-- A sparse index of the store: offsets of some of its rows, from which a search for a key may begin. It is made while
-- the rows are tested and lies outside the memory. A search is right whichever rows the index names.
use Rattle.std.specs.Prelude.{ℕ, ◌+◌, ◌-◌, ◌<◌, ◌≡◌, List, [], ◌∷◌, ◌++◌, Bool, true, cond, ◌&&◌, leb, ltb, length, drop, get_or}
use Rattle.octets.specs.Octets.{Bytes}
use Rattle.octets.specs.Order.{before}
use Rattle.model.specs.Store.{Store, store_charge}
use Rattle.store.specs.Row.{key_of}
use Rattle.store.specs.Region.{used_of, store_of}

-- an offset of the room where a row begins or the rows end: behind the rows of the entries in front
pub record Boundary (es : Store) (at : ℕ) : Type 0 where
  pub front : Store
  pub rest : Store
  pub whole : es ≡ front ++ rest
  pub place : at ≡ store_charge front

-- every offset of an index is such; so an index of the empty store has only zeros
pub record Indexes (es : Store) (index : List ℕ) : Type 0 where
  pub each : (i : ℕ) → i < length index → Boundary es (get_or index i 0)

-- whether a row begins at the offset and its key comes before k
unfoldable pub row_before : Bytes → Bytes → ℕ → Bool
row_before st k at = ltb at (used_of st) && before (key_of (drop (8 + at) st)) k

-- the keys of all entries come before k
unfoldable pub AllBefore : Bytes → Store → Type 0
AllBefore k [] = Unit {0}
AllBefore k (e ∷ es) = (before e.key k ≡ true) × AllBefore k es

-- an offset at which a search for k can begin: the keys of all entries in front come before k
pub record Start (st k : Bytes) (at : ℕ) : Type 0 where
  pub boundary : Boundary (store_of st) at
  pub in-front : AllBefore k boundary.front

-- where an offset is once the row of `old` bytes at offset `at` has given way to one of `new` bytes
unfoldable pub moved : ℕ → ℕ → ℕ → ℕ → ℕ
moved at old new a = cond (leb (at + old) a) (a - old + new) a

-- offsets and sizes small enough to add
pub record Movable (index : List ℕ) (at old new : ℕ) : Type 0 where
  pub end-small : at + old < 9223372036854775808
  pub new-small : new < 9223372036854775808
  pub offsets-small : (i : ℕ) → i < length index → get_or index i 0 < 9223372036854775808

-- each offset of an index is moved
pub record Moved (index : List ℕ) (at old new : ℕ) (index' : List ℕ) : Type 0 where
  pub size : length index' ≡ length index
  pub each : (i : ℕ) → i < length index → get_or index' i 0 ≡ moved at old new (get_or index i 0)
