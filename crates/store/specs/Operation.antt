-- What the operations on the store region give, in the terms of the simple server's store (document 01, "The simple
-- server"): the place of a key, the body of its entry, whether a WRITE fits, and the region after one.
use Rattle.std.specs.Prelude.{ℕ, zero, suc, ◌+◌, ◌≤◌, ◌<◌, ◌≡◌, [], ◌∷◌, ◌++◌, Bool, true, cond, ◌&&◌, leb, length, take, drop, get_or}
use Rattle.std.proofs.Math.Option.{Option, some, none}
use Rattle.octets.specs.Octets.{Bytes}
use Rattle.octets.specs.Order.{before}
use Rattle.model.specs.Store.{Store, lookup, put, remove, store_charge, store_fits}
use Rattle.store.specs.Region.{used_of, count_of, room_of, store_fine, store_of}

-- the entries at the front whose keys come before k
unfoldable pub lower : Bytes → Store → Store
lower k [] = []
lower k (e ∷ es) = cond (before e.key k) (e ∷ lower k es) []

-- what a key charges with this value: an absent key nothing
unfoldable pub charge : Bytes → Option Bytes → ℕ
charge k none = 0
charge k (some v) = 8 + length k + length v

-- the payload of an INFO or a WRITE with this value; nothing for an absent key
unfoldable pub body : Bytes → Option Bytes → Bytes
body k none = []
body k (some v) = k ++ (0 ∷ v)

-- the body of the key's entry in a region
abbrev pub body_found : Bytes → Bytes → Bytes
body_found st k = body k (lookup k (store_of st))

-- where a key's row is, or would be: behind the rows of the keys before it; and its size, 0 where the key is absent
pub record Found (st k : Bytes) (at len : ℕ) : Type 0 where
  pub offset : at ≡ store_charge (lower k (store_of st))
  pub size : len ≡ charge k (lookup k (store_of st))

-- how many rows a row of this size is: none where it is 0
abbrev pub row_count : ℕ → ℕ
row_count zero = 0
row_count (suc n) = 1

-- whether a store of this charge and number of entries is within its limits once a row of `old` bytes is taken out of
-- it and one of `new` bytes put in
unfoldable pub fits_with : ℕ → ℕ → ℕ → ℕ → ℕ → Bool
fits_with S used count old new = leb (used + new) (S + old) && leb (count + row_count new) (1024 + row_count old)

-- the same of the store that a region holds
abbrev pub store_fits_with : Bytes → ℕ → ℕ → Bool
store_fits_with st old new = fits_with (room_of st) (used_of st) (count_of st) old new

-- a row of a region that holds a store, and a row of an entry
pub record Replacement (st : Bytes) (old new : ℕ) : Type 0 where
  pub fine : store_fine st ≡ true
  pub old-used : old ≤ used_of st
  pub new-short : new ≤ 65542

-- p is a key of n bytes, NUL and a value, short enough for a message
pub record Payload (p : Bytes) (n : ℕ) : Type 0 where
  pub key-within : n < length p
  pub nul : get_or p n 0 ≡ 0
  pub short : length p ≤ 65535

-- the store with the value of a payload for its key
unfoldable pub put_payload : Bytes → ℕ → Store → Store
put_payload p n es = put (take n p) (drop (n + 1) p) es

-- a store that may be written to: what it would be is within its limits
pub record Writable (st p : Bytes) (n : ℕ) : Type 0 where
  pub fine : store_fine st ≡ true
  pub payload : Payload p n
  pub fits : store_fits (room_of st) (put_payload p n (store_of st)) ≡ true

-- the same, with the place of the key's row known
pub record WritableAt (st p : Bytes) (n at old : ℕ) : Type 0 where
  pub writable : Writable st p n
  pub found : Found st (take n p) at old

-- the place of the row of some key that is there
pub record PresentAt (st : Bytes) (at old : ℕ) : Type 0 where
  pub fine : store_fine st ≡ true
  pub key : Bytes
  pub found : Found st key at old
  pub present : 0 < old

-- a region after an operation: as long as before, and it holds the store es
pub record Becomes (st st' : Bytes) (es : Store) : Type 0 where
  pub same_length : length st' ≡ length st
  pub fine : store_fine st' ≡ true
  pub holds : store_of st' ≡ es

-- a region after the payload's value is written for its key
abbrev pub Written : Bytes → Bytes → Bytes → ℕ → Type 0
Written st st' p n = Becomes st st' (put_payload p n (store_of st))

-- a region after the row at a place is taken out: the key that had it is gone
abbrev pub DeletedAt : ℕ → ℕ → Bytes → Bytes → Type 0
DeletedAt at old st st' = (k : Bytes) → Found st k at old → Becomes st st' (remove k (store_of st))
