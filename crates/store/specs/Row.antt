-- One entry as it stands in the store region: its row. A row is as long as its entry charges (document 01, "The
-- simple server": 8 plus the lengths of key and value): body length 4, key length 2, owner 1, then the body, which is
-- key, NUL and value. So the body is the payload of WRITE and of INFO, byte for byte. Numbers have the highest byte
-- first. Each definition reads the row at the front of a list; what is behind it does not count. The owner is always
-- 0.
use Rattle.std.specs.Prelude.{ℕ, ◌+◌, ◌-◌, ◌∷◌, ◌++◌, Bool, ◌&&◌, leb, ltb, eqb, length, get_or}
use Rattle.octets.specs.Octets.{Bytes}
use Rattle.octets.specs.Part.{part}
use Rattle.octets.specs.Number.{number_at, big_endian}
use Rattle.model.specs.Store.{Entry}

-- the length of the body: key, NUL and value
abbrev pub body_length : Bytes → ℕ
body_length s = number_at 4 s 0

-- the length of the key
abbrev pub key_length : Bytes → ℕ
key_length s = number_at 2 s 4

-- the length of the whole row
abbrev pub row_size : Bytes → ℕ
row_size s = 7 + body_length s

-- the key
unfoldable pub key_of : Bytes → Bytes
key_of s = part s 7 (key_length s)

-- the value: what is left of the body behind the key and NUL
unfoldable pub value_of : Bytes → Bytes
value_of s = part s (8 + key_length s) (body_length s - (1 + key_length s))

-- the body
unfoldable pub body_of : Bytes → Bytes
body_of s = part s 7 (body_length s)

-- the entry that the row stands for
unfoldable pub entry_of : Bytes → Entry
entry_of s = record { key = key_of s; value = value_of s }

-- whether a row stands at the front: its head is there; the body has room for key and NUL, and at most 65,535 bytes,
-- all there; the owner is 0, and so is the byte behind the key
unfoldable pub row_fine : Bytes → Bool
row_fine s =
    leb 8 (length s)
    && (ltb (key_length s) (body_length s)
    && (leb (body_length s) 65535
    && (leb (row_size s) (length s)
    && (eqb (get_or s 6 0) 0
    && eqb (get_or s (7 + key_length s) 0) 0))))

-- the row whose body is p, with a key of n bytes
unfoldable pub row_bytes : ℕ → Bytes → Bytes
row_bytes n p = big_endian 4 (length p) ++ (big_endian 2 n ++ (0 ∷ p))
