-- A command's fields as its payload in binary form (document 01, "From bytes to one command", Text): none where a
-- field is bad, missing or surplus. Lengths, and NULs but those of a WRITE's key, are judged later, for all forms
-- alike.
use Rattle.std.specs.Prelude.{List, [], ◌∷◌, ◌++◌, Bool, true, cond, ◌&&◌, ℕ, ◌+◌, ◌-◌, ◌*◌, eqb, ltb}
use Rattle.std.proofs.Math.Option.{Option, none, some, map}
use Rattle.octets.specs.Octets.{Bytes, has_nul}
use Rattle.text.specs.Fields.{is_digit, Field, plain, in_quotes, bytes_of}

-- ---- HELLO's version

-- the number that decimal digits spell behind those of n
unfoldable pub decimal : ℕ → Bytes → ℕ
decimal n [] = n
decimal n (c ∷ s) = decimal (n * 10 + (c - 48)) s

-- whether every byte is a decimal digit
unfoldable pub all_digits : Bytes → Bool
all_digits [] = true
all_digits (c ∷ s) = is_digit 10 c && all_digits s

-- that number, where all are digits and it is below 256
unfoldable pub number_from : ℕ → Bytes → Option ℕ
number_from n s = cond (all_digits s && ltb (decimal n s) 256) (some (decimal n s)) none

-- unquoted digits, leading zeros allowed, below 256
unfoldable pub version : Field → Option ℕ
version (plain s) = number_from 0 s
version (in_quotes s) = none

-- ---- payloads

-- by the number of fields: without one, with one, with two; more are too many
unfoldable pub by_count : Option Bytes → (Field → Option Bytes) → (Field → Field → Option Bytes) → List Field
    → Option Bytes
by_count a f g [] = a
by_count a f g (x ∷ []) = f x
by_count a f g (x ∷ y ∷ []) = g x y
by_count a f g (x ∷ y ∷ z ∷ r) = none

-- a field that is surplus
abbrev pub not_one : Field → Option Bytes
not_one x = none

-- a second field that is surplus
abbrev pub not_two : Field → Field → Option Bytes
not_two x y = none

-- the bytes of the only field
abbrev pub the_field : Field → Option Bytes
the_field x = some (bytes_of x)

-- HELLO: a version and a text, or a version, or nothing, which is version 0
abbrev pub hello_payload : List Field → Option Bytes
hello_payload =
    by_count (some (0 ∷ [])) (λ v. map (λ n. n ∷ []) (version v))
    (λ v t. map (λ n. n ∷ bytes_of t) (version v))

-- SUB, UNSUB, READ: one field
abbrev pub one_payload : List Field → Option Bytes
one_payload = by_count none the_field not_two

-- p, where the key k has no NUL
unfoldable pub keyed : Bytes → Bytes → Option Bytes
keyed k p = cond (has_nul k) none (some p)

-- WRITE: a key, and a value or none
abbrev pub write_payload : List Field → Option Bytes
write_payload =
    by_count none (λ k. keyed (bytes_of k) (bytes_of k)) (λ k v. keyed (bytes_of k) (bytes_of k ++ 0 ∷ bytes_of v))

-- BEGIN, COMMIT: no field
abbrev pub no_payload : List Field → Option Bytes
no_payload = by_count (some []) not_one not_two

-- PING: an identifier, empty if missing
abbrev pub ping_payload : List Field → Option Bytes
ping_payload = by_count (some []) the_field not_two

-- the same by ID
unfoldable pub payload_for : ℕ → List Field → Option Bytes
payload_for id fs =
    cond (eqb id 0) (hello_payload fs)
    (cond (eqb id 1) (one_payload fs)
    (cond (eqb id 2) (one_payload fs)
    (cond (eqb id 3) (one_payload fs)
    (cond (eqb id 4) (write_payload fs)
    (cond (eqb id 5) (no_payload fs)
    (cond (eqb id 6) (no_payload fs)
    (cond (eqb id 7) (ping_payload fs)
    none)))))))
