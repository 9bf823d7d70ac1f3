-- A line's payload is never longer than the line (`payload-length`). Each step bounds how many bytes are left in what
-- was read and in what follows it.
use mathlib.Core.Path.{◌≡◌, refl}
use mathlib.Core.List.{List, [], ◌∷◌, ◌++◌}
use mathlib.Core.Bool.{Bool, true, false, cond}
use mathlib.Core.Option.{Option, none, some, map}
use Prim.Native.Nat.{ℕ, zero, suc, ◌+◌, ◌≤◌}
use native.Mathlib.Nat.{le_refl}
use native.Mathlib.Omega.{arith}
use lib.Dec.{eqb}
use lib.ListN.{length, length-append}
use Rattle.octets.specs.Octets.{Bytes, ascii, has_nul}
use Rattle.octets.specs.Order.{same}
use Rattle.words.specs.Words.{id_of, look_up}
use Rattle.text.specs.Fields.{trim, word, after_word, octal, Scan, malformed, scanned, onto, closed, quoted}
use Rattle.text.specs.Fields.{escaped, Field, plain, bytes_of, Next, ended, faulty, field, of_scan, starting}
use Rattle.text.specs.Fields.{next, followed, fields}
use Rattle.text.specs.Payload.{by_count, not_one, not_two, the_field, version, keyed, hello_payload, write_payload}
use Rattle.text.specs.Payload.{no_payload, payload_for}
use Rattle.text.specs.Line.{Line, blank, refused, message, made, payload_of, of_payload, of_id, begun, line_of}

-- ---- spaces, words and quoted strings

trim-length : (s : Bytes) → length (trim s) ≤ length s
unfolding trim
trim-length [] = omega arith
trim-length (c ∷ s) = by (eqb c 32) (trim-length s)
  where
    by : (b : Bool) → length (trim s) ≤ length s → length (cond b (trim s) (c ∷ s)) ≤ suc (length s)
    by true h = omega arith
    by false h = omega arith

word-after_word : (s : Bytes) → length (word s) + length (after_word s) ≡ length s
unfolding word after_word
word-after_word [] = refl
word-after_word (c ∷ s) = by (eqb c 32) (word-after_word s)
  where
    by : (b : Bool) → length (word s) + length (after_word s) ≡ length s
        → length (cond b [] (c ∷ word s)) + length (cond b (c ∷ s) (after_word s)) ≡ suc (length s)
    by true h = omega arith
    by false h = omega arith

-- the bytes read and the bytes that follow
abbrev scan_size : Scan → ℕ
scan_size malformed = 0
scan_size (scanned v rest) = length v + length rest

onto-size : (o : Option ℕ) (x : Scan) → scan_size (onto o x) ≤ scan_size x + 1
unfolding onto
onto-size none x = omega arith
onto-size (some c) malformed = omega arith
onto-size (some c) (scanned v rest) = omega arith

closed-size : (s : Bytes) → scan_size (closed s) ≤ length s
unfolding closed
closed-size [] = omega arith
closed-size (c ∷ s) = by (eqb c 32)
  where
    by : (b : Bool) → scan_size (cond b (scanned [] (c ∷ s)) malformed) ≤ suc (length s)
    by true = omega arith
    by false = omega arith

pick-scan : (a b : Bool) (c : ℕ) (s : Bytes) → scan_size (closed s) ≤ length s → scan_size (escaped s) ≤ length s
    → scan_size (quoted s) ≤ length s
    → scan_size (cond a (closed s) (cond b (escaped s) (onto (some c) (quoted s)))) ≤ suc (length s)
pick-scan true b c s h k l = omega arith
pick-scan false true c s h k l = omega arith
pick-scan false false c s h k l = omega (arith, onto-size (some c) (quoted s))

mutual
  unfolding quoted escaped

  quoted-size : (s : Bytes) → scan_size (quoted s) ≤ length s
  quoted-size [] = omega arith
  quoted-size (c ∷ s) = pick-scan (eqb c 34) (eqb c 92) c s (closed-size s) (escaped-size s) (quoted-size s)

  escaped-size : (s : Bytes) → scan_size (escaped s) ≤ length s
  escaped-size [] = omega arith
  escaped-size (a ∷ []) = omega arith
  escaped-size (a ∷ b ∷ []) = omega arith
  escaped-size (a ∷ b ∷ c ∷ s) = omega (arith, onto-size (octal a b c) (quoted s), quoted-size s)

-- ---- fields

abbrev next_size : Next → ℕ
next_size ended = 0
next_size faulty = 0
next_size (field x rest) = length (bytes_of x) + length rest

of_scan-size : (x : Scan) → next_size (of_scan x) ≡ scan_size x
of_scan-size malformed = refl
of_scan-size (scanned v rest) = refl

starting-size : (s : Bytes) → next_size (starting s) ≤ length s
unfolding starting
starting-size [] = omega arith
starting-size (c ∷ s) = by (eqb c 34)
  where
    by : (b : Bool)
        → next_size (cond b (of_scan (quoted s)) (field (plain (word (c ∷ s))) (after_word (c ∷ s)))) ≤ suc (length s)
    by true = omega (arith, of_scan-size (quoted s), quoted-size s)
    by false = omega (arith, word-after_word (c ∷ s))

next-size : (s : Bytes) → next_size (next s) ≤ length s
unfolding next
next-size s = omega (arith, starting-size (trim s), trim-length s)

-- all bytes that the fields stand for
abbrev total : List Field → ℕ
total [] = 0
total (x ∷ xs) = length (bytes_of x) + total xs

abbrev total_of : Option (List Field) → ℕ
total_of none = 0
total_of (some xs) = total xs

total_of-map : (x : Field) (o : Option (List Field)) → total_of (map (◌∷◌ x) o) ≤ length (bytes_of x) + total_of o
total_of-map x none = omega arith
total_of-map x (some xs) = le_refl _

followed-total : (z : Next) (f : Bytes → Option (List Field)) → ((r : Bytes) → total_of (f r) ≤ length r)
    → total_of (followed z f) ≤ next_size z
followed-total ended f h = omega arith
followed-total faulty f h = omega arith
followed-total (field x rest) f h = omega (arith, total_of-map x (f rest), h rest)

fields-total : (n : ℕ) (s : Bytes) → total_of (fields n s) ≤ length s
unfolding fields
fields-total zero s = omega (arith, followed-total (next s) (λ rest. none) (λ r. omega arith), next-size s)
fields-total (suc n) s = omega (arith, followed-total (next s) (fields n) (fields-total n), next-size s)

-- ---- payloads

abbrev size_of : Option Bytes → ℕ
size_of none = 0
size_of (some p) = length p

pick : (b : Bool) (x y : Option Bytes) (n : ℕ) → size_of x ≤ n → size_of y ≤ n → size_of (cond b x y) ≤ n
pick true x y n h k = h
pick false x y n h k = k

by_count-size : (a : Option Bytes) (f : Field → Option Bytes) (g : Field → Field → Option Bytes) → size_of a ≤ 1
    → ((x : Field) → size_of (f x) ≤ length (bytes_of x) + 1)
    → ((x y : Field) → size_of (g x y) ≤ length (bytes_of x) + length (bytes_of y) + 1)
    → (fs : List Field) → size_of (by_count a f g fs) ≤ total fs + 1
unfolding by_count
by_count-size a f g h k l [] = omega arith
by_count-size a f g h k l (x ∷ []) = omega (arith, k x)
by_count-size a f g h k l (x ∷ y ∷ []) = omega (arith, l x y)
by_count-size a f g h k l (x ∷ y ∷ z ∷ r) = omega arith

version-size : (o : Option ℕ) (t : Bytes) → size_of (map (λ n. n ∷ t) o) ≤ length t + 1
version-size none t = omega arith
version-size (some n) t = omega arith

keyed-size : (k p : Bytes) → size_of (keyed k p) ≤ length p
unfolding keyed
keyed-size k p = pick (has_nul k) none (some p) (length p) (omega arith) (le_refl _)

one_size : (a : Option Bytes) → size_of a ≤ 1 → (fs : List Field)
    → size_of (by_count a the_field not_two fs) ≤ total fs + 1
one_size a h = by_count-size a the_field not_two h (λ x. omega arith) (λ x y. omega arith)

none-size : (fs : List Field) → size_of (no_payload fs) ≤ total fs + 1
none-size = by_count-size (some []) not_one not_two (omega arith) (λ x. omega arith) (λ x y. omega arith)

hello-size : (fs : List Field) → size_of (hello_payload fs) ≤ total fs + 1
hello-size =
    by_count-size _ _ _ (omega arith) (λ v. omega (arith, version-size (version v) []))
    (λ v t. omega (arith, version-size (version v) (bytes_of t)))

write-size : (fs : List Field) → size_of (write_payload fs) ≤ total fs + 1
write-size =
    by_count-size _ _ _ (omega arith) (λ k. omega (arith, keyed-size (bytes_of k) (bytes_of k)))
    (λ k v. omega
    (arith, keyed-size (bytes_of k) (bytes_of k ++ 0 ∷ bytes_of v), length-append (bytes_of k) (0 ∷ bytes_of v)))

payload_for-size : (id : ℕ) (fs : List Field) → size_of (payload_for id fs) ≤ total fs + 1
unfolding payload_for
payload_for-size id fs =
    pick (eqb id 0) _ _ _ (hello-size fs)
    (pick (eqb id 1) _ _ _ (one_size none (omega arith) fs)
    (pick (eqb id 2) _ _ _ (one_size none (omega arith) fs)
    (pick (eqb id 3) _ _ _ (one_size none (omega arith) fs)
    (pick (eqb id 4) _ _ _ (write-size fs)
    (pick (eqb id 5) _ _ _ (none-size fs)
    (pick (eqb id 6) _ _ _ (none-size fs)
    (pick (eqb id 7) _ _ _ (one_size (some []) (omega arith) fs) (omega arith))))))))

-- ---- the line

abbrev line_size : Line → ℕ
line_size blank = 0
line_size (refused r) = 0
line_size (message id p) = length p

of_payload-size : (id : ℕ) (o : Option Bytes) → line_size (of_payload id o) ≡ size_of o
of_payload-size id none = refl
of_payload-size id (some p) = refl

made-size : (id : ℕ) (o : Option (List Field)) → size_of (made (payload_for id) o) ≤ total_of o + 1
made-size id none = omega arith
made-size id (some fs) = payload_for-size id fs

payload_of-size : (id : ℕ) (s : Bytes) → line_size (of_payload id (payload_of (payload_for id) s)) ≤ length s + 1
unfolding payload_of
payload_of-size id s =
    omega (arith, of_payload-size id (made (payload_for id) (fields 2 s)), made-size id (fields 2 s), fields-total 2 s)

-- no word is empty
id_of-nil : id_of [] ≡ none
unfolding id_of look_up same ascii
id_of-nil = refl

of_id-size : (w s : Bytes) → line_size (of_id (id_of w) s) ≤ length w + length s
of_id-size [] s = rw id_of-nil (omega arith)
of_id-size (c ∷ w) s = by (id_of (c ∷ w))
  where
    by : (o : Option ℕ) → line_size (of_id o s) ≤ suc (length w) + length s
    by none = omega arith
    by (some id) = omega (arith, payload_of-size id s)

begun-size : (s : Bytes) → line_size (begun s) ≤ length s
unfolding begun
begun-size [] = omega arith
begun-size (c ∷ s) = omega (arith, of_id-size (word (c ∷ s)) (after_word (c ∷ s)), word-after_word (c ∷ s))

line_of-size : (s : Bytes) → line_size (line_of s) ≤ length s
unfolding line_of
line_of-size s = omega (arith, begun-size (trim s), trim-length s)

-- the payload of a line is at most as long as the line
pub payload-length : (s : Bytes) (id : ℕ) (p : Bytes) → line_of s ≡ message id p → length p ≤ length s
payload-length s id p e = rw e at (line_of-size s)
