-- The laws of rows: their lengths, the first of them, and what is behind it.
use mathlib.Core.Path.{◌≡◌, refl, sym}
use mathlib.Core.List.{List, [], ◌∷◌, ◌++◌, append_assoc}
use Prim.Native.Nat.{◌+◌, ◌-◌, ◌<◌, min}
use native.Mathlib.Omega.{arith}
use lib.Dec.{eqb}
use lib.ListN.{length, drop, length-append, length-drop}
use lib.Seq.{take-append_seam, drop_at, length-take-le}
use borrow.Author.Tests.{ne_eqb}
use Rattle.octets.specs.Octets.{Bytes}
use Rattle.octets.specs.Number.{number_at, big_endian}
use Rattle.octets.proofs.Numbers.{length-big_endian, number_at-big_endian-append}
use Rattle.queue.specs.Rows.{row, rows, is_empty, first_length, first_message, behind_first}

pub length-row : (m : Bytes) → length (row m) ≡ length m + 4
unfolding row
length-row m = rw (length-append, length-big_endian) (omega arith)

pub rows_append : (a b : List Bytes) → rows (a ++ b) ≡ rows a ++ rows b
unfolding rows
rows_append [] b = refl
rows_append (m ∷ a) b = rw (rows_append a b) (sym (append_assoc (row m) (rows a) (rows b)))

pub length-rows : (m : Bytes) (ms : List Bytes) → length (rows (m ∷ ms)) ≡ length m + 4 + length (rows ms)
unfolding rows
length-rows m ms = rw (length-append, length-row)

-- ---- the first message

-- the first message has the length that is told
pub length-first_message : (b : Bytes) → length (first_message b) ≡ first_length b
unfolding first_message first_length
length-first_message b = length-take-le (min (number_at 4 b 0) (length b - 4)) (drop 4 b) (rw length-drop (omega arith))

pub first_length-row : (m b : Bytes) → length m < 4294967296 → first_length (row m ++ b) ≡ length m
unfolding first_length row
first_length-row m b h =
    let e : number_at 4 ((big_endian 4 (length m) ++ m) ++ b) 0 ≡ length m =
    rw append_assoc (number_at-big_endian-append 4 (length m) (m ++ b) h) in
    let l : length ((big_endian 4 (length m) ++ m) ++ b) ≡ 4 + length m + length b =
    rw (length-append, length-append, length-big_endian) in
    rw (e, l) (omega arith)

pub first_message-row : (m b : Bytes) → length m < 4294967296 → first_message (row m ++ b) ≡ m
unfolding first_message row
first_message-row m b h =
    let e : drop 4 ((big_endian 4 (length m) ++ m) ++ b) ≡ m ++ b =
    rw append_assoc (drop_at (big_endian 4 (length m)) (m ++ b) 4 (length-big_endian 4 (length m))) in
    let f : first_length ((big_endian 4 (length m) ++ m) ++ b) ≡ length m = first_length-row m b h in
    rw (f, e) (take-append_seam m b)

pub behind_first-row : (m b : Bytes) → length m < 4294967296 → behind_first (row m ++ b) ≡ b
unfolding behind_first
behind_first-row m b h =
    let l : length (row m) ≡ 4 + length m = rw (length-row m) (omega arith) in
    rw (first_length-row m b h) (drop_at (row m) b (4 + length m) l)

pub is_empty-length : (b : Bytes) → is_empty b ≡ eqb (length b) 0
unfolding is_empty
is_empty-length [] = refl
is_empty-length (x ∷ b) = sym (ne_eqb (length (x ∷ b)) 0 (λ e. omega arith))
