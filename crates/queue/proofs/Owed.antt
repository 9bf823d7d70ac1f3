-- Messages that are owed one after the other are all pending exactly when the whole fits, and none is otherwise, since
-- what is pending only grows.
use mathlib.Core.Path.{◌≡◌, refl, ap, ◌∙◌}
use mathlib.Core.List.{List, [], ◌∷◌, ◌++◌, append_assoc, append-nil}
use mathlib.Core.Bool.{Bool, true, false, cond, not}
use Prim.Native.Nat.{ℕ, ◌+◌, ◌≤◌, ◌<◌}
use native.Mathlib.Omega.{arith}
use lib.Dec.{leb}
use lib.ListN.{length, length-append}
use borrow.Author.Tests.{le-leb, lt-leb, leb-true, leb-false}
use Rattle.octets.specs.Octets.{Bytes}
use Rattle.queue.specs.Rows.{row, rows}
use Rattle.queue.specs.Meaning.{Pending, kept, overflown, is_overflown, kept_rows, fits, owed, owed_all}

pub owed_all-overflown : (Q : ℕ) (b : Bytes) (ms : List Bytes) → owed_all Q b overflown ms ≡ overflown
unfolding owed_all owed
owed_all-overflown Q b [] = refl
owed_all-overflown Q b (m ∷ ms) = owed_all-overflown Q b ms

pub owed_all-append : (Q : ℕ) (b : Bytes) (p : Pending) (ms ns : List Bytes)
    → owed_all Q b p (ms ++ ns) ≡ owed_all Q b (owed_all Q b p ms) ns
unfolding owed_all
owed_all-append Q b p [] ns = refl
owed_all-append Q b p (m ∷ ms) ns = owed_all-append Q b (owed Q b p m) ms ns

-- all or nothing
pub owed_all-kept : (Q : ℕ) (b p : Bytes) (ms : List Bytes) → length b + length p + 64 ≤ Q
    → owed_all Q b (kept p) ms ≡ cond (fits Q b p (length (rows ms))) (kept (p ++ rows ms)) overflown
unfolding owed_all owed fits rows
owed_all-kept Q b p [] h = rw (le-leb (length b + length p + 0 + 64) Q (omega arith), append-nil p)
owed_all-kept Q b p (m ∷ ms) h =
    go (leb (length b + length p + length (row m) + 64) Q) refl (owed_all-kept Q b (p ++ row m) ms)
  where
    go : (t : Bool) → leb (length b + length p + length (row m) + 64) Q ≡ t
        → (length b + length (p ++ row m) + 64 ≤ Q → owed_all Q b (kept (p ++ row m)) ms
        ≡ cond (fits Q b (p ++ row m) (length (rows ms))) (kept ((p ++ row m) ++ rows ms)) overflown)
        → owed_all Q b (cond t (kept (p ++ row m)) overflown) ms
        ≡ cond (fits Q b p (length (row m ++ rows ms))) (kept (p ++ (row m ++ rows ms))) overflown
    go true e ih =
        let l : length b + length p + length (row m) + 64 ≤ Q = leb-true _ _ e in
        let a : length (p ++ row m) ≡ length p + length (row m) = length-append p (row m) in
        let r : length (row m ++ rows ms) ≡ length (row m) + length (rows ms) = length-append (row m) (rows ms) in
        let s : length b + length (p ++ row m) + length (rows ms) + 64
        ≡ length b + length p + length (row m ++ rows ms) + 64 = omega arith in
        rw (ih (omega arith), s, append_assoc p (row m) (rows ms))
    go false e ih =
        let l : Q < length b + length p + length (row m) + 64 = leb-false _ _ e in
        let s : Q < length b + length p + length (row m ++ rows ms) + 64 = rw length-append (omega arith) in
        rw (owed_all-overflown Q b ms, lt-leb (length b + length p + length (row m ++ rows ms) + 64) Q s)

-- the step has overflown exactly when the whole does not fit
pub is_overflown-owed_all : (Q : ℕ) (b p : Bytes) (ms : List Bytes) → length b + length p + 64 ≤ Q
    → is_overflown (owed_all Q b (kept p) ms) ≡ not (fits Q b p (length (rows ms)))
unfolding is_overflown
is_overflown-owed_all Q b p ms h = ap is_overflown (owed_all-kept Q b p ms h) ∙ go (fits Q b p (length (rows ms)))
  where
    go : (t : Bool) → is_overflown (cond t (kept (p ++ rows ms)) overflown) ≡ not t
    go true = refl
    go false = refl

-- if it fits, all of it is pending
pub kept_rows-owed_all : (Q : ℕ) (b p : Bytes) (ms : List Bytes) → length b + length p + 64 ≤ Q
    → fits Q b p (length (rows ms)) ≡ true → kept_rows (owed_all Q b (kept p) ms) ≡ p ++ rows ms
unfolding kept_rows
kept_rows-owed_all Q b p ms h t = rw (owed_all-kept Q b p ms h, t)
