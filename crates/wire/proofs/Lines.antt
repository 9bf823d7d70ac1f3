-- What is received of the input of a text client, a stream's first line too: nothing yet (`received_more`), a line as
-- what stands before its end (`received-line`), or 262,152 bytes without an end as no room (`over-long`).
use mathlib.Core.Path.{◌≡◌, refl, ◌∙◌, ap}
use mathlib.Core.List.{[], ◌∷◌}
use mathlib.Core.Bool.{Bool, true, false, cond}
use Prim.Native.Nat.{ℕ, zero, suc, ◌+◌, ◌-◌, ◌≤◌, ◌<◌}
use native.Mathlib.Numerals.{add-one}
use native.Mathlib.Omega.{arith}
use lib.ListN.{length, take, get_or}
use lib.Seq.{length-take-le, get_or-take, take-take}
use borrow.Author.Tests.{le-leb, lt-leb, le-ltb, lt-ltb}
use Rattle.octets.specs.Octets.{Bytes}
use Rattle.protocol.specs.declared.Kind.{Kind}
use Rattle.protocol.specs.declared.Kind.TheVariants.{Packets, Stream, Framed, Text}
use Rattle.protocol.specs.declared.Refusal.TheVariants.{Room}
use Rattle.protocol.specs.Terms.{invalid, whole, incomplete}
use Rattle.framing.specs.Framing.{kind_of, ends_line, line_end, longest_line, line_length, length_of}
use Rattle.framing.proofs.Laws.{line_end-length}
use Rattle.text.specs.Line.{Line, refused, line_of}
use Rattle.wire.specs.Received.{text_line, decoded_in, reading_line, is_whole, received}

-- ---- where a line ends

line_end-before : (s : Bytes) (i : ℕ) → i < line_end s → ends_line (get_or s i 0) ≡ false
unfolding line_end
line_end-before [] i h = absurd (omega arith)
line_end-before (c ∷ s) i h = by (ends_line c) refl i h (line_end-before s)
  where
    by : (b : Bool) → ends_line c ≡ b → (i : ℕ) → i < cond b 0 (line_end s + 1)
        → ((j : ℕ) → j < line_end s → ends_line (get_or s j 0) ≡ false) → ends_line (get_or (c ∷ s) i 0) ≡ false
    by true e i h f = absurd (omega arith)
    by false e zero h f = e
    by false e (suc i) h f = f i (omega arith)

line_end-ends : (s : Bytes) → line_end s < length s → ends_line (get_or s (line_end s) 0) ≡ true
unfolding line_end
line_end-ends [] h = absurd (omega arith)
line_end-ends (c ∷ s) h = by (ends_line c) refl h (line_end-ends s)
  where
    by : (b : Bool) → ends_line c ≡ b → cond b 0 (line_end s + 1) < suc (length s)
        → (line_end s < length s → ends_line (get_or s (line_end s) 0) ≡ true)
        → ends_line (get_or (c ∷ s) (cond b 0 (line_end s + 1)) 0) ≡ true
    by true e h f = e
    by false e h f = rw (add-one (line_end s)) (f (omega arith))

-- ---- so many bytes as a line

-- n bytes without a line end
no_end : (n : ℕ) (s : Bytes) → 0 < n → n ≤ line_end s → text_line (take n s) ≡ refused Room
unfolding text_line
no_end n s p h =
    let l : length (take n s) ≡ n = length-take-le n s (omega (arith, line_end-length s)) in
    let e : ends_line (get_or (take n s) (n - 1) 0) ≡ false
    = rw (get_or-take n s (n - 1) 0 (omega arith)) (line_end-before s (n - 1) (omega arith)) in
    rw (l, e)

-- n bytes, and the byte that ends the line
one_end : (n : ℕ) (s : Bytes) → line_end s ≡ n → n < length s → text_line (take (suc n) s) ≡ line_of (take n s)
unfolding text_line
one_end n s q h =
    let l : length (take (suc n) s) - 1 ≡ n = omega (arith, length-take-le (suc n) s (omega arith)) in
    let e : ends_line (get_or (take (suc n) s) n 0) ≡ true
    = rw (get_or-take (suc n) s n 0 (omega arith), ← q) (line_end-ends s (omega arith)) in
    rw (l, e, take-take n (suc n) s (omega arith))

-- ---- what is received

kind_of-take : (k : Kind) (n : ℕ) (s : Bytes) → kind_of k (take (suc n) s) ≡ kind_of k s
unfolding kind_of
kind_of-take Packets n s = refl
kind_of-take Stream n [] = refl
kind_of-take Stream n (c ∷ s) = refl
kind_of-take Framed n s = refl
kind_of-take Text n s = refl

is_whole-some : (k : Kind) (n : ℕ) → is_whole k (suc n) ≡ true
is_whole-some Packets n = refl
is_whole-some Stream n = lt-ltb 0 (suc n) (omega arith)
is_whole-some Framed n = lt-ltb 0 (suc n) (omega arith)
is_whole-some Text n = lt-ltb 0 (suc n) (omega arith)

is_whole-none : (k : Kind) (s : Bytes) → kind_of k s ≡ Text → is_whole k 0 ≡ false
unfolding kind_of
is_whole-none Packets s t = let z : ◌≡◌ {A = ℕ} 0 1 = cc in absurd (omega arith)
is_whole-none Stream s t = refl
is_whole-none Framed s t = refl
is_whole-none Text s t = refl

module _ (k : Kind) (s : Bytes) (text : kind_of k s ≡ Text) where
  received-whole : (n : ℕ) → line_length s ≡ suc n
      → received k s ≡ whole (suc n) Text (reading_line (text_line (take (suc n) s)))
  unfolding received length_of decoded_in
  received-whole n e = rw (text, e, is_whole-some k n, kind_of-take k n s, text)

  -- no line end yet, and fewer than 262,152 bytes
  pub received_more : length s ≤ line_end s → line_end s < longest_line → received k s ≡ incomplete
  unfolding received length_of line_length
  received_more h b =
      rw (text, lt-leb longest_line (line_end s) b, le-ltb (line_end s) (length s) h, is_whole-none k s text)

  -- a line, and its one ending byte
  pub received-line : line_end s < length s → line_end s < longest_line
      → received k s ≡ whole (suc (line_end s)) Text (reading_line (line_of (take (line_end s) s)))
  unfolding line_length
  received-line h b =
      let n = line_end s in
      rw (← one_end n s refl h)
      (received-whole n (rw (lt-leb longest_line n b, lt-ltb n (length s) h) (add-one n)))

  -- 262,152 bytes without a line end are no room, whatever they hold, and are consumed
  pub over-long : longest_line ≤ line_end s → received k s ≡ whole longest_line Text (invalid Room)
  unfolding line_length
  over-long h =
      received-whole 262151 (rw (le-leb longest_line (line_end s) h))
      ∙ ap (λ (l : Line). whole longest_line Text (reading_line l)) (no_end longest_line s (omega arith) h)
