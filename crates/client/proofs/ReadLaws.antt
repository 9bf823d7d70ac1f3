-- Lines, frames and packets cut, and what a read answers.
use mathlib.Core.Path.{◌≡◌, refl}
use mathlib.Core.List.{[], ◌∷◌}
use mathlib.Core.Bool.{Bool, true, false, cond, ◌||◌}
use mathlib.Core.Option.{none, some}
use Prim.Native.Nat.{ℕ, suc, ◌+◌, ◌-◌, ◌≤◌, ◌<◌}
use native.Mathlib.Nat.{le_refl}
use native.Mathlib.Numerals.{add-one}
use native.Mathlib.Omega.{arith}
use lib.Dec.{eqb, ltb}
use lib.ListN.{length, take, drop, get_or, drop_of_length-le}
use lib.Seq.{drop-cons, length-take-le, sets}
use borrow.Author.Tests.{eq-eqb, ne_eqb, lt-ltb, le-ltb, ltb-true, le-leb}
use Rattle.octets.specs.Octets.{Bytes}
use Rattle.protocol.specs.declared.Kind.{Kind}
use Rattle.protocol.specs.declared.Kind.TheVariants.{Packets, Stream, Framed, Text}
use Rattle.protocol.specs.declared.Refusal.TheVariants.{Unknown}
use Rattle.framing.specs.Framing.{kind_of, ends_line, line_end, length_of}
use Rattle.framing.specs.Framing as Framing
use Rattle.framing.proofs.Laws.{length_of-le}
use Rattle.message.specs.declared.Shape.TheVariants.{Numbered}
use Rattle.server_text.specs.Fields.{suits}
use Rattle.server_text.specs.Lines.{refused, message, server_rows, row_with, decoded_line}
use Rattle.wire.specs.Received.{is_whole}
use Rattle.client.specs.Reading.{first_lf, lf_length, length_in, first_message, of_binary, decoded_binary, message_in}
use Rattle.client.specs.Reading.{kind_of_form, read_of, read_decoded, read_in, read_message}

-- ---- LF by place

module _ (s : Bytes) (i : ℕ) where
  pub first_lf-here : i < length s → get_or s i 0 ≡ 10 → first_lf (drop i s) ≡ 0
  unfolding first_lf
  first_lf-here h e = rw (drop-cons s i 0 h, eq-eqb _ _ e)

  pub first_lf-on : i < length s → (get_or s i 0 ≡ 10 → ⊥) → first_lf (drop i s) ≡ first_lf (drop (i + 1) s) + 1
  unfolding first_lf
  first_lf-on h e = rw (add-one i, drop-cons s i 0 h, ne_eqb _ _ e)

  pub first_lf-none : length s ≤ i → first_lf (drop i s) ≡ 0
  unfolding first_lf
  first_lf-none h = rw drop_of_length-le

-- no LF stands before the first line end
pub first_lf-line_end : (s : Bytes) → first_lf s ≡ first_lf (drop (line_end s) s) + line_end s
unfolding first_lf line_end ends_line
first_lf-line_end [] = refl
first_lf-line_end (c ∷ s) = by (eqb c 10) (eqb c 13) refl (first_lf-line_end s)
  where
    by : (x y : Bool) → eqb c 10 ≡ x → first_lf s ≡ first_lf (drop (line_end s) s) + line_end s
        → cond x 0 (first_lf s + 1)
        ≡ first_lf (drop (cond (x || y) 0 (line_end s + 1)) (c ∷ s)) + cond (x || y) 0 (line_end s + 1)
    by true y e h = rw e
    by false true e h = rw e (omega arith)
    by false false e h = rw (add-one (line_end s)) (omega arith)

pub line_end-le : (s : Bytes) → line_end s ≤ length s
unfolding line_end
line_end-le [] = omega arith
line_end-le (c ∷ s) = by (ends_line c) (line_end-le s)
  where
    by : (b : Bool) → line_end s ≤ length s → cond b 0 (line_end s + 1) ≤ suc (length s)
    by true h = omega arith
    by false h = omega arith

module _ (s : Bytes) where
  pub lf_length-found : first_lf s < length s → lf_length s ≡ first_lf s + 1
  unfolding lf_length
  lf_length-found h = rw (lt-ltb _ _ h)

  pub lf_length-none : length s ≤ first_lf s → lf_length s ≡ 0
  unfolding lf_length
  lf_length-none h = rw (le-ltb _ _ h)

  lf_length-le : lf_length s ≤ length s
  unfolding lf_length
  lf_length-le = by (ltb (first_lf s) (length s)) refl
    where
      by : (b : Bool) → ltb (first_lf s) (length s) ≡ b → cond b (first_lf s + 1) 0 ≤ length s
      by true e = omega (arith, ltb-true (first_lf s) (length s) e)
      by false e = omega arith

-- ---- the first message

pub length_in-le : (k : Kind) (s : Bytes) → length_in k s ≤ length s
unfolding length_in length_of
length_in-le Packets s = le_refl (length s)
length_in-le Stream s = length_of-le Framed s
length_in-le Framed s = length_of-le Framed s
length_in-le Text s = lf_length-le s

pub length-first_message : (k : Kind) (s : Bytes) → length (first_message k s) ≡ length_in k s
length-first_message k s = length-take-le (length_in k s) s (length_in-le k s)

pub first_message-packets : (s : Bytes) → Framing.message Packets s ≡ first_message Packets s
unfolding length_in kind_of length_of
first_message-packets s = refl

pub first_message-framed : (s : Bytes) → Framing.message Framed s ≡ first_message Framed s
unfolding length_in kind_of length_of
first_message-framed s = refl

pub first_message-stream : (s : Bytes) → Framing.message Framed s ≡ first_message Stream s
unfolding length_in kind_of length_of
first_message-stream s = refl

-- ---- what a read answers

module _ (k : Kind) (s o : Bytes) where
  pub read_whole : is_whole k (length (first_message k s)) ≡ true
      → read_in k s o ≡ read_decoded (length (first_message k s)) (message_in k (first_message k s)) o
  unfolding read_in
  read_whole e =
      let l = length-first_message k s in
      let f : is_whole k (length_in k s) ≡ true = rw l at e in
      rw (f, l)

  pub read_more : is_whole k (length (first_message k s)) ≡ false → read_in k s o ≡ read_of 1 0 0 o
  unfolding read_in
  read_more e =
      let f : is_whole k (length_in k s) ≡ false = rw (length-first_message k s) at e in
      rw f

module _ (n id : ℕ) (p o : Bytes) where
  pub decoded-done : length p ≤ 65535 → length p < length o
      → read_decoded n (message id p) o ≡ read_of 0 n (length p + 1) (sets o 0 (id ∷ p))
  decoded-done h k = rw (le-leb _ _ h, le-leb (length p + 1) (length o) (omega arith))

-- the reader by form
pub read-form : (f : ℕ) (k : Kind) (s o : Bytes) → kind_of_form f ≡ some k → read_message f s o ≡ read_in k s o
unfolding read_message
read-form f k s o e = rw e

pub read-no-form : (f : ℕ) (s o : Bytes) → kind_of_form f ≡ none → read_message f s o ≡ read_of 8 0 0 o
unfolding read_message
read-no-form f s o e = rw e

pub ruleset by_form = (read-form, read-no-form)

-- ---- packets and frames

pub number-missing : (p : Bytes) → length p ≡ 0 → suits Numbered p ≡ false
unfolding suits
number-missing [] h = refl
number-missing (n ∷ p) h = absurd (omega arith)

pub number-there : (p : Bytes) → (length p ≡ 0 → ⊥) → suits Numbered p ≡ true
unfolding suits
number-there [] h = absurd (h refl)
number-there (n ∷ p) h = refl

pub ruleset numbers = (number-missing, number-there)

pub binary-nil : (skip : ℕ) (m : Bytes) → length m ≡ 0 → decoded_binary skip m ≡ refused Unknown
unfolding decoded_binary
binary-nil skip [] h = refl
binary-nil skip (c ∷ m) h = absurd (omega arith)

pub binary-cons : (skip id : ℕ) (rest : Bytes)
    → decoded_binary skip (id ∷ rest) ≡ of_binary (row_with id server_rows) (drop skip rest)
unfolding decoded_binary
binary-cons skip id rest = refl

-- ---- lines

pub text-line : (m : Bytes) (n : ℕ) → n ≡ length m - 1 → message_in Text m ≡ decoded_line (take n m)
unfolding message_in
text-line m n e = rw e

-- ---- what the searches may use

pub ruleset first_messages = (first_message-packets, first_message-framed, first_message-stream)

pub ruleset line_feeds = (first_lf-here, first_lf-on, first_lf-none, first_lf-line_end, line_end-le)

pub ruleset lf_lengths = (lf_length-found, lf_length-none)

pub ruleset binaries = (binary-nil, binary-cons)

pub ruleset whole_or_not = (read_whole, read_more)

pub ruleset text = (text-line)
