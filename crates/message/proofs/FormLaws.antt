-- The laws of the three forms: the fields of a payload, lengths, and what a writer answers.
use mathlib.Core.Path.{◌≡◌, refl, sym, ap, ◌∙◌}
use mathlib.Core.List.{[], ◌∷◌, ◌++◌, append-nil}
use mathlib.Core.Bool.{Bool, true, false, cond, ◌||◌}
use Rattle.std.specs.Prelude.{Option, Some, None, Ok, Err}
use Rattle.std.specs.Option.{unwrap_or}
use Prim.Native.Nat.compare
use Prim.Native.Nat.{ℕ, suc, ◌+◌, ◌-◌, ◌*◌, ◌≤◌, ◌<◌}
use native.Mathlib.Numerals.{add-one}
use native.Mathlib.Omega.{arith}
use lib.Dec.{eqb, ltb, leb}
use lib.ListN.{length, drop, take, length-append, length-drop}
use lib.Seq.{take_all, sets, length-take-le}
use borrow.Author.Tests.{eqb-true, lt-ltb, le-ltb, ltb-true, ltb-false, leb-true, leb-false, le-leb, lt-leb}
use Rattle.octets.specs.Octets.{Bytes, has_nul, first_nul}
use Rattle.message.specs.declared.Shape.{Shape}
use Rattle.message.specs.declared.Shape.TheVariants.{Numbered, Quoted, Keyed, Bare}
use Rattle.message.specs.declared.Unwritten.TheVariants.{Short, TooLong}
use Rattle.protocol.specs.Terms.{value_tail, message_payload}
use Rattle.message.specs.declared.Message.TheVariants.{Info}
use Rattle.message.specs.Quoting.{quote, decimal}
use Rattle.message.specs.Rows.{row}
use Rattle.message.specs.Forms.{field, key_of, value_of, value_field, number_fields, fields, ending, line}
use Rattle.message.specs.Writing.{said, length_with, length_within, outcome, answered}
use Rattle.message.proofs.Laws.{length-field-most, length-decimal, escaped-append, escaped-most}

-- ---- fields

-- a list has a NUL where the first NUL's index is within it
has_nul-first_nul : (p : Bytes) → has_nul p ≡ ltb (first_nul p) (length p)
unfolding has_nul first_nul
has_nul-first_nul [] = refl
has_nul-first_nul (c ∷ s) = by (eqb c 0) (has_nul-first_nul s)
  where
    by : (b : Bool) → has_nul s ≡ ltb (first_nul s) (length s)
        → (b || has_nul s) ≡ ltb (cond b 0 (first_nul s + 1)) (suc (length s))
    by true h = sym (lt-ltb 0 (suc (length s)) (omega arith))
    by false h = rw (add-one, compare.suc-suc) h

module _ (p : Bytes) (n : ℕ) (e : n ≡ first_nul p) where
  pub fields-valued : n < length p → fields Keyed p ≡ field (take n p) ++ field (drop (n + 1) p)
  unfolding fields value_of value_field
  fields-valued h = rw (has_nul-first_nul, ← e, lt-ltb _ _ h)

  pub fields-absent : length p ≤ n → fields Keyed p ≡ field p
  unfolding fields value_of value_field
  fields-absent h = rw (has_nul-first_nul, ← e, le-ltb _ _ h, take_all n p h) (ap (◌∷◌ 32) (append-nil (quote p)))

pub empty : (p : Bytes) → length p ≡ 0 → p ≡ []
empty [] e = refl
empty (c ∷ p) e = absurd (omega arith)

-- a part to the end
pub take_rest : (l : Bytes) (k : ℕ) → take (length l - k) (drop k l) ≡ drop k l
take_rest l k = take_all (length l - k) (drop k l) (simp length-drop (omega arith))

pub fields-numbered : (n : ℕ) (p : Bytes) → fields Numbered (n ∷ p) ≡ (32 ∷ decimal n) ++ field p
unfolding fields number_fields
fields-numbered n p = refl

pub fields-unnumbered : (p : Bytes) → length p ≡ 0 → fields Numbered p ≡ []
unfolding fields number_fields
fields-unnumbered [] h = refl
fields-unnumbered (n ∷ p) h = absurd (omega arith)

-- ---- lengths

keyed-most : (p : Bytes) (b : Bool) → ltb (first_nul p) (length p) ≡ b → length (fields Keyed p) ≤ 3 + 4 * length p
keyed-most p true e =
    let n = first_nul p in
    let h : n < length p = ltb-true n (length p) e in
    let k = length-take-le n p (omega arith) in
    let l = length-drop (n + 1) p in
    rw (fields-valued p n refl h, length-append)
    (omega (arith, length-field-most (take n p), length-field-most (drop (n + 1) p)))
keyed-most p false e = rw (fields-absent p (first_nul p) refl (ltb-false _ _ e)) (length-field-most p)

numbered-most : (p : Bytes) → length (number_fields p) ≤ 3 + 4 * length p
unfolding number_fields
numbered-most [] = omega arith
numbered-most (n ∷ t) = rw length-append (omega (arith, length-decimal n, length-field-most t))

-- at most every byte of a payload is escaped
pub length_fields : (s : Shape) (p : Bytes) → length (fields s p) ≤ 3 + 4 * length p
unfolding fields
length_fields Numbered p = numbered-most p
length_fields Quoted p = length-field-most p
length_fields Keyed p = keyed-most p (ltb (first_nul p) (length p)) refl
length_fields Bare p = omega arith

pub length-ending : (i : ℕ) → (1 ≤ length (ending i)) × (length (ending i) ≤ 2)
unfolding ending
length-ending i = by (ltb i 128) refl
  where
    by : (b : Bool) → ltb i 128 ≡ b → (1 ≤ length (ending i)) × (length (ending i) ≤ 2)
    by true e = rw e (omega arith, omega arith)
    by false e = rw e (omega arith, omega arith)

pub length-line : (i : ℕ) (w : Bytes) (s : Shape) (p : Bytes)
    → length (line (row i w s) p) ≡ length w + length (fields s p) + length (ending i)
unfolding line
length-line i w s p = rw (length-append, length-append)

-- ---- what a writer answers

module _ (p e : Bytes) where
  pub length_with-fits : length p ≤ 65535 → length_with p e ≡ length e
  unfolding length_with
  length_with-fits h = rw (le-leb _ _ h)

  pub length_within-fits : length p ≤ 65535 → length_within p e ≡ Some (length e)
  unfolding length_within
  length_within-fits h = rw (le-leb _ _ h)

  pub length_within-long : 65535 < length p → length_within p e ≡ None
  unfolding length_within
  length_within-long h = rw (lt-leb _ _ h)

  pub length_within-some : (n : ℕ) → Some n ≡ length_within p e → (length p ≤ 65535) × (n ≡ length e)
  unfolding length_within
  length_within-some n = by (leb (length p) 65535) refl
    where
      by : (b : Bool) → leb (length p) 65535 ≡ b → Some n ≡ cond b (Some (length e)) None
          → (length p ≤ 65535) × (n ≡ length e)
      by true f h = (leb-true _ _ f, cc)
      by false f h = absurd (cc)

  pub length_within-none : ◌≡◌ {A = Option ℕ} None (length_within p e) → 65535 < length p
  unfolding length_within
  length_within-none = by (leb (length p) 65535) refl
    where
      by : (b : Bool) → leb (length p) 65535 ≡ b → ◌≡◌ {A = Option ℕ} None (cond b (Some (length e)) None)
          → 65535 < length p
      by true f h = absurd (cc)
      by false f h = leb-false _ _ f

  -- a length of 0 in place of none
  pub length_with-within : unwrap_or (length_within p e) 0 ≡ length_with p e
  unfolding length_with length_within
  length_with-within = by (leb (length p) 65535)
    where
      by : (b : Bool) → unwrap_or (cond b (Some (length e)) None) 0 ≡ cond b (length e) 0
      by true = refl
      by false = refl

module _ (p e o : Bytes) where
  pub outcome-long : 65535 < length p → outcome p e o ≡ answered (Err TooLong) o
  unfolding outcome
  outcome-long h = rw (lt-leb _ _ h)

  pub outcome-short : length p ≤ 65535 → length o < length e → outcome p e o ≡ answered (Err Short) o
  unfolding outcome
  outcome-short h k = rw (le-leb _ _ h, lt-leb _ _ k)

  pub outcome-done : length p ≤ 65535 → length e ≤ length o → outcome p e o ≡ answered (Ok (length e)) (sets o 0 e)
  unfolding outcome
  outcome-done h k = rw (le-leb _ _ h, le-leb _ _ k)

-- ---- the message that a body stands for

first_nul-split : (b : Bytes) → first_nul b < length b → take (first_nul b) b ++ 0 ∷ drop (first_nul b + 1) b ≡ b
unfolding first_nul
first_nul-split [] h = absurd (omega arith)
first_nul-split (c ∷ s) h = by (first_nul-split s) (eqb c 0) refl h
  where
    by : (first_nul s < length s → take (first_nul s) s ++ 0 ∷ drop (first_nul s + 1) s ≡ s)
        → (b : Bool) → eqb c 0 ≡ b → cond b 0 (first_nul s + 1) < length (c ∷ s)
        → take (cond b 0 (first_nul s + 1)) (c ∷ s) ++ 0 ∷ drop (cond b 0 (first_nul s + 1) + 1) (c ∷ s) ≡ c ∷ s
    by f true e k = rw (eqb-true c 0 e)
    by f false e k =
        let e₁ : first_nul s + 1 ≡ suc (first_nul s) = omega arith in
        let e₂ : suc (first_nul s) + 1 ≡ suc (first_nul s + 1) = omega arith in
        rw (e₁, e₂) (ap (◌∷◌ c) (f (omega arith)))

-- a key and a value, or none, make the body that they were split from
pub key-value : (b : Bytes) → key_of b ++ value_tail (value_of b) ≡ b
unfolding value_of value_tail
key-value b = by (ltb (first_nul b) (length b)) refl
  where
    by : (t : Bool) → ltb (first_nul b) (length b) ≡ t → key_of b ++ value_tail (value_of b) ≡ b
    by true e = rw (has_nul-first_nul, e) (first_nul-split b (ltb-true _ _ e))
    by false e = rw (has_nul-first_nul, e) (append-nil (key_of b) ∙ take_all (first_nul b) b (ltb-false _ _ e))

-- the payload of an INFO is its body
pub payload-info : (b : Bytes) → message_payload (said Info b) ≡ b
unfolding message_payload said
payload-info b = key-value b

pub ruleset line_lengths = (length_fields, length-ending, length-line)

pub ruleset within = (length_within-fits, length_within-long)

pub ruleset outcomes = (length_within-some, length_within-none, outcome-long, outcome-short, outcome-done)

pub ruleset blocks = (empty, escaped-append, escaped-most, length-append)

pub ruleset shapes = (fields-numbered, fields-unnumbered)

pub ruleset parts = (take_rest, fields-valued, fields-absent, length-drop, length-take-le)
