-- The reader of strings is the exact inverse of the writer: it reads back what was written (`exact-escapes`), and
-- what it reads is what was written (`exact-sound`).
use mathlib.Core.Path.{◌≡◌, refl, ap, ◌∙◌}
use mathlib.Core.List.{[], ◌∷◌, ◌++◌, append_assoc}
use mathlib.Core.Bool.{Bool, true, false, cond, ◌&&◌}
use mathlib.Core.Option.{Option, some, none}
use Prim.Native.Nat.{ℕ, ◌+◌, ◌-◌, ◌*◌, ◌/◌, ◌%◌}
use native.Mathlib.Omega.{arith}
use lib.Dec.{eqb}
use borrow.Author.Tests.{eqb-true, ne_eqb}
use Rattle.octets.specs.Octets.{Bytes}
use Rattle.text.specs.Fields.{is_digit, octal, Scan, malformed, scanned, onto}
use Rattle.text.proofs.Escapes.{octal-digits}
use Rattle.text.proofs.ScanLaws.{ahead, ahead_none}
use Rattle.message.specs.Quoting.{is_escaped, escape, escapes, escaped}
use Rattle.message.proofs.Laws.{escape-escaped, escape-plain, escaped-below, plain-marks}
use Rattle.server_text.specs.Strings.{escaped_only, exact, exact_escape}
use Rattle.server_text.proofs.NumberLaws.{and-true, digit-range}

-- ---- complete

-- a byte that stands raw is read as it is
exact-plain : (c : ℕ) (s : Bytes) → is_escaped c ≡ false → exact (c ∷ s) ≡ onto (some c) (exact s)
unfolding exact
exact-plain c s e =
    let m = plain-marks c e in
    rw (ne_eqb c 34 m.0, ne_eqb c 92 m.1, e)

-- a byte as the writer sets it is read as that byte
read-escape : (c : ℕ) (t : Bytes) → exact (escape c ++ t) ≡ onto (some c) (exact t)
unfolding exact exact_escape escaped_only
read-escape c t = by (is_escaped c) refl
  where
    by : (b : Bool) → is_escaped c ≡ b → exact (escape c ++ t) ≡ onto (some c) (exact t)
    by true e = rw (escape-escaped c e, octal-digits c (escaped-below c e), e)
    by false e = rw (escape-plain c e) (exact-plain c t e)

-- a string and its closing mark
pub exact-escapes : (s r : Bytes) → exact (escapes s ++ 34 ∷ r) ≡ scanned s r
unfolding escapes exact onto
exact-escapes [] r = refl
exact-escapes (c ∷ s) r =
    rw append_assoc
    (read-escape c (escapes s ++ 34 ∷ r) ∙ ap (onto (some c)) (exact-escapes s r))

-- ---- bytes that stand raw

onto-ahead : (c : ℕ) (v : Bytes) (x : Scan) → onto (some c) (ahead v x) ≡ ahead (c ∷ v) x
unfolding onto ahead
onto-ahead c v malformed = refl
onto-ahead c v (scanned w r) = refl

-- a run of them is read as it is
pub exact-raw-run : (v r : Bytes) → escaped v ≡ 0 → exact (v ++ r) ≡ ahead v (exact r)
unfolding escaped
exact-raw-run [] r h = ahead_none (exact r)
exact-raw-run (c ∷ v) r h = by (is_escaped c) refl h (exact-raw-run v r)
  where
    by : (b : Bool) → is_escaped c ≡ b → cond b 1 0 + escaped v ≡ 0
        → (escaped v ≡ 0 → exact (v ++ r) ≡ ahead v (exact r)) → exact (c ∷ v ++ r) ≡ ahead (c ∷ v) (exact r)
    by true e h f = absurd (omega arith)
    by false e h f =
        exact-plain c (v ++ r) e ∙ ap (onto (some c)) (f (omega arith)) ∙ onto-ahead c v (exact r)

-- ---- sound

-- what was read is what the writer sets
abbrev pub SoundScan : Bytes → Scan → Type 0
SoundScan s malformed = Unit {0}
SoundScan s (scanned v r) = s ≡ escapes v ++ 34 ∷ r

onto-plain : (c : ℕ) (s : Bytes) (x : Scan) → is_escaped c ≡ false → SoundScan s x
    → SoundScan (c ∷ s) (onto (some c) x)
unfolding onto escapes
onto-plain c s malformed e h = tt
onto-plain c s (scanned v r) e h = rw (escape-plain c e) (ap (◌∷◌ c) h)

-- three octal digits are those of their number
digits-octal : (a b c n : ℕ) → octal a b c ≡ some n → (a ≡ 48 + n / 64) × (b ≡ 48 + n / 8 % 8) × (c ≡ 48 + n % 8)
unfolding octal
digits-octal a b c n h = by (is_digit 4 a && is_digit 8 b && is_digit 8 c) refl h
  where
    by : (t : Bool) → (is_digit 4 a && is_digit 8 b && is_digit 8 c) ≡ t
        → cond t (some (((a - 48) * 8 + (b - 48)) * 8 + (c - 48))) none ≡ some n
        → (a ≡ 48 + n / 64) × (b ≡ 48 + n / 8 % 8) × (c ≡ 48 + n % 8)
    by true e h =
        let v : ((a - 48) * 8 + (b - 48)) * 8 + (c - 48) ≡ n = cc in
        let d = and-true (is_digit 4 a && is_digit 8 b) (is_digit 8 c) e in
        let f = and-true (is_digit 4 a) (is_digit 8 b) d.0 in
        let i = digit-range 4 a f.0 in
        let j = digit-range 8 b f.1 in
        let k = digit-range 8 c d.1 in
        let m : n / 8 ≡ (a - 48) * 8 + (b - 48) = omega arith in
        let q : n / 64 ≡ a - 48 = omega arith in
        (omega arith, rw m (omega arith), omega arith)
    by false e h = let z : ◌≡◌ {A = ℕ} 0 1 = cc in absurd (omega arith)

onto-escape : (n a b c : ℕ) (s : Bytes) (x : Scan) → is_escaped n ≡ true → octal a b c ≡ some n → SoundScan s x
    → SoundScan (92 ∷ a ∷ b ∷ c ∷ s) (onto (some n) x)
unfolding onto escapes
onto-escape n a b c s malformed e t h = tt
onto-escape n a b c s (scanned v r) e t h =
    let q = digits-octal a b c n t in
    rw (escape-escaped n e, q.0, q.1, q.2, h)

escaped_only-sound : (a b c : ℕ) (s : Bytes) (x : Scan) → SoundScan s x
    → SoundScan (92 ∷ a ∷ b ∷ c ∷ s) (onto (escaped_only (octal a b c)) x)
unfolding escaped_only onto
escaped_only-sound a b c s x h = by (octal a b c) refl
  where
    five : (n : ℕ) (t : Bool) → is_escaped n ≡ t → octal a b c ≡ some n
        → SoundScan (92 ∷ a ∷ b ∷ c ∷ s) (onto (cond t (some n) none) x)
    five n true e f = onto-escape n a b c s x e f h
    five n false e f = tt

    by : (o : Option ℕ) → octal a b c ≡ o → SoundScan (92 ∷ a ∷ b ∷ c ∷ s) (onto (escaped_only o) x)
    by none e = tt
    by (some n) e = five n (is_escaped n) refl e

pick-sound : (a b d : Bool) (c : ℕ) (s : Bytes) → eqb c 34 ≡ a → eqb c 92 ≡ b → is_escaped c ≡ d
    → SoundScan (92 ∷ s) (exact_escape s) → SoundScan s (exact s)
    → SoundScan (c ∷ s) (cond a (scanned [] s) (cond b (exact_escape s) (cond d malformed (onto (some c) (exact s)))))
unfolding escapes
pick-sound true b d c s p q r h k = rw (eqb-true c 34 p)
pick-sound false true d c s p q r h k = rw (eqb-true c 92 q) h
pick-sound false false true c s p q r h k = tt
pick-sound false false false c s p q r h k = onto-plain c s (exact s) r k

mutual
  unfolding exact exact_escape

  pub exact-sound : (s : Bytes) → SoundScan s (exact s)
  exact-sound [] = tt
  exact-sound (c ∷ s) =
      pick-sound (eqb c 34) (eqb c 92) (is_escaped c) c s refl refl refl (escape-sound s) (exact-sound s)

  escape-sound : (s : Bytes) → SoundScan (92 ∷ s) (exact_escape s)
  escape-sound [] = tt
  escape-sound (a ∷ []) = tt
  escape-sound (a ∷ b ∷ []) = tt
  escape-sound (a ∷ b ∷ c ∷ s) = escaped_only-sound a b c s (exact s) (exact-sound s)
