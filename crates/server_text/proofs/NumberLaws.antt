-- The reader of numbers is the exact inverse of the writer: it reads back what was written (`number_in-decimal`), and
-- what it reads is what was written (`number-sound`).
use mathlib.Core.Path.{◌≡◌, refl}
use mathlib.Core.List.{[], ◌∷◌}
use mathlib.Core.Bool.{Bool, true, false, cond, ◌&&◌}
use mathlib.Core.Option.{Option, some, none}
use Prim.Native.Nat.{ℕ, ◌+◌, ◌-◌, ◌*◌, ◌/◌, ◌%◌, ◌≤◌, ◌<◌}
use native.Mathlib.Omega.{arith}
use lib.Dec.{eqb, leb, ltb}
use borrow.Author.Tests.{eqb-false, ne_eqb, lt-ltb, le-ltb, le-leb, ltb-true, ltb-false, leb-true}
use Rattle.octets.specs.Octets.{Bytes}
use Rattle.text.specs.Fields.{is_digit}
use Rattle.text.specs.Payload as Payload
use Rattle.text.specs.Payload.{all_digits, number_from}
use Rattle.text.proofs.NumberLaws.{decimal-grows}
use Rattle.message.specs.Quoting.{decimal}
use Rattle.server_text.specs.Fields.{number_in}

pub and-true : (a b : Bool) → (a && b) ≡ true → (a ≡ true) × (b ≡ true)
and-true true true h = (refl, refl)
and-true true false h = let z : ◌≡◌ {A = ℕ} 0 1 = cc in absurd (omega arith)
and-true false b h = let z : ◌≡◌ {A = ℕ} 0 1 = cc in absurd (omega arith)

-- ---- digits

pub digit : (n : ℕ) → n < 10 → is_digit 10 (48 + n) ≡ true
digit n h = rw (le-leb 48 (48 + n) (omega arith), lt-ltb (48 + n) 58 (omega arith))

pub digit-range : (n a : ℕ) → is_digit n a ≡ true → (48 ≤ a) × (a < 48 + n)
digit-range n a h =
    let e = and-true (leb 48 a) (ltb a (48 + n)) h in (leb-true _ _ e.0, ltb-true _ _ e.1)

-- ---- complete

-- the server's reader, which allows leading zeros, reads them so
pub number_from-decimal : (n : ℕ) → n < 256 → number_from 0 (decimal n) ≡ some n
unfolding number_from all_digits Payload.decimal decimal
number_from-decimal n h = by (ltb n 10) (ltb n 100) refl refl
  where
    by : (a b : Bool) → ltb n 10 ≡ a → ltb n 100 ≡ b → number_from 0 (decimal n) ≡ some n
    by true b e f =
        let q : 0 * 10 + (48 + n - 48) ≡ n = omega arith in
        rw (e, digit n (ltb-true _ _ e), q, lt-ltb n 256 h)
    by false true e f =
        let l = ltb-false n 10 e in
        let m = ltb-true n 100 f in
        let q : (0 * 10 + (48 + n / 10 - 48)) * 10 + (48 + n % 10 - 48) ≡ n = omega arith in
        rw (e, f, digit (n / 10) (omega arith), digit (n % 10) (omega arith), q, lt-ltb n 256 h)
    by false false e f =
        let q : ((0 * 10 + (48 + n / 100 - 48)) * 10 + (48 + n / 10 % 10 - 48)) * 10 + (48 + n % 10 - 48) ≡ n
        = omega arith in
        rw (
          e,
          f,
          digit (n / 100) (omega arith),
          digit (n / 10 % 10) (omega arith),
          digit (n % 10) (omega arith),
          q,
          lt-ltb n 256 h,
        )

pub number_in-decimal : (n : ℕ) → n < 256 → number_in (decimal n) ≡ some n
unfolding number_in decimal
number_in-decimal n h = by (ltb n 10) (ltb n 100) refl refl (number_from-decimal n h)
  where
    by : (a b : Bool) → ltb n 10 ≡ a → ltb n 100 ≡ b
        → number_from 0 (cond a ((48 + n) ∷ []) (cond b ((48 + n / 10) ∷ (48 + n % 10) ∷ [])
        ((48 + n / 100) ∷ (48 + n / 10 % 10) ∷ (48 + n % 10) ∷ []))) ≡ some n
        → number_in (cond a ((48 + n) ∷ []) (cond b ((48 + n / 10) ∷ (48 + n % 10) ∷ [])
        ((48 + n / 100) ∷ (48 + n / 10 % 10) ∷ (48 + n % 10) ∷ []))) ≡ some n
    by true b e f g = g
    by false true e f g =
        let l = ltb-false n 10 e in
        rw (ne_eqb (48 + n / 10) 48 (λ q. omega arith)) g
    by false false e f g =
        let l = ltb-false n 100 f in
        rw (ne_eqb (48 + n / 100) 48 (λ q. omega arith)) g

-- ---- sound

-- digits w whose number is n
record Spells (w : Bytes) (n : ℕ) : Type 0 where
  digits : all_digits w ≡ true
  value : Payload.decimal 0 w ≡ n
  below : n < 256

spells : (w : Bytes) (n : ℕ) → number_from 0 w ≡ some n → Spells w n
unfolding number_from
spells w n h = by (all_digits w) (ltb (Payload.decimal 0 w) 256) refl refl h
  where
    by : (a b : Bool) → all_digits w ≡ a → ltb (Payload.decimal 0 w) 256 ≡ b
        → cond (a && b) (some (Payload.decimal 0 w)) none ≡ some n → Spells w n
    by true true e f h =
        let v : Payload.decimal 0 w ≡ n = cc in
        record { digits = e; value = v; below = rw v at (ltb-true (Payload.decimal 0 w) 256 f) }
    by true false e f h = let z : ◌≡◌ {A = ℕ} 0 1 = cc in absurd (omega arith)
    by false b e f h = let z : ◌≡◌ {A = ℕ} 0 1 = cc in absurd (omega arith)

-- a digit that is not 0
above_zero : (a : ℕ) → 48 ≤ a → eqb a 48 ≡ false → 48 < a
above_zero a h e = by (ltb 48 a) refl
  where
    by : (x : Bool) → ltb 48 a ≡ x → 48 < a
    by true q = ltb-true _ _ q
    by false q = let l = ltb-false 48 a q in absurd (eqb-false a 48 e (omega arith))

one-spelt : (a n : ℕ) → Spells (a ∷ []) n → a ∷ [] ≡ decimal n
unfolding all_digits Payload.decimal decimal
one-spelt a n s =
    let d = digit-range 10 a (and-true _ _ s.digits).0 in
    let v : 0 * 10 + (a - 48) ≡ n = s.value in
    let e : 48 + n ≡ a = omega arith in
    rw (lt-ltb n 10 (omega arith), e)

module _ (a : ℕ) (z : eqb a 48 ≡ false) where
  two-spelt : (b n : ℕ) → Spells (a ∷ b ∷ []) n → a ∷ b ∷ [] ≡ decimal n
  unfolding all_digits Payload.decimal decimal
  two-spelt b n s =
      let d = and-true _ _ s.digits in
      let h = digit-range 10 a d.0 in
      let k = digit-range 10 b (and-true _ _ d.1).0 in
      let g : 48 < a = above_zero a h.0 z in
      let v : (0 * 10 + (a - 48)) * 10 + (b - 48) ≡ n = s.value in
      let e₁ : 48 + n / 10 ≡ a = omega arith in
      let e₂ : 48 + n % 10 ≡ b = omega arith in
      rw (le-ltb n 10 (omega arith), lt-ltb n 100 (omega arith), e₁, e₂)

  three-spelt : (b c n : ℕ) → Spells (a ∷ b ∷ c ∷ []) n → a ∷ b ∷ c ∷ [] ≡ decimal n
  unfolding all_digits Payload.decimal decimal
  three-spelt b c n s =
      let d = and-true _ _ s.digits in
      let f = and-true _ _ d.1 in
      let h = digit-range 10 a d.0 in
      let k = digit-range 10 b f.0 in
      let l = digit-range 10 c (and-true _ _ f.1).0 in
      let g : 48 < a = above_zero a h.0 z in
      let v : ((0 * 10 + (a - 48)) * 10 + (b - 48)) * 10 + (c - 48) ≡ n = s.value in
      let e₁ : 48 + n / 100 ≡ a = omega arith in
      let m : n / 10 ≡ (a - 48) * 10 + (b - 48) = omega arith in
      let e₂ : 48 + n / 10 % 10 ≡ b = rw m (omega arith) in
      let e₃ : 48 + n % 10 ≡ c = omega arith in
      rw (le-ltb n 10 (omega arith), le-ltb n 100 (omega arith), e₁, e₂, e₃)

  -- four digits and more, the first of them not 0, spell no number below 256
  four-spelt : (b c d : ℕ) (s : Bytes) (n : ℕ) → Spells (a ∷ b ∷ c ∷ d ∷ s) n → ⊥
  unfolding all_digits Payload.decimal
  four-spelt b c d s n w =
      let h = digit-range 10 a (and-true _ _ w.digits).0 in
      let g : 48 < a = above_zero a h.0 z in
      let m : ℕ = (((0 * 10 + (a - 48)) * 10 + (b - 48)) * 10 + (c - 48)) * 10 + (d - 48) in
      let v : Payload.decimal m s ≡ n = w.value in
      omega (arith, decimal-grows s m, w.below)

-- what was read is what the writer sets
abbrev pub SoundNumber : Bytes → Option ℕ → Type 0
SoundNumber w none = Unit {0}
SoundNumber w (some n) = w ≡ decimal n

module _ (a : ℕ) where
  single-sound : (o : Option ℕ) → number_from 0 (a ∷ []) ≡ o → SoundNumber (a ∷ []) o
  single-sound none e = tt
  single-sound (some n) e = one-spelt a n (spells (a ∷ []) n e)

  several-sound : eqb a 48 ≡ false → (b : ℕ) (s : Bytes) (o : Option ℕ) → number_from 0 (a ∷ b ∷ s) ≡ o
      → SoundNumber (a ∷ b ∷ s) o
  several-sound z b s none e = tt
  several-sound z b [] (some n) e = two-spelt a z b n (spells (a ∷ b ∷ []) n e)
  several-sound z b (c ∷ []) (some n) e = three-spelt a z b c n (spells (a ∷ b ∷ c ∷ []) n e)
  several-sound z b (c ∷ d ∷ s) (some n) e = absurd (four-spelt a z b c d s n (spells (a ∷ b ∷ c ∷ d ∷ s) n e))

pub number-sound : (w : Bytes) → SoundNumber w (number_in w)
unfolding number_in
number-sound [] = tt
number-sound (a ∷ []) = single-sound a (number_from 0 (a ∷ [])) refl
number-sound (a ∷ b ∷ s) = test (eqb a 48) refl
  where
    test : (t : Bool) → eqb a 48 ≡ t → SoundNumber (a ∷ b ∷ s) (cond t none (number_from 0 (a ∷ b ∷ s)))
    test true e = tt
    test false e = several-sound a e b s (number_from 0 (a ∷ b ∷ s)) refl
