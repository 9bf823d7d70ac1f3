-- Fields by their places: how a string, a key with its value and a number with its text make a payload, and what is
-- stored of it.
use mathlib.Core.Path.{◌≡◌, refl, sym, ap, ◌∙◌}
use mathlib.Core.List.{[], ◌∷◌, ◌++◌}
use mathlib.Core.Bool.{Bool, true, false, cond}
use mathlib.Core.Option.{Option, none, some, map}
use Prim.Native.Nat.{ℕ, zero, suc, ◌+◌, ◌-◌, ◌≤◌, ◌<◌}
use native.Mathlib.Numerals.{add-one}
use native.Mathlib.Omega.{arith}
use lib.ListN.{length, set, get_or, take, drop, length-drop, drop_of_length-le, length-append}
use lib.Seq.{drop-cons}
use borrow.Author.Tests.{eq-eqb, ne_eqb}
use Rattle.std.proofs.Common.{None, Some}
use Rattle.octets.specs.Octets.{Bytes, has_nul}
use Rattle.octets.specs.Options.{in_code}
use Rattle.octets.proofs.Laws.{sets-append}
use Rattle.text.specs.Fields.{Scan, malformed}
use Rattle.text.specs.FieldPost.{Spelled, ScannedAs}
use Rattle.text.specs.Payload.{number_from}
use Rattle.text.proofs.ScanLaws.{tail-byte, given_some, given_none}
use Rattle.server_text.specs.Strings.{exact}
use Rattle.server_text.specs.Fields.{string_in, last_of, number_in, numbered, numbered_in, value_in, keyed_in, bare_in}
use Rattle.server_text.specs.Promises.{BuildsAs}

-- the byte that stands k behind i, as the code takes it
abbrev pub byte_at : Bytes → ℕ → ℕ → ℕ
byte_at s i k = get_or (take (length s - i) (drop i s)) k 0

-- ---- a space and a string

string-few : (t : Bytes) → length t < 2 → string_in t ≡ malformed
unfolding string_in
string-few [] h = refl
string-few (c ∷ []) h = refl
string-few (c ∷ d ∷ t) h = absurd (omega arith)

module _ (s : Bytes) (i : ℕ) where
  pub string-short : length s - i < 2 → string_in (drop i s) ≡ malformed
  string-short h = string-few (drop i s) (rw length-drop h)

  two : i + 1 < length s → drop i s ≡ get_or s i 0 ∷ get_or s (i + 1) 0 ∷ drop (i + 2) s
  two h =
      let e₁ : suc i ≡ i + 1 = omega arith in
      let e₂ : suc (i + 1) ≡ i + 2 = omega arith in
      rw (drop-cons s i 0 (omega arith), e₁, drop-cons s (i + 1) 0 h, e₂)

  pub string-space : i + 1 < length s → (byte_at s i 0 ≡ 32 → ⊥) → string_in (drop i s) ≡ malformed
  unfolding string_in
  string-space h e = rw (two h, ne_eqb _ _ (rw (tail-byte s i 0 i (omega arith)) at e))

  pub string-mark : i + 1 < length s → byte_at s i 0 ≡ 32 → (byte_at s i 1 ≡ 34 → ⊥) → string_in (drop i s) ≡ malformed
  unfolding string_in
  string-mark h e f =
      rw (
        two h,
        eq-eqb _ _ (rw (tail-byte s i 0 i (omega arith)) at e),
        ne_eqb _ _ (rw (tail-byte s i 1 (i + 1) (omega arith)) at f),
      )

  pub string-on : i + 1 < length s → byte_at s i 0 ≡ 32 → byte_at s i 1 ≡ 34
      → string_in (drop i s) ≡ exact (drop (i + 2) s)
  unfolding string_in
  string-on h e f =
      rw (
        two h,
        eq-eqb _ _ (rw (tail-byte s i 0 i (omega arith)) at e),
        eq-eqb _ _ (rw (tail-byte s i 1 (i + 1) (omega arith)) at f),
      )

-- what is no string, for the tactics
pub ruleset no_string = (string-short, string-space, string-mark)

-- ---- a string that nothing follows

-- something follows where the end is not reached
more : (line : Bytes) (r : ℕ) → r ≤ length line → (r ≡ length line → ⊥) → r < length line
more line r h n = by (length line - r) refl
  where
    by : (d : ℕ) → length line - r ≡ d → r < length line
    by zero e = absurd (n (omega arith))
    by (suc d) e = omega arith

module _ {x : Scan} {line : Bytes} {from n r : ℕ} {nul : Bool} {buf : Bytes} {to : ℕ} {buf' : Bytes}
    (w : ScannedAs x line from n r nul buf to buf') where
  pub last-is : (at : ℕ) → at ≤ from → length line ≤ r → BuildsAs (last_of x) (length line - at) buf to n buf'
  unfolding last_of
  last-is at h e = record {
    value = w.value;
    is = rw (w.is, drop_of_length-le line e);
    count = w.stored.count;
    held = w.stored.held;
    short = omega (arith, w.short);
  }

  pub last_more : r < length line → last_of x ≡ none
  unfolding last_of
  last_more e = rw (w.is, drop-cons line r 0 e)

pub last-bad : (x : Scan) → x ≡ malformed → last_of x ≡ none
unfolding last_of
last-bad x e = rw e

-- ---- a byte before a payload

module _ {y : Option Bytes} {m : ℕ} {buf₁ : Bytes} {to n : ℕ} {buf₂ : Bytes} (w : BuildsAs y m buf₁ (to + 1) n buf₂)
  where
    pub led : (a most : ℕ) (buf : Bytes) → buf₁ ≡ set buf to a → m + 1 ≤ most
        → BuildsAs (map (◌∷◌ a) y) most buf to (n + 1) buf₂
    led a most buf e h = record {
      value = a ∷ w.value;
      is = rw w.is;
      count = omega (arith, w.count);
      held = w.held ∙ rw (e, add-one to);
      short = omega (arith, w.short);
    }

pub led-none : (a : ℕ) (y : Option Bytes) → y ≡ none → map (◌∷◌ a) y ≡ none
led-none a y e = rw e

-- ---- what follows a key

module _ (s : Bytes) (i : ℕ) where
  value-end : length s ≡ i → value_in (drop i s) ≡ some []
  unfolding value_in
  value-end h = rw (drop_of_length-le s {i = i} (omega arith))

  pub value_on : i < length s → value_in (drop i s) ≡ map (◌∷◌ 0) (last_of (string_in (drop i s)))
  unfolding value_in
  value_on h = rw (drop-cons s i 0 h)

  pub value_none : (most : ℕ) (buf : Bytes) (to : ℕ) → length s ≡ i → BuildsAs (value_in (drop i s)) most buf to 0 buf
  value_none most buf to h =
      record { value = []; is = value-end h; count = refl; held = refl; short = omega arith }

-- ---- a key

module _ {x : Scan} {line : Bytes} {from n r : ℕ} {nul : Bool} {buf : Bytes} {to : ℕ} {buf₁ : Bytes}
    (w : ScannedAs x line from n r nul buf to buf₁) where
  pub keyed-nul : nul ≡ true → keyed_in x ≡ none
  unfolding keyed_in
  keyed-nul e = rw (w.is, sym w.stored.nuls ∙ e)

  pub keyed-built : {m : ℕ} {buf₂ : Bytes} → nul ≡ false
      → BuildsAs (value_in (drop r line)) (length line - r + 1) buf₁ (to + n) m buf₂
      → BuildsAs (keyed_in x) (length line) buf to (n + m) buf₂
  unfolding keyed_in
  keyed-built {m} {buf₂} e v = record {
    value = w.value ++ v.value;
    is = rw (w.is, sym w.stored.nuls ∙ e, v.is);
    count = rw length-append (omega (arith, w.stored.count, v.count));
    held = v.held ∙ rw (w.stored.held, ← w.stored.count) (sym (sets-append buf to w.value v.value));
    short = omega (arith, w.short, v.short, w.within);
  }

  pub keyed-bad : value_in (drop r line) ≡ none → keyed_in x ≡ none
  unfolding keyed_in
  keyed-bad e = rw (w.is, e) (by (has_nul w.value))
    where
      by : (b : Bool) → ◌≡◌ {A = Option Bytes} (cond b none none) none
      by true = refl
      by false = refl

pub keyed-malformed : (x : Scan) → x ≡ malformed → keyed_in x ≡ none
unfolding keyed_in
keyed-malformed x e = rw e

-- ---- a number

module _ (s : Bytes) (i : ℕ) where
  pub numbered-end : length s ≤ i → numbered_in (drop i s) ≡ none
  unfolding numbered_in
  numbered-end h = rw (drop_of_length-le s h)

  pub numbered-space : i < length s → (byte_at s i 0 ≡ 32 → ⊥) → numbered_in (drop i s) ≡ none
  unfolding numbered_in
  numbered-space h e = rw (drop-cons s i 0 h, ne_eqb _ _ (rw (tail-byte s i 0 i (omega arith)) at e))

  module _ (h : i < length s) (e : byte_at s i 0 ≡ 32) (r : ℕ) (w : Spelled s (i + 1) r) where
    numbered-on : numbered_in (drop i s) ≡ numbered (number_in (take (r - (i + 1)) (drop (i + 1) s))) (drop r s)
    unfolding numbered_in
    numbered-on =
        rw (
          drop-cons s i 0 h,
          eq-eqb _ _ (rw (tail-byte s i 0 i (omega arith)) at e),
          ← add-one i,
          w.is,
          w.rest,
        )

    -- the digits behind the space
    abbrev digits : Bytes
    digits = take (r - (i + 1)) (drop (i + 1) s)

    pub numbered-not : in_code (number_in digits) ≡ None → numbered_in (drop i s) ≡ none
    unfolding numbered
    numbered-not q = numbered-on ∙ ap (λ (o : Option ℕ). numbered o (drop r s)) (given_none (number_in digits) q)

    pub numbered_is : (n : ℕ) → in_code (number_in digits) ≡ Some n
        → numbered_in (drop i s) ≡ map (◌∷◌ n) (last_of (string_in (drop r s)))
    unfolding numbered
    numbered_is n q = numbered-on ∙ ap (λ (o : Option ℕ). numbered o (drop r s)) (given_some (number_in digits) n q)

-- what has no number, for the tactics
pub ruleset no_number = (numbered-end, numbered-space)

-- ---- digits

pub number-none : (w : Bytes) → length w < 1 → None ≡ in_code (number_in w)
unfolding number_in
number-none [] h = refl
number-none (a ∷ w) h = absurd (omega arith)

pub number-one : (w : Bytes) → length w ≡ 1 → in_code (number_from 0 w) ≡ in_code (number_in w)
unfolding number_in
number-one [] h = absurd (omega arith)
number-one (a ∷ []) h = refl
number-one (a ∷ b ∷ w) h = absurd (omega arith)

pub number-led : (w : Bytes) → 2 ≤ length w → get_or w 0 0 ≡ 48 → None ≡ in_code (number_in w)
unfolding number_in
number-led [] h e = absurd (omega arith)
number-led (a ∷ []) h e = absurd (omega arith)
number-led (a ∷ b ∷ w) h e = rw (eq-eqb _ _ e)

pub number-several : (w : Bytes) → 1 ≤ length w → (get_or w 0 0 ≡ 48 → ⊥)
    → in_code (number_from 0 w) ≡ in_code (number_in w)
unfolding number_in
number-several [] h e = absurd (omega arith)
number-several (a ∷ []) h e = refl
number-several (a ∷ b ∷ w) h e = rw (ne_eqb a 48 e)

-- what digits spell, for the tactics
pub ruleset digits_in = (number-none, number-one, number-led, number-several)

-- ---- no fields

module _ (s : Bytes) (i : ℕ) where
  pub bare-end : length s ≤ i → bare_in (drop i s) ≡ some []
  unfolding bare_in
  bare-end h = rw (drop_of_length-le s h)

  pub bare-more : i < length s → bare_in (drop i s) ≡ none
  unfolding bare_in
  bare-more h = rw (drop-cons s i 0 h)
