-- What stands at a place of a line, by the byte there.
use mathlib.Core.Path.{◌≡◌, refl, sym, ap, ◌∙◌}
use mathlib.Core.List.{[], ◌∷◌, ◌++◌, append_assoc, append-nil}
use mathlib.Core.Bool.{Bool, true, false, cond, not, ◌||◌}
use mathlib.Core.Option.{Option, none, some}
use Prim.Native.Nat.{ℕ, suc, ◌+◌, ◌-◌, ◌≤◌, ◌<◌}
use native.Mathlib.Numerals.{add-one}
use native.Mathlib.Omega.{arith}
use lib.Dec.{eqb, ltb}
use lib.ListN.{length, set, get_or, drop, take, drop_of_length-le, length-append, length-drop}
use lib.Seq.{take_all, drop-cons, drop-drop, get_or-drop, length-sets}
use borrow.Author.Tests.{eq-eqb, ne_eqb, ltb-true, ltb-false}
use Rattle.std.proofs.Common.{None, Some, Result, Ok, Err}
use Rattle.std.specs.Result.{IsErr}
use Rattle.text.specs.declared.fields.Malformed.{Malformed}
use Rattle.std.proofs.Common as Code
use Rattle.std.specs.Option.{option_map, unwrap_or}
use Rattle.std.specs.List.{position, position_or_len}
use Rattle.std.proofs.lemmas.List.Sums.{prefix_len-le-length}
use Rattle.octets.specs.Octets.{Bytes, has_nul}
use Rattle.octets.specs.Options.{in_code}
use Rattle.octets.proofs.Laws.{sets-snoc}
use Rattle.text.specs.Fields.{trim, word, after_word, octal, Scan, malformed, scanned, onto, closed, quoted}
use Rattle.text.specs.Fields.{escaped}
use Rattle.text.specs.FieldPost.{SkipsTo, Spelled, Stored, Stepped, ScannedAs}

-- ---- a refusal that is passed on

pub on-err : {T : Type 0} (P : Result T Malformed → Type 0) (r : Result T Malformed) → IsErr r
    → P (Err (record {})) → P r
on-err P (Ok v) e p = let z : ◌≡◌ {A = ℕ} 0 1 = cc in absurd (omega arith)
on-err P (Err m) e p = p

-- ---- spaces and words

abbrev pub space : ℕ → Bool
space c = eqb c 32

abbrev pub no_space : ℕ → Bool
no_space c = not (eqb c 32)

one-add : (n : ℕ) → suc n ≡ 1 + n
one-add n = omega arith

pub trim-position : (s : Bytes) → trim s ≡ drop (position_or_len no_space s) s
unfolding trim
trim-position [] = refl
trim-position (c ∷ s) = by (eqb c 32) (trim-position s)
  where
    by : (b : Bool) → trim s ≡ drop (position_or_len no_space s) s
        → cond b (trim s) (c ∷ s) ≡ drop (cond (not (not b)) (1 + position_or_len no_space s) 0) (c ∷ s)
    by true e = e ∙ ap (λ n. drop n (c ∷ s)) (one-add (position_or_len no_space s))
    by false e = refl

pub word-position : (s : Bytes) → word s ≡ take (position_or_len space s) s
unfolding word
word-position [] = refl
word-position (c ∷ s) = by (eqb c 32) (word-position s)
  where
    by : (b : Bool) → word s ≡ take (position_or_len space s) s
        → cond b [] (c ∷ word s) ≡ take (cond (not b) (1 + position_or_len space s) 0) (c ∷ s)
    by true e = refl
    by false e = ap (◌∷◌ c) e ∙ ap (λ n. take n (c ∷ s)) (one-add (position_or_len space s))

pub after-position : (s : Bytes) → after_word s ≡ drop (position_or_len space s) s
unfolding after_word
after-position [] = refl
after-position (c ∷ s) = by (eqb c 32) (after-position s)
  where
    by : (b : Bool) → after_word s ≡ drop (position_or_len space s) s
        → cond b (c ∷ s) (after_word s) ≡ drop (cond (not b) (1 + position_or_len space s) 0) (c ∷ s)
    by true e = refl
    by false e = e ∙ ap (λ n. drop n (c ∷ s)) (one-add (position_or_len space s))

-- the first byte that passes, or the length where none does
pub position-or : (p : ℕ → Bool) (s : Bytes) → unwrap_or (position p s) (length s) ≡ position_or_len p s
position-or p s = by (position_or_len p s) (prefix_len-le-length _ s) (ltb _ _) refl
  where
    by : (n : ℕ) → n ≤ length s → (b : Bool) → ltb n (length s) ≡ b
        → unwrap_or (cond b (Some n) None) (length s) ≡ n
    by n l true t = refl
    by n l false t = let q = ltb-false _ _ t in omega arith

-- the code's slice from `at` on
pub tail_whole : (line : Bytes) (at : ℕ) → take (length line - at) (drop at line) ≡ drop at line
tail_whole line at = take_all _ (drop at line) (simp length-drop (omega arith))

pub tail-byte : (line : Bytes) (at k i : ℕ) → at + k ≡ i
    → get_or (take (length line - at) (drop at line)) k 0 ≡ get_or line i 0
tail-byte line at k i e = rw (tail_whole line at, get_or-drop, e)

module _ (line : Bytes) (at : ℕ) (h : at ≤ length line) where
  -- what is found of the bytes from `at` on, as a place of the line
  pub skips : (r : Code.Option ℕ) → r ≡ option_map (λ n. at + n) (position no_space (drop at line)) → SkipsTo line at r
  skips r e = rw e (by (position_or_len no_space (drop at line)) (trim-position (drop at line)) (ltb _ _) refl)
    where
      by : (n : ℕ) → trim (drop at line) ≡ drop n (drop at line) → (b : Bool) → ltb n (length (drop at line)) ≡ b
          → SkipsTo line at (option_map (λ m. at + m) (cond b (Some n) None))
      by n f true g = let l = simp length-drop at (ltb-true _ _ g) in record
          { on = omega arith; within = omega arith; is = f ∙ drop-drop n at line }
      by n f false g = f ∙ drop_of_length-le (drop at line) (ltb-false _ _ g)

  pub spells : (r : ℕ) → r ≡ at + unwrap_or (position space (drop at line)) (length (drop at line)) → Spelled line at r
  spells r e = by (position_or_len space (drop at line)) (word-position (drop at line)) (after-position (drop at line))
      (prefix_len-le-length _ (drop at line)) (e ∙ ap (◌+◌ at) (position-or space (drop at line)))
    where
      by : (n : ℕ) → word (drop at line) ≡ take n (drop at line) → after_word (drop at line) ≡ drop n (drop at line)
          → n ≤ length (drop at line) → r ≡ at + n → Spelled line at r
      by n f g l k =
          let m = simp length-drop at l in
          let d : r - at ≡ n = omega arith in
          record {
            place = record { on = omega arith; within = omega arith };
            is = rw d f;
            rest = g ∙ rw k (drop-drop n at line);
          }

module _ (s : Bytes) (i : ℕ) where
  -- ---- quoted strings

  pub quoted-end : length s ≤ i → quoted (drop i s) ≡ malformed
  unfolding quoted
  quoted-end h = rw drop_of_length-le

  pub quoted-byte : i < length s → (get_or s i 0 ≡ 34 → ⊥) → (get_or s i 0 ≡ 92 → ⊥)
      → quoted (drop i s) ≡ onto (some (get_or s i 0)) (quoted (drop (i + 1) s))
  unfolding quoted
  quoted-byte h e f = rw (add-one i, drop-cons s i 0 h, ne_eqb _ _ e, ne_eqb _ _ f)

  pub close-last : i < length s → get_or s i 0 ≡ 34 → length s ≤ i + 1 → quoted (drop i s) ≡ scanned [] (drop (i + 1) s)
  unfolding quoted closed
  close-last h e l = rw (drop-cons s i 0 h, eq-eqb _ _ e, ← add-one i, drop_of_length-le s l)

  pub close-space : i + 1 < length s → get_or s i 0 ≡ 34 → get_or s (i + 1) 0 ≡ 32
      → quoted (drop i s) ≡ scanned [] (drop (i + 1) s)
  unfolding quoted closed
  close-space h e f =
      let h₀ : i < length s = omega arith in
      rw (drop-cons s i 0 h₀, eq-eqb _ _ e, ← add-one i, drop-cons s (i + 1) 0 h, eq-eqb _ _ f)

  pub close-bad : i + 1 < length s → get_or s i 0 ≡ 34 → (get_or s (i + 1) 0 ≡ 32 → ⊥) → quoted (drop i s) ≡ malformed
  unfolding quoted closed
  close-bad h e f =
      let h₀ : i < length s = omega arith in
      rw (drop-cons s i 0 h₀, eq-eqb _ _ e, ← add-one i, drop-cons s (i + 1) 0 h, ne_eqb _ _ f)

  -- four bytes from i on
  pub four : i + 3 < length s
      → drop i s ≡ get_or s i 0 ∷ get_or s (i + 1) 0 ∷ get_or s (i + 2) 0 ∷ get_or s (i + 3) 0 ∷ drop (i + 4) s
  four h =
      let e₁ : suc i ≡ i + 1 = omega arith in
      let e₂ : suc (i + 1) ≡ i + 2 = omega arith in
      let e₃ : suc (i + 2) ≡ i + 3 = omega arith in
      let e₄ : suc (i + 3) ≡ i + 4 = omega arith in
      rw (
        drop-cons s i 0 (omega arith),
        e₁,
        drop-cons s (i + 1) 0 (omega arith),
        e₂,
        drop-cons s (i + 2) 0
            (omega arith),
        e₃,
        drop-cons s (i + 3) 0 h,
        e₄,
      )

  -- the k-th byte behind the one at i, as the code takes it
  abbrev pub behind : ℕ → ℕ
  behind k = get_or (take (length s - (i + 1)) (drop (i + 1) s)) k 0

  pub escape-on : i + 3 < length s → get_or s i 0 ≡ 92
      → quoted (drop i s) ≡ onto (octal (behind 0) (behind 1) (behind 2)) (quoted (drop (i + 4) s))
  unfolding quoted escaped
  escape-on h e =
      rw (
        four h,
        e,
        tail-byte s (i + 1) 0 (i + 1) (omega arith),
        tail-byte s (i + 1) 1 (i + 2) (omega arith),
        tail-byte s (i + 1) 2 (i + 3) (omega arith),
      )

-- fewer than three bytes after a backslash
short_escape : (t : Bytes) → length t < 3 → escaped t ≡ malformed
unfolding escaped
short_escape [] h = refl
short_escape (a ∷ []) h = refl
short_escape (a ∷ b ∷ []) h = refl
short_escape (a ∷ b ∷ c ∷ t) h = absurd (omega arith)

pub escape-short : (s : Bytes) (i : ℕ) → i < length s → get_or s i 0 ≡ 92 → length s - i < 4
    → quoted (drop i s) ≡ malformed
unfolding quoted
escape-short s i h e l =
    let k : length (drop (suc i) s) < 3 = simp length-drop (omega arith) in
    rw (drop-cons s i 0 h, e) (short_escape (drop (suc i) s) k)

-- ---- a run of a quoted string's bytes

unfoldable pub ahead : Bytes → Scan → Scan
ahead v malformed = malformed
ahead v (scanned w rest) = scanned (v ++ w) rest

pub ahead_none : (x : Scan) → x ≡ ahead [] x
unfolding ahead
ahead_none malformed = refl
ahead_none (scanned w rest) = refl

pub ahead-onto : (v : Bytes) (b : ℕ) (x : Scan) → ahead v (onto (some b) x) ≡ ahead (v ++ (b ∷ [])) x
unfolding ahead onto
ahead-onto v b malformed = refl
ahead-onto v b (scanned w rest) = rw append_assoc

pub nul-snoc : (v : Bytes) (b : ℕ) → has_nul (v ++ (b ∷ [])) ≡ (has_nul v || eqb b 0)
unfolding has_nul
nul-snoc [] b = or-none (eqb b 0)
  where
    or-none : (x : Bool) → (x || false) ≡ x
    or-none true = refl
    or-none false = refl
nul-snoc (a ∷ v) b = rw (nul-snoc v b) (or-or (eqb a 0) (has_nul v) (eqb b 0))
  where
    or-or : (x y z : Bool) → (x || (y || z)) ≡ ((x || y) || z)
    or-or true y z = refl
    or-or false y z = refl

-- the n bytes of a string that f reads, from `at` to i, are stored from `to` on
pub record Scanning (f : Bytes → Scan) (line : Bytes) (at : ℕ) (buf : Bytes) (to : ℕ) (buf' : Bytes) (i n : ℕ)
    (nul : Bool) : Type 0 where
  pub done : Bytes
  pub is : f (drop at line) ≡ ahead done (f (drop i line))
  pub stored : Stored done n nul buf to buf'
  pub within : i ≤ length line
  pub short : at + n ≤ i

pub scan-start : (f : Bytes → Scan) (line : Bytes) (at : ℕ) (buf : Bytes) (to : ℕ) → at ≤ length line
    → Scanning f line at buf to buf at 0 false
unfolding has_nul
scan-start f line at buf to h =
    record {
      done = [];
      is = ahead_none _;
      stored = record { count = refl; nuls = refl; held = refl };
      within = h;
      short = omega arith;
    }

-- a byte more is stored
pub stored-snoc : (v : Bytes) (n : ℕ) (nul : Bool) (buf : Bytes) (to : ℕ) (buf' buf'' : Bytes) (b : ℕ) (nul' : Bool)
    → Stored v n nul buf to buf'
    → buf'' ≡ set buf' (to + n) b → nul' ≡ (nul || eqb b 0) → Stored (v ++ (b ∷ [])) (n + 1) nul' buf to buf''
stored-snoc v n nul buf to buf' buf'' b nul' r e f = record {
  count = rw length-append (omega (arith, r.count));
  nuls = rw (f, r.nuls) (sym (nul-snoc v b));
  held = rw (e, r.held, sets-snoc, r.count);
}

-- ---- an octal number as the code reports it

pub given_some : (o : Option ℕ) (b : ℕ) → in_code o ≡ Some b → o ≡ some b
given_some none b e = let z : ◌≡◌ {A = ℕ} 0 1 = cc in absurd (omega arith)
given_some (some x) b e = cc

pub given_none : (o : Option ℕ) → in_code o ≡ None → o ≡ none
given_none none e = refl
given_none (some x) e = let z : ◌≡◌ {A = ℕ} 0 1 = cc in absurd (omega arith)

module _ (s : Bytes) (i : ℕ) (h : i + 3 < length s) (e : get_or s i 0 ≡ 92) where
  abbrev read_octal : Option ℕ
  read_octal = octal (behind s i 0) (behind s i 1) (behind s i 2)

  pub escape-byte : (b : ℕ) → in_code read_octal ≡ Some b
      → quoted (drop i s) ≡ onto (some b) (quoted (drop (i + 4) s))
  escape-byte b f =
      escape-on s i h e ∙ ap (λ (o : Option ℕ). onto o (quoted (drop (i + 4) s))) (given_some read_octal b f)

  pub escape-bad : in_code read_octal ≡ None → quoted (drop i s) ≡ malformed
  unfolding onto
  escape-bad f = escape-on s i h e ∙ ap (λ (o : Option ℕ). onto o (quoted (drop (i + 4) s))) (given_none read_octal f)

-- what stands in a string, for the tactics
pub ruleset marks = (close-last, close-space, close-bad, escape-short, escape-byte, escape-bad, quoted-byte)

-- ---- a turn of a string

module _ {f : Bytes → Scan} {line : Bytes} {at : ℕ} {buf : Bytes} {to : ℕ} {buf' : Bytes} {i n : ℕ} {nul : Bool}
    (w : Scanning f line at buf to buf' i n nul) where
  pub scan-byte : (r b : ℕ) (buf'' : Bytes) (nul' : Bool)
      → Stepped line i r (f (drop i line)) (onto (some b) (f (drop r line)))
      → buf'' ≡ set buf' (to + n) b → nul' ≡ (nul || eqb b 0) → Scanning f line at buf to buf'' r (n + 1) nul'
  scan-byte r b buf'' nul' p e g = record {
    done = w.done ++ (b ∷ []);
    is = w.is ∙ rw p.is (ahead-onto w.done b (f (drop r line)));
    stored = stored-snoc w.done n nul buf to buf' buf'' b nul' w.stored e g;
    within = p.within;
    short = omega (arith, w.short, p.on);
  }

  pub scan-close : (r : ℕ) → Stepped line i r (f (drop i line)) (scanned [] (drop r line))
      → ScannedAs (f (drop at line)) line at n r nul buf to buf'
  unfolding ahead
  scan-close r p = record {
    value = w.done;
    is = w.is ∙ rw (p.is, append-nil);
    stored = w.stored;
    within = p.within;
    short = omega (arith, w.short, p.on);
  }

  pub scan-bad : f (drop i line) ≡ malformed → f (drop at line) ≡ malformed
  unfolding ahead
  scan-bad e = w.is ∙ rw e

  pub scan-length : length buf' ≡ length buf
  scan-length = ap length w.stored.held ∙ length-sets buf to w.done
