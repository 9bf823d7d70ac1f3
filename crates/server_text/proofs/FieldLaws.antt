-- The reader of fields is the exact inverse of the writer, for every shape: it reads back a payload that suits the
-- shape (`payload_in-fields`), and what it reads is what the writer sets (`fields-payload_in`).
use mathlib.Core.Path.{◌≡◌, refl, ap, ◌∙◌}
use mathlib.Core.List.{[], ◌∷◌, ◌++◌, append_assoc, append-nil}
use mathlib.Core.Bool.{Bool, true, false, cond, ◌&&◌, ◌||◌}
use mathlib.Core.Option.{Option, some, none, map}
use Prim.Native.Nat.{ℕ, ◌+◌, ◌/◌, ◌%◌, ◌<◌}
use native.Mathlib.Numerals.{add-one}
use native.Mathlib.Omega.{arith}
use lib.Dec.{eqb, ltb}
use lib.ListN.{take, get_or}
use borrow.Author.Tests.{eqb-true, eq-eqb, ne_eqb}
use Rattle.octets.specs.Octets.{Bytes, has_nul, first_nul}
use Rattle.protocol.specs.Terms.{value_tail, info}
use Rattle.text.specs.Fields.{Scan, malformed, scanned, word, after_word}
use Rattle.message.specs.Quoting.{escapes, quote, decimal, has}
use Rattle.message.specs.Forms.{field, key_of, value_of, value_field, number_fields, fields}
use Rattle.message.specs.Writing.{said}
use Rattle.message.specs.declared.Shape.{Shape}
use Rattle.message.specs.declared.Shape.TheVariants.{Numbered, Quoted, Keyed, Bare}
use Rattle.message.proofs.FormLaws.{key-value}
use Rattle.message.proofs.Theorems.{said-info}
use Rattle.server_text.specs.Strings.{exact}
use Rattle.server_text.specs.Fields.{string_in, last_of, number_in, numbered, numbered_in}
use Rattle.server_text.specs.Fields.{value_in, keyed_in, bare_in, payload_in, suits}
use Rattle.server_text.proofs.NumberLaws.{number_in-decimal, SoundNumber, number-sound}
use Rattle.server_text.proofs.StringLaws.{SoundScan, exact-escapes, exact-sound}

-- ---- strings

pub string_in-field : (s r : Bytes) → string_in (field s ++ r) ≡ scanned s r
unfolding string_in quote
string_in-field s r = ap exact (append_assoc (escapes s) (34 ∷ []) r) ∙ exact-escapes s r

pub last_of-field : (s : Bytes) → last_of (string_in (field s)) ≡ some s
unfolding last_of string_in quote
last_of-field s = rw (exact-escapes s [])

-- ---- a key and a value

pub has_nul-key_of : (p : Bytes) → has_nul (key_of p) ≡ false
unfolding has_nul first_nul
has_nul-key_of [] = refl
has_nul-key_of (c ∷ p) = by (eqb c 0) refl (has_nul-key_of p)
  where
    by : (b : Bool) → eqb c 0 ≡ b → has_nul (key_of p) ≡ false
        → has_nul (take (cond b 0 (first_nul p + 1)) (c ∷ p)) ≡ false
    by true e h = refl
    by false e h = rw (add-one (first_nul p), e) h

value_in-field : (o : Option Bytes) → value_in (value_field o) ≡ some (value_tail o)
unfolding value_in value_field value_tail
value_in-field none = refl
value_in-field (some v) = rw (last_of-field v)

keyed-fields : (p : Bytes) → keyed_in (string_in (field (key_of p) ++ value_field (value_of p))) ≡ some p
unfolding keyed_in
keyed-fields p =
    rw (
      string_in-field (key_of p) (value_field (value_of p)),
      has_nul-key_of p,
      value_in-field (value_of p),
      key-value p,
    )

-- ---- a number

-- nothing, or what begins with a space
abbrev pub Spaced : Bytes → Type 0
Spaced [] = Unit {0}
Spaced (c ∷ s) = c ≡ 32

word_none : (f : Bytes) → Spaced f → (word f ≡ []) × (after_word f ≡ f)
unfolding word after_word
word_none [] h = (refl, refl)
word_none (c ∷ f) h = (rw (eq-eqb c 32 h), rw (eq-eqb c 32 h))

-- a word is read up to the space behind it
pub word-before : (w f : Bytes) → has 32 w ≡ false → Spaced f → (word (w ++ f) ≡ w) × (after_word (w ++ f) ≡ f)
unfolding word after_word has
word-before [] f h k = word_none f k
word-before (c ∷ w) f h k = by (eqb c 32) h (word-before w f)
  where
    by : (b : Bool) → (b || has 32 w) ≡ false
        → (has 32 w ≡ false → Spaced f → (word (w ++ f) ≡ w) × (after_word (w ++ f) ≡ f))
        → (cond b [] (c ∷ word (w ++ f)) ≡ c ∷ w) × (cond b (c ∷ w ++ f) (after_word (w ++ f)) ≡ f)
    by true h g = let z : ◌≡◌ {A = ℕ} 0 1 = cc in absurd (omega arith)
    by false h g = (ap (◌∷◌ c) (g h k).0, (g h k).1)

digit-plain : (n : ℕ) → eqb (48 + n) 32 ≡ false
digit-plain n = ne_eqb (48 + n) 32 (λ e. omega arith)

pub decimal-spaceless : (n : ℕ) → has 32 (decimal n) ≡ false
unfolding has decimal
decimal-spaceless n = by (ltb n 10) (ltb n 100)
  where
    by : (a b : Bool)
        → has 32 (cond a ((48 + n) ∷ []) (cond b ((48 + n / 10) ∷ (48 + n % 10) ∷ [])
        ((48 + n / 100) ∷ (48 + n / 10 % 10) ∷ (48 + n % 10) ∷ []))) ≡ false
    by true b = rw (digit-plain n)
    by false true = rw (digit-plain (n / 10), digit-plain (n % 10))
    by false false = rw (digit-plain (n / 100), digit-plain (n / 10 % 10), digit-plain (n % 10))

numbered-fields : (n : ℕ) (t : Bytes) → n < 256 → numbered_in (32 ∷ decimal n ++ field t) ≡ some (n ∷ t)
unfolding numbered_in numbered
numbered-fields n t h =
    let w = word-before (decimal n) (field t) (decimal-spaceless n) refl in
    rw (w.0, w.1, number_in-decimal n h, last_of-field t)

-- ---- complete

pub payload_in-fields : (sh : Shape) (p : Bytes) → suits sh p ≡ true → get_or p 0 0 < 256
    → payload_in sh (fields sh p) ≡ some p
unfolding payload_in fields number_fields suits bare_in
payload_in-fields Numbered [] e h = let z : ◌≡◌ {A = ℕ} 0 1 = cc in absurd (omega arith)
payload_in-fields Numbered (n ∷ t) e h = numbered-fields n t h
payload_in-fields Quoted p e h = last_of-field p
payload_in-fields Keyed p e h = keyed-fields p
payload_in-fields Bare [] e h = refl
payload_in-fields Bare (c ∷ p) e h = let z : ◌≡◌ {A = ℕ} 0 1 = cc in absurd (omega arith)

-- ---- sound

-- a space and a string that was read
abbrev SoundString : Bytes → Scan → Type 0
SoundString s malformed = Unit {0}
SoundString s (scanned v r) = s ≡ field v ++ r

string-sound : (s : Bytes) → SoundString s (string_in s)
unfolding string_in quote
string-sound [] = tt
string-sound (c ∷ []) = tt
string-sound (c ∷ d ∷ s) = by (eqb c 32) (eqb d 34) refl refl
  where
    scan : (x : Scan) → SoundScan s x → SoundString (32 ∷ 34 ∷ s) x
    scan malformed h = tt
    scan (scanned v r) h = rw (h, append_assoc (escapes v) (34 ∷ []) r)

    by : (a b : Bool) → eqb c 32 ≡ a → eqb d 34 ≡ b → SoundString (c ∷ d ∷ s) (cond (a && b) (exact s) malformed)
    by true true e f = rw (eqb-true c 32 e, eqb-true d 34 f) (scan (exact s) (exact-sound s))
    by true false e f = tt
    by false b e f = tt

-- a string that nothing follows
abbrev SoundLast : Bytes → Option Bytes → Type 0
SoundLast s none = Unit {0}
SoundLast s (some v) = s ≡ field v

last-sound : (s : Bytes) → SoundLast s (last_of (string_in s))
unfolding last_of
last-sound s = by (string_in s) (string-sound s)
  where
    by : (x : Scan) → SoundString s x → SoundLast s (last_of x)
    by malformed h = tt
    by (scanned v []) h = h ∙ append-nil (field v)
    by (scanned v (c ∷ r)) h = tt

-- what follows a key
abbrev SoundValue : Bytes → Option Bytes → Type 0
SoundValue r none = Unit {0}
SoundValue r (some w) = (o : Option Bytes) × ((r ≡ value_field o) × (w ≡ value_tail o))

value-sound : (r : Bytes) → SoundValue r (value_in r)
unfolding value_in value_field value_tail
value-sound [] = (none, (refl, refl))
value-sound (c ∷ s) = by (last_of (string_in (c ∷ s))) (last-sound (c ∷ s))
  where
    by : (x : Option Bytes) → SoundLast (c ∷ s) x → SoundValue (c ∷ s) (map (◌∷◌ 0) x)
    by none h = tt
    by (some v) h = (some v, (h, refl))

-- the fields of a shape
abbrev SoundFields : Shape → Bytes → Option Bytes → Type 0
SoundFields sh s none = Unit {0}
SoundFields sh s (some p) = (s ≡ fields sh p) × (suits sh p ≡ true)

keyed-sound : (s : Bytes) → SoundFields Keyed s (keyed_in (string_in s))
unfolding keyed_in fields said suits
keyed-sound s = by (string_in s) (string-sound s)
  where
    joined : (k : Bytes) (o : Option Bytes) → has_nul k ≡ false
        → (s ≡ field k ++ value_field o) → s ≡ fields Keyed (k ++ value_tail o)
    joined k o n h =
        let e : info (key_of (k ++ value_tail o)) (value_of (k ++ value_tail o)) ≡ info k o = said-info k o n in
        let e₁ : key_of (k ++ value_tail o) ≡ k = cc in
        let e₂ : value_of (k ++ value_tail o) ≡ o = cc in
        rw (e₁, e₂) h

    tail : (k r : Bytes) (x : Option Bytes) → has_nul k ≡ false → s ≡ field k ++ r → SoundValue r x
        → SoundFields Keyed s (map (◌++◌ k) x)
    tail k r none n h v = tt
    tail k r (some w) n h v = rw v.1.1 (joined k v.0 n (rw v.1.0 at h), refl)

    test : (k r : Bytes) (b : Bool) → has_nul k ≡ b → s ≡ field k ++ r
        → SoundFields Keyed s (cond b none (map (◌++◌ k) (value_in r)))
    test k r true n h = tt
    test k r false n h = tail k r (value_in r) n h (value-sound r)

    by : (x : Scan) → SoundString s x → SoundFields Keyed s (keyed_in x)
    by malformed h = tt
    by (scanned k r) h = test k r (has_nul k) refl h

pub word-after_word : (s : Bytes) → s ≡ word s ++ after_word s
unfolding word after_word
word-after_word [] = refl
word-after_word (c ∷ s) = by (eqb c 32) (word-after_word s)
  where
    by : (b : Bool) → s ≡ word s ++ after_word s
        → c ∷ s ≡ cond b [] (c ∷ word s) ++ cond b (c ∷ s) (after_word s)
    by true h = refl
    by false h = ap (◌∷◌ c) h

numbered-sound : (s : Bytes) → SoundFields Numbered s (numbered_in s)
unfolding numbered_in numbered fields number_fields suits
numbered-sound [] = tt
numbered-sound (c ∷ s) = test (eqb c 32) refl
  where
    made : (n : ℕ) (x : Option Bytes) → word s ≡ decimal n → SoundLast (after_word s) x
        → SoundFields Numbered (32 ∷ s) (map (◌∷◌ n) x)
    made n none e h = tt
    made n (some v) e h = (ap (◌∷◌ 32) (word-after_word s ∙ rw (e, h)), refl)

    by : (o : Option ℕ) → SoundNumber (word s) o → SoundFields Numbered (32 ∷ s) (numbered o (after_word s))
    by none h = tt
    by (some n) h = made n (last_of (string_in (after_word s))) h (last-sound (after_word s))

    test : (b : Bool) → eqb c 32 ≡ b
        → SoundFields Numbered (c ∷ s) (cond b (numbered (number_in (word s)) (after_word s)) none)
    test true e = rw (eqb-true c 32 e) (by (number_in (word s)) (number-sound (word s)))
    test false e = tt

bare-sound : (s : Bytes) → SoundFields Bare s (bare_in s)
unfolding bare_in fields suits
bare-sound [] = (refl, refl)
bare-sound (c ∷ s) = tt

quoted-sound : (s : Bytes) (x : Option Bytes) → SoundLast s x → SoundFields Quoted s x
unfolding fields suits
quoted-sound s none h = tt
quoted-sound s (some v) h = (h, refl)

fields-sound : (sh : Shape) (s : Bytes) → SoundFields sh s (payload_in sh s)
unfolding payload_in
fields-sound Numbered s = numbered-sound s
fields-sound Quoted s = quoted-sound s (last_of (string_in s)) (last-sound s)
fields-sound Keyed s = keyed-sound s
fields-sound Bare s = bare-sound s

module _ (sh : Shape) (s p : Bytes) (e : payload_in sh s ≡ some p) where
  pub fields-payload_in : s ≡ fields sh p
  fields-payload_in = (rw e at (fields-sound sh s)).0

  pub suits-payload_in : suits sh p ≡ true
  suits-payload_in = (rw e at (fields-sound sh s)).1
