-- What comes next in a line, from a place on, and the payloads that follow from it.
use mathlib.Core.Path.{◌≡◌, refl, sym, ◌∙◌}
use mathlib.Core.List.{List, [], ◌∷◌, ◌++◌, append-nil}
use mathlib.Core.Bool.{Bool, true, false, cond}
use mathlib.Core.Option.{Option, none, some, map}
use Prim.Native.Nat.{ℕ, suc, ◌+◌, ◌-◌, ◌≤◌, ◌<◌}
use native.Mathlib.Numerals.{add-one}
use native.Mathlib.Omega.{arith}
use lib.Dec.{eqb}
use lib.ListN.{length, set, get_or, drop, take, length-append, length-drop}
use lib.Seq.{drop-cons, sets, length-take-le}
use borrow.Author.Tests.{ne_eqb, eqb-true, eqb-false}
use Rattle.std.proofs.Common.{None, Some, Result, Ok, Err}
use Rattle.std.proofs.Common as Code
use Rattle.std.specs.Option.{ok_or, unwrap_or}
use Rattle.octets.specs.Octets.{Bytes, has_nul}
use Rattle.octets.specs.Options.{in_code}
use Rattle.octets.proofs.Laws.{sets-append, set-sets}
use Rattle.text.specs.Fields.{trim, word, after_word, Scan, malformed, scanned, quoted, Field, plain, in_quotes}
use Rattle.text.specs.Fields.{bytes_of, Next, ended, faulty, field, of_scan, starting, next, followed, fields}
use Rattle.text.specs.Payload.{all_digits, number_from, by_count, not_one, not_two, the_field, keyed, version}
use Rattle.text.specs.Payload.{hello_payload}
use Rattle.text.specs.Payload.{one_payload, write_payload, ping_payload}
use Rattle.text.specs.Line.{made, payload_of}
use Rattle.text.specs.FieldPost.{Skipped, Spelled, is_ended, FoundAs, ScannedAs, LastAs, LastAt}
use Rattle.text.specs.PayloadPost.{VersionAs, BuildsAs, Fails, BuildsLine, has_field, has_version, value_payload}
use Rattle.text.specs.declared.fields.Malformed.{Malformed}
use Rattle.text.proofs.ScanLaws.{given_some, given_none}

-- ---- what comes next, from a place on

pub next-none : (s : Bytes) → trim s ≡ [] → next s ≡ ended
unfolding next starting
next-none s h = rw h

module _ {line : Bytes} {at i : ℕ} (k : Skipped line at i) where
  pub next-quoted : get_or line i 0 ≡ 34 → next (drop at line) ≡ of_scan (quoted (drop (i + 1) line))
  unfolding next starting
  next-quoted e = rw (k.is, add-one i, drop-cons line i 0 k.within, e)

  pub next-plain : {e : ℕ} → (get_or line i 0 ≡ 34 → ⊥) → Spelled line i e
      → next (drop at line) ≡ field (plain (take (e - i) (drop i line))) (drop e line)
  unfolding next starting
  next-plain {e} n w = rw (← w.is, ← w.rest, k.is, drop-cons line i 0 k.within, ne_eqb _ _ n)

  not-ended : (b : Bool) (q : Scan) (x : Field) (r : Bytes) → is_ended (cond b (of_scan q) (field x r)) ≡ false
  not-ended true malformed x r = refl
  not-ended true (scanned v t) x r = refl
  not-ended false q x r = refl

  pub next-some : is_ended (next (drop at line)) ≡ false
  unfolding next starting
  next-some =
      rw (k.is, drop-cons line i 0 k.within)
      (not-ended (eqb (get_or line i 0) 34) (quoted (drop (suc i) line))
      (plain (word (get_or line i 0 ∷ drop (suc i) line))) (after_word (get_or line i 0 ∷ drop (suc i) line)))

  -- ---- the next field, as it is read

  pub found-quoted : {n q : ℕ} {nul : Bool} {buf : Bytes} {to : ℕ} {buf' : Bytes} → get_or line i 0 ≡ 34
      → ScannedAs (quoted (drop (i + 1) line)) line (i + 1) n q nul buf to buf' → FoundAs line at n q nul buf to buf'
  found-quoted e s = record {
    value = in_quotes s.value;
    is = next-quoted e ∙ rw s.is;
    stored = s.stored;
    within = s.within;
    short = omega (arith, s.short, k.on);
  }

  pub found-bad : get_or line i 0 ≡ 34 → quoted (drop (i + 1) line) ≡ malformed → next (drop at line) ≡ faulty
  found-bad e s = next-quoted e ∙ rw s

  module _ {e : ℕ} (p : get_or line i 0 ≡ 34 → ⊥) (w : Spelled line i e) where
    pub found_plain : (buf : Bytes) (to : ℕ) (nul : Bool) (buf' : Bytes)
        → nul ≡ has_nul (take (e - i) (drop i line)) → buf' ≡ sets buf to (take (e - i) (drop i line))
        → FoundAs line at (length (take (e - i) (drop i line))) e nul buf to buf'
    found_plain buf to nul buf' g h =
        let on = w.place.on in
        let within = w.place.within in
        let b : e - i ≤ length (drop i line) = simp length-drop (omega arith) in
        record {
          value = plain (take (e - i) (drop i line));
          is = next-plain p w;
          stored = record { count = refl; nuls = g; held = h };
          within = within;
          short = omega (arith, k.on, length-take-le (e - i) (drop i line) b);
        }

-- ---- at most one field

no : {A : Type 0} → true ≡ false → A
no e = let z : ◌≡◌ {A = ℕ} 0 1 = cc in absurd (omega arith)

pub ended_is : (z : Next) → is_ended z ≡ true → z ≡ ended
ended_is ended l = refl
ended_is faulty l = no (sym l)
ended_is (field y q) l = no (sym l)

none-some : {A : Type 0} {B : Type 0} {v : B} → ◌≡◌ {A = Option B} none (some v) → A
none-some e = let z : ◌≡◌ {A = ℕ} 0 1 = cc in absurd (omega arith)

module _ (s : Bytes) where
  pub no-field : next s ≡ ended → fields 1 s ≡ some []
  unfolding fields
  no-field e = rw e

  pub bad-field : next s ≡ faulty → fields 1 s ≡ none
  unfolding fields
  bad-field e = rw e

  pub the-last : {x : Field} {r : Bytes} → next s ≡ field x r → is_ended (next r) ≡ true → fields 1 s ≡ some (x ∷ [])
  unfolding fields
  the-last {x} {r} e h = rw e (by (next r) h)
    where
      by : (z : Next) → is_ended z ≡ true → map (◌∷◌ x) (followed z (λ rest. none)) ≡ some (x ∷ [])
      by ended l = refl
      by faulty l = no (sym l)
      by (field y q) l = no (sym l)

  pub one-more : {x : Field} {r : Bytes} → next s ≡ field x r → is_ended (next r) ≡ false → fields 1 s ≡ none
  unfolding fields
  one-more {x} {r} e h = rw e (by (next r) h)
    where
      by : (z : Next) → is_ended z ≡ false → map (◌∷◌ x) (followed z (λ rest. none)) ≡ none
      by ended l = no l
      by faulty l = refl
      by (field y q) l = refl

  -- where a field is surplus or malformed, one comes
  one-comes : fields 1 s ≡ none → has_field (next s) ≡ true
  one-comes h = by (next s) refl
    where
      by : (z : Next) → next s ≡ z → has_field z ≡ true
      by ended e = none-some (sym h ∙ no-field e)
      by faulty e = refl
      by (field x r) e = refl

  -- two fields are as bad as more where one is too many
  at_most_one : (a : Option Bytes) (f : Field → Option Bytes)
      → payload_of (by_count a f not_two) s ≡ made (by_count a f not_two) (fields 1 s)
  unfolding payload_of fields by_count
  at_most_one a f = by (next s)
    where
      third : (x y : Field) (z : Next)
          → made (by_count a f not_two) (map (◌∷◌ x) (map (◌∷◌ y) (followed z (λ rest. none)))) ≡ none
      third x y ended = refl
      third x y faulty = refl
      third x y (field u t) = refl

      second : (x : Field) (z : Next) → made (by_count a f not_two) (map (◌∷◌ x) (followed z (fields 0)))
          ≡ made (by_count a f not_two) (map (◌∷◌ x) (followed z (λ rest. none)))
      second x ended = refl
      second x faulty = refl
      second x (field y q) = third x y (next q)

      by : (z : Next) → made (by_count a f not_two) (followed z (fields 1))
          ≡ made (by_count a f not_two) (followed z (fields 0))
      by ended = refl
      by faulty = refl
      by (field x r) = second x (next r)

-- the fields after the first
rest_of : (h : List Field → Option Bytes) (s : Bytes) {x : Field} {r : Bytes} → next s ≡ field x r
    → payload_of h s ≡ made h (map (◌∷◌ x) (fields 1 r))
unfolding payload_of fields
rest_of h s e = rw e

-- ---- what the functions build

-- no payload, where a byte can have been stored
fails : {p : Option Bytes} {stored : Bool} {buf buf' : Bytes} → p ≡ none → stored ≡ true → Fails p stored buf buf'
fails e h = record { is = e; same = λ q. no (sym h ∙ q) }

-- ---- BEGIN, COMMIT

pub none-built : (f : Field → Option Bytes) (g : Field → Field → Option Bytes) (s : Bytes) (most : ℕ) (buf : Bytes)
    → is_ended (next s) ≡ true → BuildsAs (payload_of (by_count (some []) f g) s) most buf 0 0 buf
unfolding payload_of fields by_count
none-built f g s most buf e = record
    { value = []; is = by (next s) e; count = refl; held = refl; short = omega arith }
  where
    by : (z : Next) → is_ended z ≡ true → made (by_count (some []) f g) (followed z (fields 1)) ≡ some []
    by ended l = refl
    by faulty l = no (sym l)
    by (field x r) l = no (sym l)

-- a field where none may be
pub none-bad : (a : Option Bytes) (s : Bytes) (buf : Bytes) → is_ended (next s) ≡ false
    → Fails (payload_of (by_count a not_one not_two) s) false buf buf
unfolding payload_of fields by_count
none-bad a s buf e = record { is = by (next s) e; same = λ q. refl }
  where
    more : (x : Field) (o : Option (List Field)) → made (by_count a not_one not_two) (map (◌∷◌ x) o) ≡ none
    more x none = refl
    more x (some []) = refl
    more x (some (y ∷ [])) = refl
    more x (some (y ∷ z ∷ t)) = refl

    by : (z : Next) → is_ended z ≡ false → made (by_count a not_one not_two) (followed z (fields 1)) ≡ none
    by ended l = no l
    by faulty l = refl
    by (field x r) l = more x (fields 1 r)

-- ---- SUB, UNSUB, READ, PING

module _ (line : Bytes) (at : ℕ) (buf buf' : Bytes) where
  pub one_fails : (a : Option Bytes) → fields 1 (drop at line) ≡ none
      → Fails (payload_of (by_count a the_field not_two) (drop at line)) (has_field (next (drop at line))) buf buf'
  one_fails a e = fails (at_most_one (drop at line) a the_field ∙ rw e) (one-comes (drop at line) e)

  one-is : (a : Option Bytes) {n : ℕ} (w : LastAs line at n buf 0 buf')
      → BuildsAs (payload_of (by_count a the_field not_two) (drop at line)) (length line + 1) buf 0 n buf'
  unfolding by_count
  one-is a w = record {
    value = bytes_of w.value;
    is = at_most_one (drop at line) a the_field ∙ rw w.is;
    count = w.count;
    held = w.held;
    short = omega (arith, w.short);
  }

  pub one-built : (o : Code.Option ℕ) (m : Malformed) → LastAt line at buf 0 (Ok o) buf'
      → BuildsLine one_payload has_field line at buf (ok_or o m) buf'
  unfolding by_count
  one-built None m w = record {
    is = at_most_one (drop at line) none the_field ∙ rw (no-field (drop at line) w.0);
    same = λ e. w.1;
  }
  one-built (Some n) m w = one-is none w

  pub ping-built : (o : Code.Option ℕ) → LastAt line at buf 0 (Ok o) buf'
      → BuildsLine ping_payload has_field line at buf (Ok (unwrap_or o 0)) buf'
  unfolding by_count
  ping-built None w = record {
    value = [];
    is = at_most_one (drop at line) (some []) the_field ∙ rw (no-field (drop at line) w.0);
    count = refl;
    held = w.1;
    short = omega arith;
  }
  ping-built (Some n) w = one-is (some []) w

-- ---- WRITE: what follows the key

pub value_none : (s : Bytes) (most : ℕ) (buf : Bytes) (len : ℕ) (buf' : Bytes) → next s ≡ ended → buf' ≡ buf
    → BuildsAs (made value_payload (fields 1 s)) most buf len 0 buf'
unfolding by_count
value_none s most buf len buf' e k = record
    { value = []; is = rw (no-field s e); count = refl; held = k; short = omega arith }

pub value-bad : (s : Bytes) {buf buf' : Bytes} → fields 1 s ≡ none
    → Fails (made value_payload (fields 1 s)) true buf buf'
value-bad s e = fails (rw e) refl

pub value-built : (len : ℕ) {line : Bytes} {at n : ℕ} {buf buf' : Bytes} (w : LastAs line at n buf (len + 1) buf')
    (buf'' : Bytes) → buf'' ≡ set buf' len 0
    → BuildsAs (made value_payload (fields 1 (drop at line))) (length line + 1 - at) buf len (1 + n) buf''
unfolding by_count
value-built len {line} {at} {n} {buf} w buf'' e =
    let k : len < len + 1 = omega arith in
    record {
      value = 0 ∷ bytes_of w.value;
      is = rw w.is;
      count = omega (arith, w.count);
      held = e ∙ rw (w.held, set-sets buf len (len + 1) 0 (bytes_of w.value) k, add-one len);
      short = omega (arith, w.short);
    }

-- ---- WRITE: a key x, and o, the fields after it

module _ (x : Field) where
  abbrev written : Option (List Field) → Option Bytes
  written o = made write_payload (map (◌∷◌ x) o)

  nul-key : (o : Option (List Field)) → has_nul (bytes_of x) ≡ true → written o ≡ none
  unfolding by_count keyed
  nul-key none h = refl
  nul-key (some []) h = rw h
  nul-key (some (v ∷ [])) h = rw h
  nul-key (some (v ∷ u ∷ t)) h = refl

  good-key : (o : Option (List Field)) (val : Bytes) → has_nul (bytes_of x) ≡ false → made value_payload o ≡ some val
      → written o ≡ some (bytes_of x ++ val)
  unfolding by_count keyed
  good-key none val h e = none-some e
  good-key (some []) val h e = let f : val ≡ [] = cc in rw (h, f, append-nil)
  good-key (some (v ∷ [])) val h e = let f : val ≡ 0 ∷ bytes_of v = cc in rw (h, f)
  good-key (some (v ∷ u ∷ [])) val h e = none-some e
  good-key (some (v ∷ u ∷ z ∷ t)) val h e = none-some e

  bad-rest : (o : Option (List Field)) → made value_payload o ≡ none → written o ≡ none
  unfolding by_count
  bad-rest none e = refl
  bad-rest (some []) e = none-some (sym e)
  bad-rest (some (v ∷ [])) e = none-some (sym e)
  bad-rest (some (v ∷ u ∷ t)) e = refl

pub write-missing : (s : Bytes) (buf buf' : Bytes) → next s ≡ ended → buf' ≡ buf
    → Fails (payload_of write_payload s) (has_field (next s)) buf buf'
unfolding payload_of fields by_count
write-missing s buf buf' e k = record { is = rw e; same = λ q. k }

pub write-faulty : (s : Bytes) {buf buf' : Bytes} → next s ≡ faulty
    → Fails (payload_of write_payload s) (has_field (next s)) buf buf'
unfolding payload_of fields
write-faulty s e = fails (rw e) (rw e)

module _ {line : Bytes} {at n r : ℕ} {nul : Bool} {buf buf' : Bytes} (w : FoundAs line at n r nul buf 0 buf') where
  pub write-nul : nul ≡ true
      → Fails (payload_of write_payload (drop at line)) (has_field (next (drop at line))) buf buf'
  write-nul e =
      fails
      (rest_of write_payload (drop at line) w.is
      ∙ nul-key w.value (fields 1 (drop r line)) (sym w.stored.nuls ∙ e))
      (rw w.is)

  pub write-built : {m : ℕ} {buf'' : Bytes} → nul ≡ false
      → BuildsAs (made value_payload (fields 1 (drop r line))) (length line + 1 - r) buf' n m buf''
      → BuildsAs (payload_of write_payload (drop at line)) (length line + 1) buf 0 (n + m) buf''
  write-built e v = let z : 0 + n ≡ n = omega arith in record {
    value = bytes_of w.value ++ v.value;
    is = rest_of write_payload (drop at line) w.is ∙ good-key w.value (fields 1 (drop r line)) v.value
        (sym w.stored.nuls ∙ e) v.is;
    count = rw (length-append, w.stored.count, v.count);
    held = rw (v.held, w.stored.held, sets-append, w.stored.count, z);
    short = omega (arith, w.short, w.within, v.short);
  }

  pub write-bad : {buf'' : Bytes} → Fails (made value_payload (fields 1 (drop r line))) true buf' buf''
      → Fails (payload_of write_payload (drop at line)) (has_field (next (drop at line))) buf buf''
  write-bad v =
      fails (rest_of write_payload (drop at line) w.is ∙ bad-rest w.value (fields 1 (drop r line)) v.is)
      (rw w.is)

-- ---- HELLO

bad-version : (x : Field) (o : Option (List Field)) → version x ≡ none
    → made hello_payload (map (◌∷◌ x) o) ≡ none
unfolding by_count
bad-version x none e = refl
bad-version x (some []) e = rw e
bad-version x (some (t ∷ [])) e = rw e
bad-version x (some (t ∷ u ∷ v)) e = refl

pub hello-bad : (s : Bytes) (x : Field) (r : Bytes) → next s ≡ field x r → version x ≡ none
    → payload_of hello_payload s ≡ none
hello-bad s x r e h = rest_of hello_payload s e ∙ bad-version x (fields 1 r) h

pub hello-quoted : (s : Bytes) (q : Scan) → next s ≡ of_scan q → payload_of hello_payload s ≡ none
unfolding version payload_of fields
hello-quoted s malformed e = rw e
hello-quoted s (scanned v r) e = hello-bad s (in_quotes v) r e refl

pub hello-none : (s : Bytes) (most : ℕ) (buf buf' : Bytes) → 1 ≤ most → next s ≡ ended → buf' ≡ set buf 0 0
    → BuildsAs (payload_of hello_payload s) most buf 0 1 buf'
unfolding payload_of fields by_count
hello-none s most buf buf' m e k = record
    { value = 0 ∷ []; is = rw e; count = refl; held = k; short = m }

module _ {line : Bytes} {at v r : ℕ} (w : VersionAs line at v r) (buf buf' : Bytes) (k : buf' ≡ set buf 0 v)
    (buf'' : Bytes) where
  version-stored : has_version (next (drop at line)) ≡ true
  version-stored = rw (w.is, w.number)

  pub hello-fault : fields 1 (drop r line) ≡ none
      → Fails (payload_of hello_payload (drop at line)) (has_version (next (drop at line))) buf buf''
  hello-fault e = fails (rest_of hello_payload (drop at line) w.is ∙ rw e) version-stored

  pub hello-built : (o : Code.Option ℕ) → LastAt line r buf' 1 (Ok o) buf''
      → BuildsAs (payload_of hello_payload (drop at line)) (length line + 1) buf 0 (1 + unwrap_or o 0) buf''
  unfolding by_count
  hello-built None t = record {
    value = v ∷ [];
    is = rest_of hello_payload (drop at line) w.is ∙ rw (no-field (drop r line) t.0, w.number);
    count = refl;
    held = t.1 ∙ k;
    short = omega arith;
  }
  hello-built (Some n) t = record {
    value = v ∷ bytes_of t.value;
    is = rest_of hello_payload (drop at line) w.is ∙ rw (t.is, w.number);
    count = omega (arith, t.count);
    held = t.held ∙ rw k;
    short = omega (arith, t.short);
  }

-- ---- HELLO's version, as it is read

-- a quote is no digit
quote-number : {line : Bytes} {i e : ℕ} (w : Spelled line i e) → i < length line → get_or line i 0 ≡ 34
    → number_from 0 (take (e - i) (drop i line)) ≡ none
unfolding word number_from all_digits
quote-number {line} {i} w h e = rw (← w.is, drop-cons line i 0 h, e)

module _ {line : Bytes} {at i e : ℕ} (k : Skipped line at i) (w : Spelled line i e) where
  abbrev spelled : Option ℕ
  spelled = number_from 0 (take (e - i) (drop i line))

  pub version-read : (v : ℕ) → in_code spelled ≡ Some v → VersionAs line at v e
  unfolding version
  version-read v f = record {
    value = plain (take (e - i) (drop i line));
    is = next-plain k (λ q. none-some (sym (quote-number w k.within q) ∙ given_some spelled v f)) w;
    number = given_some spelled v f;
    within = w.place.within;
  }

  pub version-bad : in_code spelled ≡ None → payload_of hello_payload (drop at line) ≡ none
  unfolding version
  version-bad f = by (eqb (get_or line i 0) 34) refl
    where
      by : (b : Bool) → eqb (get_or line i 0) 34 ≡ b → payload_of hello_payload (drop at line) ≡ none
      by true q = hello-quoted (drop at line) (quoted (drop (i + 1) line)) (next-quoted k (eqb-true _ _ q))
      by false q =
          hello-bad (drop at line) (plain (take (e - i) (drop i line))) (drop e line)
          (next-plain k (eqb-false _ _ q) w) (given_none spelled f)
