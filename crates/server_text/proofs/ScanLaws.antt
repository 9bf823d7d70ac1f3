-- What stands at a place of a string, by the byte there, and runs of bytes that stand raw.
use mathlib.Core.Path.{◌≡◌, refl, sym, ap, ◌∙◌}
use mathlib.Core.List.{[], ◌∷◌, ◌++◌, append_assoc}
use mathlib.Core.Bool.{Bool, true, false, cond, not, ◌||◌}
use mathlib.Core.Option.{Option, some}
use Prim.Native.Nat.{ℕ, suc, ◌+◌, ◌-◌, ◌≤◌, ◌<◌}
use native.Mathlib.Numerals.{add-one}
use native.Mathlib.Omega.{arith}
use lib.Dec.{eqb}
use lib.ListN.{length, get_or, take, drop, drop_of_length-le, length-drop, take-append-drop, length-append}
use lib.Seq.{drop-cons, drop-drop, get_or-drop, length-take-le, take-add, take-append_seam, drop-append_seam}
use borrow.Author.Tests.{eq-eqb, ne_eqb}
use Rattle.std.proofs.Common.{None, Some}
use Rattle.std.specs.Option.{unwrap_or}
use Rattle.std.specs.List.{position, position_or_len}
use Rattle.std.proofs.lemmas.List.Sums.{prefix_len-le-length, passes_at_first}
use Rattle.octets.specs.Octets.{Bytes, has_nul}
use Rattle.octets.specs.Options.{in_code}
use Rattle.octets.proofs.Laws.{sets-append}
use Rattle.octets.proofs.Nul.{has_nul-append}
use Rattle.text.specs.Fields.{octal, Scan, malformed, scanned, onto}
use Rattle.text.specs.FieldPost.{Place}
use Rattle.text.proofs.ScanLaws.{ahead, four, tail-byte, behind, position-or, given_some, given_none, Scanning}
use Rattle.message.specs.Quoting.{is_escaped, escaped}
use Rattle.message.proofs.Laws.{escaped-append}
use Rattle.server_text.specs.Strings.{escaped_only, exact, exact_escape}
use Rattle.server_text.specs.Promises.{RawTo, CopiedTo}
use Rattle.server_text.proofs.StringLaws.{exact-raw-run}

-- ---- by the byte at a place

module _ (s : Bytes) (i : ℕ) where
  pub exact-end : length s ≤ i → exact (drop i s) ≡ malformed
  unfolding exact
  exact-end h = rw drop_of_length-le

  pub exact-close : i < length s → get_or s i 0 ≡ 34 → exact (drop i s) ≡ scanned [] (drop (i + 1) s)
  unfolding exact
  exact-close h e = rw (add-one i, drop-cons s i 0 h, eq-eqb _ _ e)

  -- a byte that is neither the closing mark nor a backslash and may not stand raw
  pub exact-fault : i < length s → (get_or s i 0 ≡ 34 → ⊥) → (get_or s i 0 ≡ 92 → ⊥) → is_escaped (get_or s i 0) ≡ true
      → exact (drop i s) ≡ malformed
  unfolding exact
  exact-fault h e f g = rw (drop-cons s i 0 h, ne_eqb _ _ e, ne_eqb _ _ f, g)

  -- what three digits behind a backslash spell
  abbrev read_octal : Option ℕ
  read_octal = octal (behind s i 0) (behind s i 1) (behind s i 2)

  module _ (h : i + 3 < length s) (e : get_or s i 0 ≡ 92) where
    escape-on : exact (drop i s) ≡ onto (escaped_only read_octal) (exact (drop (i + 4) s))
    unfolding exact exact_escape
    escape-on =
        rw (
          four s i h,
          e,
          tail-byte s (i + 1) 0 (i + 1) (omega arith),
          tail-byte s (i + 1) 1 (i + 2) (omega arith),
          tail-byte s (i + 1) 2 (i + 3) (omega arith),
        )

    pub escape-byte : (b : ℕ) → in_code read_octal ≡ Some b → true ≡ is_escaped b
        → exact (drop i s) ≡ onto (some b) (exact (drop (i + 4) s))
    unfolding escaped_only
    escape-byte b f g = escape-on ∙ rw (given_some read_octal b f, ← g)

    pub escape-plain : (b : ℕ) → in_code read_octal ≡ Some b → false ≡ is_escaped b → exact (drop i s) ≡ malformed
    unfolding escaped_only onto
    escape-plain b f g = escape-on ∙ rw (given_some read_octal b f, ← g)

    pub escape-bad : in_code read_octal ≡ None → exact (drop i s) ≡ malformed
    unfolding escaped_only onto
    escape-bad f = escape-on ∙ rw (given_none read_octal f)

-- fewer than three bytes after a backslash
short_escape : (t : Bytes) → length t < 3 → exact_escape t ≡ malformed
unfolding exact_escape
short_escape [] h = refl
short_escape (a ∷ []) h = refl
short_escape (a ∷ b ∷ []) h = refl
short_escape (a ∷ b ∷ c ∷ t) h = absurd (omega arith)

pub escape-short : (s : Bytes) (i : ℕ) → i < length s → get_or s i 0 ≡ 92 → length s - i < 4
    → exact (drop i s) ≡ malformed
unfolding exact
escape-short s i h e l =
    let k : length (drop (suc i) s) < 3 = simp length-drop (omega arith) in
    rw (drop-cons s i 0 h, e) (short_escape (drop (suc i) s) k)

-- what stands at a mark, for the tactics
pub ruleset marks = (exact-close, exact-fault, escape-short, escape-byte, escape-plain, escape-bad)

-- ---- bytes that stand raw

-- no byte from `at` to i is one that a string escapes
pub record Raw (line : Bytes) (at i : ℕ) : Type 0 where
  pub place : Place line at i
  pub raw : escaped (take (i - at) (drop at line)) ≡ 0

pub raw-start : (line : Bytes) (at : ℕ) → at ≤ length line → Raw line at at
unfolding escaped
raw-start line at h =
    let e : at - at ≡ 0 = omega arith in
    record { place = record { on = omega arith; within = h }; raw = rw e }

module _ {line : Bytes} {at i : ℕ} (w : Raw line at i) where
  -- n bytes more
  pub raw-more : (n : ℕ) → i + n ≤ length line → escaped (take n (drop i line)) ≡ 0 → Raw line at (i + n)
  raw-more n h e =
      let p = w.place in
      let b : at + (i - at) ≡ i = omega (arith, p.on) in
      let k : i + n - at ≡ (i - at) + n = omega (arith, p.on) in
      let d : drop (i - at) (drop at line) ≡ drop i line = drop-drop (i - at) at line ∙ rw b in
      record {
        place = record { on = omega (arith, p.on); within = h };
        raw = rw (
          k,
          take-add (i - at) n (drop at line),
          escaped-append (take (i - at) (drop at line)) (take n (drop (i - at) (drop at line))),
          w.raw,
          d,
          e,
        );
      }

  -- a block of 32 bytes more, and what stands behind it
  pub raw-block : (x rest : Bytes) → drop i line ≡ x ++ rest → length x ≡ 32 → escaped x ≡ 0
      → (rest ≡ drop (i + 32) line) × Raw line at (i + 32)
  raw-block x rest e n z =
      let l : length line - i ≡ 32 + length rest = simp (length-drop, length-append, n) at (ap length e) in
      let front : take 32 (drop i line) ≡ x = rw (e, ← n) (take-append_seam x rest) in
      let back : drop 32 (drop i line) ≡ rest = rw (e, ← n) (drop-append_seam x rest) in
      (sym back ∙ drop-drop 32 i line, raw-more 32 (omega arith) (rw front z))

  pub raw-on : i < length line → is_escaped (get_or line i 0) ≡ false → Raw line at (i + 1)
  unfolding escaped
  raw-on h e = raw-more 1 (omega arith) (rw (drop-cons line i 0 h, e))

  pub raw-stop : is_escaped (get_or line i 0) ≡ true → RawTo line at i
  raw-stop e = record { place = w.place; raw = w.raw; ends = λ h. e }

  pub raw-all : length line ≤ i → RawTo line at i
  raw-all h = record { place = w.place; raw = w.raw; ends = λ k. absurd (omega arith) }

  -- what is looked for from i on is looked for from `at` on
  pub raw-then : {r : ℕ} → RawTo line i r → RawTo line at r
  raw-then {r} v =
      let p = v.place in
      let e : i + (r - i) ≡ r = omega (arith, p.on) in
      let u = raw-more (r - i) (omega (arith, p.on, p.within)) v.raw in
      record {
        place = record { on = omega (arith, p.on, w.place.on); within = p.within };
        raw = rw e at u.raw;
        ends = v.ends;
      }

raw-position : (s : Bytes) → escaped (take (position_or_len is_escaped s) s) ≡ 0
unfolding escaped
raw-position [] = refl
raw-position (c ∷ s) = by (is_escaped c) refl (raw-position s)
  where
    by : (b : Bool) → is_escaped c ≡ b → escaped (take (position_or_len is_escaped s) s) ≡ 0
        → escaped (take (cond (not b) (1 + position_or_len is_escaped s) 0) (c ∷ s)) ≡ 0
    by true e h = refl
    by false e h =
        let f : 1 + position_or_len is_escaped s ≡ suc (position_or_len is_escaped s) = omega arith in
        rw (f, e) (omega arith)

-- the first byte that may not stand raw, as a place of the line
pub raws : (line : Bytes) (at r : ℕ) → at ≤ length line
    → r ≡ at + unwrap_or (position is_escaped (drop at line)) (length (drop at line)) → RawTo line at r
raws line at r h e =
    by (position_or_len is_escaped (drop at line)) (prefix_len-le-length _ (drop at line))
    (raw-position (drop at line)) (passes_at_first is_escaped (drop at line) 0)
    (e ∙ ap (◌+◌ at) (position-or is_escaped (drop at line)))
  where
    by : (n : ℕ) → n ≤ length (drop at line) → escaped (take n (drop at line)) ≡ 0
        → (n < length (drop at line) → is_escaped (get_or (drop at line) n 0) ≡ true) → r ≡ at + n → RawTo line at r
    by n l f g k =
        let m = simp length-drop at l in
        let d : r - at ≡ n = omega arith in
        record {
          place = record { on = omega arith; within = omega arith };
          raw = rw d f;
          ends = λ q. let b : n < length (drop at line) = simp length-drop (omega arith) in
              rw k (rw get_or-drop at (g b));
        }

nul-escaped : (c : ℕ) → eqb c 0 ≡ true → is_escaped c ≡ true
unfolding is_escaped
nul-escaped c e = rw e

-- what stands raw holds no NUL
clean : (v : Bytes) → escaped v ≡ 0 → has_nul v ≡ false
unfolding escaped has_nul
clean [] h = refl
clean (c ∷ v) h = by (eqb c 0) (is_escaped c) refl refl h (clean v)
  where
    by : (z b : Bool) → eqb c 0 ≡ z → is_escaped c ≡ b → cond b 1 0 + escaped v ≡ 0 → (escaped v ≡ 0
        → has_nul v ≡ false)
        → (z || has_nul v) ≡ false
    by z true e f h g = absurd (omega arith)
    by true false e f h g = let q : ◌≡◌ {A = ℕ} 0 1 = cc (nul-escaped c e) in absurd (omega arith)
    by false false e f h g = g (omega arith)

-- ---- a turn of the loop: a run that is copied

ahead-ahead : (u v : Bytes) (x : Scan) → ahead u (ahead v x) ≡ ahead (u ++ v) x
unfolding ahead
ahead-ahead u v malformed = refl
ahead-ahead u v (scanned w r) = rw append_assoc

or-false : (b : Bool) → (b || false) ≡ b
or-false true = refl
or-false false = refl

module _ {line : Bytes} {at : ℕ} {buf : Bytes} {to : ℕ} {buf' : Bytes} {i n : ℕ} {nul : Bool}
    (w : Scanning exact line at buf to buf' i n nul) where
  -- the bytes that stand raw
  pub scan-raw : {e : ℕ} {buf'' : Bytes} → CopiedTo line i e buf' (to + n) buf''
      → Scanning exact line at buf to buf'' e (n + (e - i)) nul
  scan-raw {e} {buf''} q =
      let p = q.run.place in
      let v : Bytes = take (e - i) (drop i line) in
      let b : i + (e - i) ≡ e = omega (arith, p.on) in
      let d : drop i line ≡ v ++ drop e line =
      sym (take-append-drop (e - i) (drop i line)) ∙ rw (drop-drop (e - i) i line, b) in
      let l : length v ≡ e - i =
      length-take-le (e - i) (drop i line) (rw length-drop (omega (arith, p.within, p.on))) in
      let s = w.stored in
      record {
        done = w.done ++ v;
        is = w.is
            ∙ ap (ahead w.done) (ap exact d ∙ exact-raw-run v (drop e line) q.run.raw)
            ∙ ahead-ahead w.done v (exact (drop e line));
        stored = record {
          count = rw (length-append, l, s.count);
          nuls = s.nuls ∙ sym (rw (has_nul-append w.done v, clean v q.run.raw) (or-false (has_nul w.done)));
          held = q.held ∙ rw (s.held, ← s.count) (sym (sets-append buf to w.done v));
        };
        within = p.within;
        short = omega (arith, w.short, p.on);
      }
