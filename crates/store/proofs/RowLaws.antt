-- The laws of one row: what its test says, what of it is seen through the front of a list, and the row that is written.
use mathlib.Core.Path.{◌≡◌, sym, ap, ◌∙◌}
use mathlib.Core.List.{[], ◌∷◌, ◌++◌}
use mathlib.Core.Bool.{true, false, ◌&&◌}
use Prim.Native.Nat.{ℕ, suc, ◌+◌, ◌-◌, ◌≤◌, ◌<◌, min as least}
use native.Mathlib.Nat.{add-zero}
use native.Mathlib.Omega.{arith}
use borrow.Author.Tests.{leb-true, ltb-true, eqb-true, le-leb, lt-ltb, eq-eqb}
use lib.Dec.{leb, ltb, eqb}
use lib.ListN.{length, take, drop, get_or, set, length-append, length-take, length-drop}
use lib.Seq.{sets, take-suc, drop_at, get_or-take, get_or-drop, take_all, drop-drop}
use Rattle.octets.specs.Octets.{Bytes}
use Rattle.octets.specs.Part.{part}
use Rattle.octets.specs.Number.{number_at, big_endian}
use Rattle.octets.proofs.Laws.{sets-append}
use Rattle.octets.proofs.Parts.{part-take, part-add, length_part}
use Rattle.octets.proofs.Numbers.{number_at-take, number_at-drop, number_at-big_endian-append, length-big_endian}
use Rattle.model.proofs.Tests.{either, and_left, and_right}
use Rattle.store.specs.Row.{body_length, key_length, row_size, key_of, value_of, body_of, entry_of, row_fine, row_bytes}

-- ---- the test

pub record Sound (s : Bytes) : Type 0 where
  pub head : 8 ≤ length s
  pub key-within : key_length s < body_length s
  pub short : body_length s ≤ 65535
  pub whole : row_size s ≤ length s
  pub owner : get_or s 6 0 ≡ 0
  pub nul : get_or s (7 + key_length s) 0 ≡ 0

pub sound : (s : Bytes) → row_fine s ≡ true → Sound s
unfolding row_fine
sound s e =
    let e₁ = and_right (leb 8 (length s)) _ e in
    let e₂ = and_right (ltb (key_length s) (body_length s)) _ e₁ in
    let e₃ = and_right (leb (body_length s) 65535) _ e₂ in
    let e₄ = and_right (leb (row_size s) (length s)) _ e₃ in
    record {
      head = leb-true _ _ (and_left (leb 8 (length s)) _ e);
      key-within = ltb-true _ _ (and_left (ltb (key_length s) (body_length s)) _ e₁);
      short = leb-true _ _ (and_left (leb (body_length s) 65535) _ e₂);
      whole = leb-true _ _ (and_left (leb (row_size s) (length s)) _ e₃);
      owner = eqb-true _ _ (and_left (eqb (get_or s 6 0) 0) _ e₄);
      nul = eqb-true _ _ (and_right (eqb (get_or s 6 0) 0) _ e₄);
    }

pub sound-fine : (s : Bytes) → Sound s → row_fine s ≡ true
unfolding row_fine
sound-fine s h =
    rw (le-leb _ _ h.head, lt-ltb _ _ h.key-within, le-leb _ _ h.short, le-leb _ _ h.whole)
    (rw (eq-eqb _ _ h.owner, eq-eqb _ _ h.nul))

-- ---- parts of a row

module _ (s : Bytes) (h : Sound s) where
  pub length-key_of : length (key_of s) ≡ key_length s
  unfolding key_of
  length-key_of = let w = h.whole in let k = h.key-within in length_part s 7 (key_length s) (omega arith)

  pub length-value_of : 8 + key_length s + length (value_of s) ≡ row_size s
  unfolding value_of
  length-value_of =
      let w = h.whole in
      let k = h.key-within in
      let e = length_part s (8 + key_length s) (body_length s - (1 + key_length s)) (omega arith) in
      omega (arith, e)

  -- a row is as long as its entry charges
  pub row_size-charge : row_size s ≡ 8 + length (entry_of s).key + length (entry_of s).value
  unfolding entry_of
  row_size-charge = omega (arith, length-key_of, length-value_of)

  -- the body is key, NUL and value
  pub body_of-split : body_of s ≡ key_of s ++ (0 ∷ value_of s)
  unfolding body_of key_of value_of
  body_of-split =
      let w = h.whole in
      let k = h.key-within in
      let n = key_length s in
      let m = body_length s - (1 + n) in
      let e : body_length s ≡ n + (1 + m) = omega arith in
      let l : 0 < length (drop (7 + n) s) = rw length-drop (omega arith) in
      let b : get_or (drop (7 + n) s) 0 0 ≡ 0 = rw (get_or-drop (7 + n) s 0 0, add-zero (7 + n)) h.nul in
      let one : part s (7 + n) 1 ≡ 0 ∷ [] = rw (take-suc (drop (7 + n) s) 0 0 l, b) in
      let f : 7 + n + 1 ≡ 8 + n = omega arith in
      ap (part s 7) e
      ∙ part-add s 7 n (1 + m)
      ∙ ap (λ (l : Bytes). part s 7 n ++ l) (part-add s (7 + n) 1 m ∙ rw (one, f))

-- ---- a row seen through the front of a list

module _ (s : Bytes) (n : ℕ) (h : Sound s) (w : row_size s ≤ n) where
  body-take : body_length (take n s) ≡ body_length s
  body-take = let k = h.key-within in number_at-take 4 s 0 n (omega arith)

  key-take : key_length (take n s) ≡ key_length s
  key-take = let k = h.key-within in number_at-take 2 s 4 n (omega arith)

  key_of-take : key_of (take n s) ≡ key_of s
  unfolding key_of
  key_of-take = let k = h.key-within in rw key-take (part-take s 7 (key_length s) n (omega arith))

  value_of-take : value_of (take n s) ≡ value_of s
  unfolding value_of
  value_of-take =
      let k = h.key-within in
      rw (key-take, body-take) (part-take s (8 + key_length s) (body_length s - (1 + key_length s)) n (omega arith))

  pub entry_of-take : entry_of (take n s) ≡ entry_of s
  unfolding entry_of
  entry_of-take = rw (key_of-take, value_of-take)

  pub sound-take : Sound (take n s)
  sound-take =
      let k = h.key-within in
      let l = length-take n s in
      let w' = h.whole in
      record {
        head = omega (arith, h.head);
        key-within = rw (key-take, body-take) k;
        short = rw body-take h.short;
        whole = rw body-take (omega arith);
        owner = get_or-take n s 6 0 (omega arith) ∙ h.owner;
        nul = rw key-take (get_or-take n s (7 + key_length s) 0 (omega arith) ∙ h.nul);
      }

-- a row in the front of a list is one in the list
pub sound-front : (s : Bytes) (n : ℕ) → Sound (take n s) → Sound s × (row_size s ≤ n)
sound-front s n h =
    let l = length-take n s in
    let hd = h.head in
    let w = h.whole in
    let k = h.key-within in
    let eb : body_length (take n s) ≡ body_length s = number_at-take 4 s 0 n (omega arith) in
    let ek : key_length (take n s) ≡ key_length s = number_at-take 2 s 4 n (omega arith) in (
      record {
        head = omega arith;
        key-within = omega arith;
        short = omega (arith, h.short);
        whole = omega arith;
        owner = sym (get_or-take n s 6 0 (omega arith)) ∙ h.owner;
        nul = sym (get_or-take n s (7 + key_length s) 0 (omega arith)) ∙ (rw ek at h.nul);
      },
      omega arith,
    )

-- ---- the row that is written

module _ (n : ℕ) (p : Bytes) where
  pub length-row_bytes : length (row_bytes n p) ≡ 7 + length p
  unfolding row_bytes
  length-row_bytes = simp (length-append, length-big_endian) (omega arith)

  drop-four : drop 4 (row_bytes n p) ≡ big_endian 2 n ++ (0 ∷ p)
  unfolding row_bytes
  drop-four = drop_at (big_endian 4 (length p)) _ 4 (length-big_endian 4 (length p))

  drop-six : drop 6 (row_bytes n p) ≡ 0 ∷ p
  drop-six =
      sym (drop-drop 2 4 (row_bytes n p))
      ∙ ap (drop 2) drop-four
      ∙ drop_at (big_endian 2 n) (0 ∷ p) 2 (length-big_endian 2 n)

  drop-seven : drop 7 (row_bytes n p) ≡ p
  drop-seven = sym (drop-drop 1 6 (row_bytes n p)) ∙ ap (drop 1) drop-six

  module _ (h : length p ≤ 65535) (k : n < length p) (z : get_or p n 0 ≡ 0) where
    pub body-row_bytes : body_length (row_bytes n p) ≡ length p
    unfolding row_bytes
    body-row_bytes = number_at-big_endian-append 4 (length p) _ (omega arith)

    key-row_bytes : key_length (row_bytes n p) ≡ n
    key-row_bytes =
        sym (number_at-drop 2 (row_bytes n p) 4 0) ∙ rw drop-four (number_at-big_endian-append 2 n (0 ∷ p) (omega arith))

    pub sound-row_bytes : Sound (row_bytes n p)
    sound-row_bytes =
        let l = length-row_bytes in
        let eb = body-row_bytes in
        let ek = key-row_bytes in
        record {
          head = omega arith;
          key-within = omega arith;
          short = omega arith;
          whole = omega arith;
          owner = sym (get_or-drop 6 (row_bytes n p) 0 0) ∙ ap (λ (l : Bytes). get_or l 0 0) drop-six;
          nul = rw ek (sym (get_or-drop 7 (row_bytes n p) n 0) ∙ rw drop-seven z);
        }

    pub entry_of-row_bytes : entry_of (row_bytes n p) ≡ record { key = take n p; value = drop (n + 1) p }
    unfolding entry_of key_of value_of
    entry_of-row_bytes =
        let i : 8 + n ≡ 7 + (n + 1) = omega arith in
        let d : drop (8 + n) (row_bytes n p) ≡ drop (n + 1) p =
        rw (i, ← (drop-drop (n + 1) 7 (row_bytes n p)), drop-seven) in
        let a : take (length p - (1 + n)) (drop (n + 1) p) ≡ drop (n + 1) p =
        take_all (length p - (1 + n)) (drop (n + 1) p) (rw length-drop (omega arith)) in
        rw (key-row_bytes, body-row_bytes, drop-seven, d, a)

-- ---- a row at an index of a list

pub body_at : (s : Bytes) (i : ℕ) → body_length (drop i s) ≡ number_at 4 s i
body_at s i = number_at-drop 4 s i 0 ∙ ap (number_at 4 s) (add-zero i)

pub key-at : (s : Bytes) (i : ℕ) → key_length (drop i s) ≡ number_at 2 s (i + 4)
key-at s i = number_at-drop 2 s i 4

-- a row at an index, read in the list
pub ruleset row_tests = (body_at, key-at, length-drop, get_or-drop)

module _ (s : Bytes) (i : ℕ) where
  -- the row is within the list
  pub row_whole : row_fine (drop i s) ≡ true → i + (7 + number_at 4 s i) ≤ length s
  row_whole e =
      let w = (sound (drop i s) e).whole in
      omega (arith, length-drop i s, body_at s i)

  pub row_key : row_fine (drop i s) ≡ true → number_at 2 s (i + 4) < number_at 4 s i
  row_key e =
      let k = (sound (drop i s) e).key-within in
      omega (arith, body_at s i, key-at s i)

  -- the same, of a row that is tested
  pub row_room : row_fine (drop i s) ≡ true → (row_fine (drop i s) ≡ true) × (i + 8 ≤ length s)
  row_room e = (e, omega (arith, (sound (drop i s) e).head, length-drop i s))

  -- the parts, as code finds them
  pub key_of-at : key_of (drop i s) ≡ part s (i + 7) (number_at 2 s (i + 4))
  unfolding key_of
  key_of-at = rw (key-at s i, drop-drop 7 i s)

  pub body_of-at : body_of (drop i s) ≡ part s (i + 7) (number_at 4 s i)
  unfolding body_of
  body_of-at = rw (body_at s i, drop-drop 7 i s)

-- what a row at an index lets one know
pub ruleset row_parts = (row_room, row_whole, row_key, body_at, key_of-at, body_of-at)

-- the test, as numbers found in the list
pub row_fine-at : (s : Bytes) (i b k : ℕ) → b ≡ number_at 4 s i → k ≡ number_at 2 s (i + 4)
    → row_fine (drop i s)
    ≡ leb 8 (length s - i)
    && (ltb k b
    && (leb b 65535
    && (leb (7 + b) (length s - i)
    && (eqb (get_or s (i + 6) 0) 0
    && eqb (get_or s (i + 7 + k) 0) 0))))
unfolding row_fine
row_fine-at s i b k eb ek =
    let j : i + (7 + k) ≡ i + 7 + k = omega arith in
    rw (body_at s i, key-at s i, ← eb, ← ek, length-drop i s, get_or-drop i s 6 0, get_or-drop i s (7 + k) 0, j)

-- a body that is longer than the list, or than a body may be
pub row_fine-long : (s : Bytes) (i : ℕ) → least (length s - i - 7) 65535 < number_at 4 s i → row_fine (drop i s) ≡ false
row_fine-long s i h =
    either (row_fine (drop i s))
    (λ e. let t = (sound (drop i s) e).short in
    let w = row_whole s i e in
    let b = body_at s i in
    absurd (omega arith))
    (λ e. e)

-- ---- a row written part by part

pub sets-row_bytes : (s : Bytes) (i n : ℕ) (p : Bytes)
    → sets (set (sets (sets s i (big_endian 4 (length p))) (i + 4) (big_endian 2 n)) (i + 6) 0) (i + 7) p
    ≡ sets s i (row_bytes n p)
unfolding row_bytes
sets-row_bytes s i n p =
    let a = big_endian 4 (length p) in
    let b = big_endian 2 n in
    let ea : i + length a ≡ i + 4 = rw (length-big_endian 4 (length p)) in
    let eb : i + 4 + length b ≡ i + 6 = rw (length-big_endian 2 n) (omega arith) in
    let ec : i + 7 ≡ suc (i + 6) = omega arith in
    sym (rw (ea, sets-append (sets s i a) (i + 4) b (0 ∷ p), eb, ← ec) at (sets-append s i a (b ++ (0 ∷ p))))
