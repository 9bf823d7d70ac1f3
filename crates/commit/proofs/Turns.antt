-- A WRITE tried out: the tally that the exchange of its row gives is that of the store after the WRITE.
use mathlib.Core.Path.{◌≡◌, refl, sym, ap, ◌∙◌}
use mathlib.Core.List.{List, [], ◌∷◌, ◌++◌, append-nil}
use mathlib.Core.Bool.{true, cond, ◌&&◌}
use mathlib.Core.Option.{Option as Maybe, some, none}
use Prim.Native.Nat.{ℕ, ◌+◌, ◌-◌, ◌≤◌, ◌<◌}
use native.Mathlib.Omega.{arith}
use lib.Dec.{leb}
use lib.ListN.{length, take, drop, length-append}
use lib.Seq.{length-take-le}
use borrow.Author.Tests.{leb-true}
use Rattle.std.proofs.Common.{Option, None, Some}
use Rattle.octets.specs.Octets.{Bytes}
use Rattle.protocol.specs.Terms.{Action, payload, value_tail}
use Rattle.model.specs.Store.{Store, lookup, store_after_write, store_charge, store_fits}
use Rattle.model.specs.Step.{store_after, patterns_after, refuses}
use Rattle.model.specs.Turn.{found_or, last_write, value_at_turn}
use Rattle.model.specs.Invariant.{Ascending}
use Rattle.model.proofs.Tests.{and_left, and_right, either}
use Rattle.model.proofs.Charges.{value_charge, value_count, store_after_write-differs}
use Rattle.recording.specs.Encoding.{value_behind, write_from}
use Rattle.recording.specs.Turn.{last_body}
use Rattle.recording.proofs.Bodies.{payload_for, last_body-last_write}
use Rattle.command.specs.declared.Written.{Written}
use Rattle.command.specs.declared.Written.TheVariants.{Delete, Value}
use Rattle.command.specs.Commands.{Splits}
use Rattle.command.proofs.Laws.{Behind, splits-behind}
use Rattle.store.specs.Operation.{charge, body, row_count}
use Rattle.store.proofs.Split.{row_count-some}
use Rattle.commit.specs.declared.Tally.{Tally}
use Rattle.commit.specs.Tally.{written_size, body_size, TallyOf, less, more, Exchangeable}
use Rattle.commit.specs.Promises.{WriteTaken}
use Rattle.commit.proofs.Parts.{splits-within, written_size-charge, written_size-le}
use Rattle.commit.proofs.Numbers.{body_size-some, more-less}

-- ---- what the look-up gives

-- The body that a turn finds, by what the last WRITE of the key left (o) and by what the store has for it (v): one that
-- is no longer than the key gives no value, and one that is longer is key, NUL and value.
module _ (k : Bytes) where
  longer : (v : Bytes) → length k < length (k ++ 0 ∷ v)
  longer v = rw length-append (omega arith)

  found_none : (o : Maybe (Maybe Bytes)) (v : Maybe Bytes) → length (found_or (payload_for k o) (body k v)) ≤ length k
      → [] ≡ body k (found_or o v)
  unfolding body payload value_tail
  found_none none none h = refl
  found_none none (some x) h = absurd (omega (arith, longer x))
  found_none (some none) v h = refl
  found_none (some (some x)) v h = absurd (omega (arith, longer x))

  found-value : (o : Maybe (Maybe Bytes)) (v : Maybe Bytes) → length k < length (found_or (payload_for k o) (body k v))
      → found_or (payload_for k o) (body k v) ≡ body k (found_or o v)
  unfolding body payload value_tail
  found-value none v h = refl
  found-value (some none) v h = let e = ap length (append-nil k) in absurd (omega arith)
  found-value (some (some x)) v h = refl

module _ (k : Bytes) (xs : List Action) (s : Store) {stored b : Bytes} (f : stored ≡ body k (lookup k s))
    (e : b ≡ found_or (last_body k xs) stored) where
  by-last_write : b ≡ found_or (payload_for k (last_write k xs)) (body k (lookup k s))
  by-last_write = e ∙ rw (f, last_body-last_write k xs)

  pub turn-none : length b ≤ length k → [] ≡ body k (value_at_turn k xs s)
  unfolding value_at_turn
  turn-none h = found_none k (last_write k xs) (lookup k s) (rw by-last_write at h)

  pub turn-value : length k < length b → b ≡ body k (value_at_turn k xs s)
  unfolding value_at_turn
  turn-value h = by-last_write ∙ found-value k (last_write k xs) (lookup k s) (rw by-last_write at h)

-- ---- the rows of a key

-- what a key charges is the size of its row, and whether it is there is the number of rows
charge-value : (k : Bytes) (o : Maybe Bytes) → charge k o ≡ value_charge k o
unfolding charge value_charge
charge-value k none = refl
charge-value k (some v) = refl

count-value : (k : Bytes) (o : Maybe Bytes) → row_count (charge k o) ≡ value_count o
unfolding charge value_count
count-value k none = refl
count-value k (some v) = row_count-some (8 + length k + length v) (omega arith)

-- the size of a row by the body that a key has
body_size-body : (k : Bytes) (o : Maybe Bytes) → body_size (length (body k o)) ≡ charge k o
unfolding body charge
body_size-body k none = refl
body_size-body k (some v) =
    let l : length (k ++ 0 ∷ v) ≡ length k + (1 + length v) = rw length-append (omega arith) in
    sym (body_size-some (length (k ++ 0 ∷ v)) (omega arith)) ∙ omega arith

-- ---- the tally of a WRITE

-- t is the tally of the store s; a WRITE's payload p has a key of n bytes and w behind it, and b is the body that the
-- store has for the key
pub record AtTurn (S : ℕ) (s : Store) (t : Tally) (p b : Bytes) (n : ℕ) (w : Written) : Type 0 where
  pub ascending : Ascending s
  pub tally : TallyOf S s t
  pub parts : Splits p n w
  pub found : b ≡ body (take n p) (lookup (take n p) s)

module _ {S : ℕ} {s : Store} {t : Tally} {p b : Bytes} {n : ℕ} {w : Written} (g : AtTurn S s t p b n w) where
  abbrev key : Bytes
  key = take n p

  abbrev value : Maybe Bytes
  value = value_behind (drop n p)

  -- the sizes of the key's row before and after
  abbrev old : ℕ
  old = body_size (length b)

  abbrev new : ℕ
  new = written_size n w

  old-size : old ≡ charge key (lookup key s)
  old-size = ap (λ (x : Bytes). body_size (length x)) g.found ∙ body_size-body key (lookup key s)

  new-size : new ≡ charge key value
  new-size = written_size-charge g.parts

  row-charge : {j : ℕ} (o : Maybe Bytes) → j ≡ charge key o → j ≡ value_charge key o
  row-charge o e = e ∙ charge-value key o

  row_count-lookup : {j : ℕ} (o : Maybe Bytes) → j ≡ charge key o → row_count j ≡ value_count o
  row_count-lookup o e = ap row_count e ∙ count-value key o

  -- the old row is one that the tally counts
  old-charge : old ≤ t.used
  unfolding value_charge
  old-charge =
      let x = (store_after_write-differs key none s g.ascending).charge in
      omega (arith, row-charge (lookup key s) old-size, g.tally.used)

  old-count : row_count old ≤ t.count
  unfolding value_count
  old-count =
      let y = (store_after_write-differs key none s g.ascending).count in
      omega (arith, row_count-lookup (lookup key s) old-size, g.tally.count)

  pub exchangeable : S < 9223372036854775808 → length p ≤ 65535 → Exchangeable S t old new
  unfolding store_fits
  exchangeable m l =
      let x = leb-true (store_charge s) S (and_left _ _ g.tally.fits) in
      let y = leb-true (length s) 1024 (and_right (leb (store_charge s) S) _ g.tally.fits) in
      record {
        used = omega (arith, g.tally.used);
        count = omega (arith, g.tally.count);
        old-charge = old-charge;
        old-count = old-count;
        room-small = m;
        new-short = omega (arith, written_size-le g.parts);
      }

  after-charge : t.used - old + new ≡ store_charge (store_after_write key value s)
  after-charge =
      let d = (store_after_write-differs key value s g.ascending).charge in
      let x = row-charge (lookup key s) old-size in
      let y = row-charge value new-size in
      omega (arith, g.tally.used, old-charge)

  after-count : t.count - row_count old + row_count new ≡ length (store_after_write key value s)
  after-count =
      let d = (store_after_write-differs key value s g.ascending).count in
      let x = row_count-lookup (lookup key s) old-size in
      let y = row_count-lookup value new-size in
      omega (arith, g.tally.count, old-count)

  -- the exchange gives the numbers of the store after the WRITE, if that keeps its limits
  exchanged-after : more S (less t old) new
      ≡ cond (store_fits S (store_after_write key value s))
      (Some (record {
        used = store_charge (store_after_write key value s);
        count = length (store_after_write key value s);
      }))
      None
  unfolding store_fits
  exchanged-after = more-less S t old new ∙ rw (after-charge, after-count)

  pub write-taken : (r : Option Tally) → r ≡ more S (less t old) new → WriteTaken S p s r
  unfolding refuses store_after patterns_after write_from
  write-taken r m =
      record {
        value = λ q f.
            record {
              outcome = either (store_fits S (store_after_write key value s))
                  (λ e. rw (m ∙ exchanged-after, e)
                  (record {
                    accepted = rw (← g.parts.key, e);
                    tally = rw (← g.parts.key) (record { used = refl; count = refl; fits = e });
                    patterns = refl;
                  }))
                  (λ e. rw (m ∙ exchanged-after, e) (rw (← g.parts.key, e)));
              patterns-fine = f;
            };
      }

  -- a WRITE of the body that the key has leaves a row as long as it was
  same_size : b ≡ p → old ≡ new
  unfolding body
  same_size e = by w (splits-behind g.parts) (lookup key s) g.found
    where
      by : (x : Written) → Behind n (length p) x → (o : Maybe Bytes) → b ≡ body key o
          → body_size (length b) ≡ written_size n x
      by Delete h none f = rw f
      by Delete h (some v) f =
          let k = length-take-le n p (splits-within g.parts) in
          let l : length (key ++ 0 ∷ v) ≡ length key + (1 + length v) = rw length-append (omega arith) in
          absurd (omega (arith, ap length f, ap length e))
      by (Value start len) h o f =
          let l = ap length e in
          sym (body_size-some (length b) (omega (arith, h.0, h.1))) ∙ omega (arith, h.0, h.1)

  -- and so leaves the tally as it is
  pub same_taken : b ≡ p → WriteTaken S p s (Some t)
  unfolding store_fits
  same_taken e =
      let q = same_size e in
      let u : t.used - old + new ≡ t.used = omega (arith, old-charge) in
      let v : t.count - row_count old + row_count new ≡ t.count = rw (← q) (omega (arith, old-count)) in
      let fits : leb t.used S && leb t.count 1024 ≡ true = rw (g.tally.used, g.tally.count) g.tally.fits in
      write-taken (Some t) (rw (more-less S t old new, u, v, fits))
