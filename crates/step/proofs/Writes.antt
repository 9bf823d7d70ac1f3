-- WRITE's turn: the key and the value of its payload, whether it changes the store, and what it leaves.
use mathlib.Core.Path.{◌≡◌, refl, sym, ap, subst, ◌∙◌}
use mathlib.Core.List.{◌∷◌, ◌++◌}
use mathlib.Core.Bool.{true, false, not, not-not}
use mathlib.Core.Option.{Option, some, none}
use Prim.Native.Nat.{ℕ, ◌+◌, ◌-◌, ◌≤◌, ◌<◌}
use native.Mathlib.Omega.{arith}
use lib.Dec.{eqb}
use lib.ListN.{length, take, drop, get_or, length-append}
use lib.Seq.{drop-append-add, get_or-append_seam, length-take-le}
use borrow.Author.Tests.{not-true, eqb-false, ne_eqb}
use Rattle.octets.specs.Octets.{Bytes, has_nul, first_nul}
use Rattle.octets.specs.Order.{same}
use Rattle.octets.proofs.Parts.{length_part}
use Rattle.protocol.specs.Terms.{payload, value_tail}
use Rattle.command.specs.declared.Written.{Written}
use Rattle.command.specs.declared.Written.TheVariants.{Delete, Value}
use Rattle.command.proofs.Laws.{first_nul-le, Behind, splits-behind}
use Rattle.model.specs.Store.{Store, lookup, put, remove, store_after_write, same_value, changes}
use Rattle.model.specs.Step.{store_after}
use Rattle.model.proofs.Stores.{unchanged}
use Rattle.recording.specs.Encoding.{value_behind, key_in, write_from, action_of, reads_back}
use Rattle.recording.proofs.Encodings.{payload-write_from, reads_back-action_of}
use Rattle.infod3.specs.Infod3.{infod3}
use Rattle.store.specs.Region.{room_of, store_fine, store_of}
use Rattle.store.specs.Operation.{lower, charge, body, Found, put_payload, Writable}
use Rattle.store.proofs.Split.{own, store_after_write-split}
use Rattle.store.proofs.Change.{parts}
use Rattle.commit.proofs.Parts.{value-delete, value-start}
use Rattle.model.specs.Events.{on_client}
use Rattle.slot.specs.Image.{notified}
use Rattle.memory.specs.Layout.{sizes_of, store_part}
use Rattle.memory.specs.Image.{Image, image_of, with_store, with_slots, on_slots}
use Rattle.memory.specs.Rules.{Becomes}
use Rattle.refinement.proofs.Ends.{becomes-same, becomes-as, becomes-then}
use Rattle.refinement.proofs.Actions.{after_turn-write, after_turn-unchanged}
use Rattle.step.specs.TurnParts.{Writing, KeyAt, Wrote, changed_by, NotifyingAll}

-- ---- the payload

module _ (p : Bytes) where
  -- what follows the key
  abbrev value : Option Bytes
  value = value_behind (drop (first_nul p) p)

  whole : key_in p ++ value_tail value ≡ p
  unfolding payload write_from
  whole = payload-write_from p

  clean : has_nul (key_in p) ≡ false
  unfolding reads_back action_of write_from
  clean = not-true (has_nul (key_in p)) (reads_back-action_of 4 p)

  length-key : length (key_in p) ≡ first_nul p
  length-key = length-take-le (first_nul p) p (first_nul-le p)

  value-some : first_nul p < length p → value ≡ some (drop (first_nul p + 1) p)
  value-some l =
      value-start p (first_nul p) (first_nul p + 1) (length p - (first_nul p + 1)) (refl, omega arith)

  body-some : first_nul p < length p → body (key_in p) (some (drop (first_nul p + 1) p)) ≡ p
  unfolding body value_tail
  body-some l = rw (value-some l) at whole

  -- the byte behind the key
  value-nul : first_nul p < length p → get_or p (first_nul p) 0 ≡ 0
  unfolding body
  value-nul l =
      let b = body (key_in p) (some (drop (first_nul p + 1) p)) in
      ap (λ (s : Bytes). get_or s (first_nul p) 0) (sym (body-some l))
      ∙ ap (λ (n : ℕ). get_or b n 0) (sym length-key)
      ∙ get_or-append_seam (key_in p) 0 (drop (first_nul p + 1) p) 0

-- ---- whether it changes the store

module _ (p : Bytes) (es : Store) where
  -- a deletion changes nothing where the key has no row
  pub unchanged-delete : Behind (first_nul p) (length p) Delete → {old : ℕ}
      → old ≡ charge (key_in p) (lookup (key_in p) es) → eqb old 0 ≡ not (changed_by p es)
  unfolding changes same_value charge
  unchanged-delete h e = rw (e, value-delete p (first_nul p) h) (go (lookup (key_in p) es))
    where
      go : (o : Option Bytes) → eqb (charge (key_in p) o) 0 ≡ not (not (same_value none o))
      go none = refl
      go (some x) = ne_eqb (8 + length (key_in p) + length x) 0 (λ z. omega arith)

  -- a value
  module _ (start len : ℕ) (h : Behind (first_nul p) (length p) (Value start len)) where
    -- where the key is absent, it is a change
    pub unchanged-absent : lookup (key_in p) es ≡ none → false ≡ not (changed_by p es)
    unfolding changes same_value
    unchanged-absent e = rw (value-start p (first_nul p) start len h, e)

    -- b is the body of the key's entry
    module _ {b : Bytes} (e : b ≡ body (key_in p) (lookup (key_in p) es))
        (there : 0 < charge (key_in p) (lookup (key_in p) es)) where
      -- the entry's value starts at the same place
      entry_value : (v : Bytes) → drop start (body (key_in p) (some v)) ≡ v
      unfolding body
      entry_value v =
          let k : start ≡ length (key_in p) + 1 = omega (arith, length-key p, h.0) in
          rw k (drop-append-add (key_in p) (0 ∷ v) 1)

      pub entry-long : start ≤ length b
      unfolding charge body
      entry-long = go (lookup (key_in p) es) e there
        where
          go : (o : Option Bytes) → b ≡ body (key_in p) o → 0 < charge (key_in p) o → start ≤ length b
          go none q l = absurd (omega arith)
          go (some v) q l = rw (q, length-append) (omega (arith, length-key p, h.0))

      -- and the WRITE changes nothing where the two values are equal
      pub unchanged-present : same (drop start p) (drop start b) ≡ not (changed_by p es)
      unfolding changes same_value charge
      unchanged-present = rw (value-start p (first_nul p) start len h) (go (lookup (key_in p) es) e there)
        where
          go : (o : Option Bytes) → b ≡ body (key_in p) o → 0 < charge (key_in p) o
              → same (drop start p) (drop start b) ≡ not (not (same_value (some (drop start p)) o))
          go none q l = absurd (omega arith)
          go (some v) q l = rw (q, entry_value v) (sym (not-not (same (drop start p) v)))

-- ---- the store

-- A WRITE that changes nothing leaves the store as it is.
kept : (st k : Bytes) (v : Option Bytes) → store_fine st ≡ true → changes k v (store_of st) ≡ false
    → store_after_write k v (store_of st) ≡ store_of st
kept st k v f e =
    let s = parts st k f in
    store_after_write-split s v
    ∙ sym (s.whole ∙ ap (λ (o : Option Bytes). lower k (store_of st) ++ (own k o ++ s.upper))
    (sym (unchanged k v (store_of st) e)))

-- what stands behind the key, in the words of one of its cases
pub key-behind : {st p : Bytes} {w x : Written} {at old : ℕ} → KeyAt st p w at old → w ≡ x
    → Behind (first_nul p) (length p) x
key-behind {p = p} h e =
    subst (Behind (first_nul p) (length p)) e (splits-behind (record { key = refl; written = h.written }))

pub key-value : {st p : Bytes} {w : Written} (start len : ℕ) {at old : ℕ} → KeyAt st p w at old → w ≡ Value start len
    → first_nul p < length p
key-value start len h e = let b = key-behind h e in omega (arith, b.0, b.1)

-- the key by its length
pub found-key : {st p : Bytes} {n : ℕ} {w : Written} {at old : ℕ} → n ≡ first_nul p → KeyAt st p w at old
    → Found st (take n p) at old
found-key {st} {p} {at = at} {old} e h = subst (λ (j : ℕ). Found st (take j p) at old) (sym e) h.found

-- a deletion that changes the store finds its key there
pub row-present : {st p : Bytes} {w : Written} {at old : ℕ} → KeyAt st p w at old → w ≡ Delete
    → changed_by p (store_of st) ≡ true → 0 < old
row-present {st} {p} {w} {at} {old} h d e =
    let z = eqb-false old 0 (unchanged-delete p (store_of st) (key-behind h d) h.found.size ∙ ap not e) in
    omega (arith, z)

module _ {m p : Bytes} {n : ℕ} (w : Writing m p) (en : n ≡ first_nul p) where
  pub write-within : n ≤ length p
  write-within = omega (arith, first_nul-le p)

  -- with a value
  module _ (within : first_nul p < length p) where
    pub write-ready : Writable (store_part (sizes_of m) m) p n
    unfolding image_of store_after write_from store_after_write put_payload
    write-ready =
        let z = sizes_of m in
        let r : room_of (store_part z m) ≡ z.store_room =
        omega (arith, length_part m 20 (8 + z.store_room) (omega (arith, w.sound.headed.long))) in
        record {
          fine = w.sound.store;
          payload = rw en (record { key-within = within; nul = value-nul p within; short = w.short });
          fits = rw (r, en) (rw (value-some p within) at w.fits);
        }

    pub stored_some : {m' : Bytes}
        → Becomes m m' (with_store (put (take n p) (drop (n + 1) p) (image_of m).store) (image_of m))
        → Becomes m m' (with_store (store_after (write_from p) (image_of m).store) (image_of m))
    unfolding store_after write_from store_after_write
    stored_some k = rw (value-some p within) (rw en at k)

  -- without one
  pub stored-none : Behind (first_nul p) (length p) Delete → {m' : Bytes}
      → Becomes m m' (with_store (remove (take n p) (image_of m).store) (image_of m))
      → Becomes m m' (with_store (store_after (write_from p) (image_of m).store) (image_of m))
  unfolding store_after write_from store_after_write
  stored-none h k = rw (value-delete p (first_nul p) h) (rw en at k)

  -- ---- what it leaves

  pub wrote-same : changed_by p (image_of m).store ≡ false → Wrote p m m
  unfolding write_from image_of
  wrote-same e i =
      becomes-as
      (sym (after_turn-unchanged infod3 i (key_in p) (value p) (image_of m)
      (kept (store_part (sizes_of m) m) (key_in p) (value p) w.sound.store e) e))
      (becomes-same w.sound)

  pub wrote : changed_by p (image_of m).store ≡ true → {m₁ m₂ : Bytes}
      → Becomes m m₁ (with_store (store_after (write_from p) (image_of m).store) (image_of m)) → NotifyingAll p n m₁ m₂
      → Wrote p m m₂
  unfolding write_from store_after with_store on_slots with_slots
  wrote e {m₁} {m₂} h k i =
      let g : Image → Image = λ im. on_slots (λ j. on_client (notified im.sizes.queue_room p n)) im in
      let q : first_nul p ≡ n = sym en in
      becomes-as
      (ap g h.means
      ∙ sym (after_turn-write infod3 (λ x y. refl) i (key_in p) (value p) (image_of m) (clean p) e
      ∙ rw (whole p, length-key p, q)))
      (becomes-then h refl k)
