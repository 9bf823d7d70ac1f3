-- SUB's walk over the entries of the store: what is owed so far, and the row at which it stands.
use mathlib.Core.Path.{◌≡◌, refl, sym, ap, subst, ◌∙◌}
use mathlib.Core.List.{List, [], ◌∷◌, ◌++◌, append-nil, append_assoc}
use mathlib.Core.Bool.{Bool, true, false, cond}
use mathlib.Core.Option.{some}
use Prim.Native.Nat.{ℕ, suc, ◌+◌, ◌≤◌, ◌<◌}
use native.Mathlib.Omega.{arith}
use lib.ListN.{length, length-append}
use Rattle.octets.specs.Octets.{Bytes}
use Rattle.protocol.specs.Terms.{Message, value_tail}
use Rattle.pattern.specs.Answer.{accepted}
use Rattle.message.specs.declared.Message.TheVariants.{Info}
use Rattle.message.specs.Writing.{said}
use Rattle.model.specs.Store.{Entry, Store, store_charge}
use Rattle.model.specs.Step.{infos}
use Rattle.infod3.specs.Infod3.{infod3}
use Rattle.store.specs.Row.{row_size, row_fine}
use Rattle.store.proofs.Region.{First}
use Rattle.store.proofs.Split.{charge-append}
use Rattle.model.specs.State.{with_queue}
use Rattle.slot.specs.Image.{ClientImage, owed, owed_all}
use Rattle.memory.specs.Image.{image_of}
use Rattle.memory.specs.Rules.{Sound}
use Rattle.memory.specs.Promises.{InOpen, Changes, Owing}
use Rattle.refinement.proofs.Steps.{either, cond-true, cond-false}
use Rattle.step.specs.TurnParts.{row_from, entry_key, entry_info, EntryAt, OwingIf}
use Rattle.step.proofs.Clients.{changes-same, changes-equal, changes-sizes, changes-store, changes-then}
use Rattle.step.proofs.Clients.{changes-open}
use Rattle.step.proofs.Entries.{owed-info, EntryOf, entry_of}

-- ---- what is owed

owed_all-append : (Q : ℕ) (xs ys : List Message) (c : ClientImage)
    → owed_all Q (xs ++ ys) c ≡ owed_all Q ys (owed_all Q xs c)
unfolding owed_all
owed_all-append Q [] ys c = refl
owed_all-append Q (x ∷ xs) ys c = owed_all-append Q xs ys (owed Q x c)

infos-append : (p : Bytes) (es fs : Store) → infos infod3 p (es ++ fs) ≡ infos infod3 p es ++ infos infod3 p fs
unfolding infos
infos-append p [] fs = refl
infos-append p (e ∷ es) fs =
    either (accepted p e.key) (λ t. rw (t, infos-append p es fs)) (λ t. rw (t, infos-append p es fs))

owed-shut : (Q : ℕ) (b : Bool) (x : Message) (c : ClientImage) → (cond b (owed Q x c) c).shut ≡ c.shut
unfolding owed with_queue
owed-shut Q true x c = refl
owed-shut Q false x c = refl

-- the INFO of an entry, if the pattern matches its key
owed-entry : (Q : ℕ) (p : Bytes) (e : Entry) (k b : Bytes) → k ≡ e.key → b ≡ e.key ++ value_tail (some e.value)
    → (c : ClientImage) → cond (accepted p k) (owed Q (said Info b) c) c ≡ owed_all Q (infos infod3 p (e ∷ [])) c
unfolding infos owed_all
owed-entry Q p e k b ek eb c =
    rw (ek, eb)
    (either (accepted p e.key) (λ t. rw t (owed-info Q e.key (some e.value) c)) (λ t. rw t))

module _ (b : Bool) (i : ℕ) (x : Message) {m : Bytes} where
  pub owing-yes : b ≡ true → {m' : Bytes} → Owing i x m m' → OwingIf b i x m m'
  owing-yes e k =
      let Q = (image_of m).sizes.queue_room in
      changes-equal i (owed Q x) (λ c. cond b (owed Q x c) c) (λ c. sym (cond-true b (owed Q x c) c e)) k

  pub owing-no : b ≡ false → Sound m → OwingIf b i x m m
  owing-no e h =
      let Q = (image_of m).sizes.queue_room in
      changes-equal i (λ c. c) (λ c. cond b (owed Q x c) c) (λ c. sym (cond-false b (owed Q x c) c e))
      (changes-same i h)

-- ---- the walk

-- The walk of slot i's pattern p began with the memory m₀ and n entries. It has passed j of them and stands at the
-- offset `at` before those left, and the client is owed what the passed ones give.
pub record Walked (i : ℕ) (p m₀ m : Bytes) (n at j : ℕ) : Type 0 where
  pub in-open : InOpen m i
  pub began : InOpen m₀ i
  pub done : Store
  pub left : Store
  pub store : (image_of m).store ≡ done ++ left
  pub total : n ≡ length done + length left
  pub passed : j ≡ length done
  pub place : at ≡ store_charge done
  pub owing : Changes i (owed_all (image_of m₀).sizes.queue_room (infos infod3 p done)) m₀ m

-- The entry at which it stands has had its turn, and its row is still to be passed.
pub record Told (i : ℕ) (p m₀ m : Bytes) (n at j : ℕ) : Type 0 where
  pub in-open : InOpen m i
  pub began : InOpen m₀ i
  pub done : Store
  pub left : Store
  pub entry : Entry
  pub store : (image_of m).store ≡ done ++ (entry ∷ left)
  pub total : n ≡ length done + suc (length left)
  pub passed : j ≡ length done
  pub place : at ≡ store_charge done
  pub owing : Changes i (owed_all (image_of m₀).sizes.queue_room (infos infod3 p (done ++ (entry ∷ [])))) m₀ m

pub walk_start : {i : ℕ} {m : Bytes} (p : Bytes) (n : ℕ) → InOpen m i → n ≡ length (image_of m).store
    → Walked i p m m n 0 0
unfolding infos owed_all store_charge
walk_start {i} {m} p n o e =
    record {
      in-open = o;
      began = o;
      done = [];
      left = (image_of m).store;
      store = refl;
      total = omega (arith, e);
      passed = refl;
      place = refl;
      owing = changes-same i o.in-slot.sound;
    }

-- the first of the entries left
next : (es : Store) → 0 < length es → First es
next [] h = absurd (omega arith)
next (e ∷ es) h = record { first = e; rest = es; cons = refl }

module _ {i : ℕ} {p m₀ m : Bytes} {n at j : ℕ} (w : Walked i p m₀ m n at j) (l : j < n) where
  here : First w.left
  here = next w.left (omega (arith, w.total, w.passed))

  store-here : (image_of m).store ≡ w.done ++ (here.first ∷ here.rest)
  store-here = w.store ∙ ap (λ (es : Store). w.done ++ es) here.cons

  entry_here : EntryOf m at here.first
  entry_here =
      subst (λ (x : ℕ). EntryOf m x here.first) (sym w.place)
      (entry_of w.done here.first here.rest w.in-open.in-slot.sound store-here)

  pub walk-row : EntryAt m i at
  walk-row = record { in-open = w.in-open; row = entry_here.row }

  -- its turn
  pub walk-told : {m' : Bytes} → OwingIf (accepted p (entry_key m at)) i (entry_info m at) m m' → Told i p m₀ m' n at j
  walk-told {m'} k =
      let Q = (image_of m₀).sizes.queue_room in
      let e = here.first in
      let f : ClientImage → ClientImage = λ c.
      cond (accepted p (entry_key m at)) (owed (image_of m).sizes.queue_room (entry_info m at) c) c in
      let s = changes-sizes i (owed_all Q (infos infod3 p w.done)) w.owing in
      let t : (c : ClientImage) → f (owed_all Q (infos infod3 p w.done) c)
      ≡ owed_all Q (infos infod3 p (w.done ++ (e ∷ []))) c =
      λ c. rw (s, infos-append p w.done (e ∷ []))
      (owed-entry Q p e (entry_key m at) _ entry_here.key entry_here.bytes (owed_all Q (infos infod3 p w.done)
      c)
      ∙ sym (owed_all-append Q (infos infod3 p w.done) (infos infod3 p (e ∷ [])) c)) in
      record {
        in-open = changes-open i f k w.in-open
            (owed-shut (image_of m).sizes.queue_room (accepted p (entry_key m at)) (entry_info m at));
        began = w.began;
        done = w.done;
        left = here.rest;
        entry = e;
        store = changes-store i f k ∙ store-here;
        total = w.total ∙ ap (λ (es : Store). length w.done + length es) here.cons;
        passed = w.passed;
        place = w.place;
        owing = changes-equal i (λ c. f (owed_all Q (infos infod3 p w.done) c))
            (owed_all Q (infos infod3 p (w.done ++ (e ∷ [])))) t
            (changes-then i (owed_all Q (infos infod3 p w.done)) w.owing w.began.in-slot f k);
      }

module _ {i : ℕ} {p m₀ m : Bytes} {n at j : ℕ} (w : Told i p m₀ m n at j) where
  entry-told : EntryOf m at w.entry
  entry-told = rw w.place (entry_of w.done w.entry w.left w.in-open.in-slot.sound w.store)

  pub told-row : row_fine (row_from m at) ≡ true
  told-row = entry-told.row

  pub told-small : at + row_size (row_from m at) ≤ 1048576
  told-small = entry-told.small

  -- its row is passed
  pub told-next : Walked i p m₀ m n (at + row_size (row_from m at)) (j + 1)
  unfolding store_charge
  told-next =
      let a = length-append w.done (w.entry ∷ []) in
      record {
        in-open = w.in-open;
        began = w.began;
        done = w.done ++ (w.entry ∷ []);
        left = w.left;
        store = w.store ∙ sym (append_assoc w.done (w.entry ∷ []) w.left);
        total = omega (arith, w.total);
        passed = omega (arith, w.passed);
        place = omega (arith, w.place, entry-told.size, charge-append w.done (w.entry ∷ []));
        owing = w.owing;
      }

empty : (es : Store) → length es ≤ 0 → es ≡ []
empty [] h = refl
empty (e ∷ es) h = absurd (omega arith)

-- all entries are passed
pub walk_end : {i : ℕ} {p m₀ m : Bytes} {n at j : ℕ} → Walked i p m₀ m n at j → n ≤ j
    → Changes i (owed_all (image_of m₀).sizes.queue_room (infos infod3 p (image_of m₀).store)) m₀ m
walk_end {i} {p} {m₀} {m} w l =
    let Q = (image_of m₀).sizes.queue_room in
    let s = changes-store i (owed_all Q (infos infod3 p w.done)) w.owing in
    let e : (image_of m₀).store ≡ w.done =
    sym s ∙ w.store
    ∙ ap (λ (es : Store). w.done ++ es) (empty w.left (omega (arith, w.total, w.passed)))
    ∙ append-nil w.done in
    changes-equal i (owed_all Q (infos infod3 p w.done)) (owed_all Q (infos infod3 p (image_of m₀).store)) (λ c. rw
    e)
    w.owing
