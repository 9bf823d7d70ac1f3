-- The other actions tried out, and the walk over all of a recording.
use mathlib.Core.Path.{◌≡◌, refl, sym, ap, ◌∙◌}
use mathlib.Core.List.{List, [], ◌∷◌, ◌++◌}
use mathlib.Core.Bool.{Bool, true, false, not}
use Prim.Native.Nat.{ℕ, suc, ◌+◌, ◌≤◌, ◌<◌}
use native.Mathlib.Numerals.{add-one}
use native.Mathlib.Omega.{arith}
use lib.Dec.{ltb, eqb}
use lib.ListN.{length, take, drop, get_or}
use lib.Seq.{take-suc, drop-cons, drop-length}
use borrow.Author.Tests.{lt-ltb, le-ltb, ltb-false, leb-true, le-leb, ne_eqb}
use Rattle.octets.specs.Octets.{Bytes}
use Rattle.octets.specs.Part.{part}
use Rattle.octets.specs.Number.{number_at}
use Rattle.octets.proofs.Parts.{length_part}
use Rattle.std.proofs.Common.{◌≢◌, None, Some}
use Rattle.protocol.specs.declared.command_id.CommandId.{CommandId}
use Rattle.protocol.specs.declared.command_id.CommandId.TheVariants.{Hello, Sub, Unsub, Read, Write, Begin, Commit, Ping}
use Rattle.protocol.specs.Ids.{id_of}
use Rattle.protocol.specs.Terms.{Action, hello, sub, unsub, read, ping, action_id, payload}
use Rattle.model.specs.Store.{Store, lookup, store_charge, store_fits}
use Rattle.model.specs.Patterns.{Patterns, held, add_pattern, remove_pattern}
use Rattle.model.specs.Step.{store_after, patterns_after, refuses, store_after_all, refuses_any}
use Rattle.model.specs.Turn.{value_at_turn}
use Rattle.model.specs.Invariant.{Ascending}
use Rattle.model.proofs.Tests.{either}
use Rattle.model.proofs.Steps.{store_after_all-append, ascending-store_after_all, lookup-store_after_all}
use Rattle.model.proofs.Subscriptions.{count_of, length-add_pattern}
use Rattle.recording.specs.Encoding.{action_of, write_from, action_fine, row_size, row_payload, action_at}
use Rattle.recording.specs.Region.{rows_of, recorded}
use Rattle.recording.specs.Turn.{earlier}
use Rattle.recording.specs.Promises.{RowAt}
use Rattle.recording.proofs.Encodings.{payload-action_of, action_id-action_of}
use Rattle.recording.proofs.Packed.{row_fine-whole}
use Rattle.recording.proofs.Walks.{Walk, row_here, walk_start, walk-row, walk-action, walk-next, walk-earlier}
use Rattle.store.specs.Region.{used_of as store_used, count_of as store_count, room_of, store_fine, store_of}
use Rattle.store.specs.Operation.{body}
use Rattle.store.proofs.Region.{represents, ascending-store_of, charge-store_of, length-store_of}
use Rattle.subscriptions.specs.Region.{patterns_of, subscriptions_fine}
use Rattle.subscriptions.specs.Promises.{Becomes as SubBecomes}
use Rattle.subscriptions.proofs.Cells.{fine-rules, length-patterns_of}
use Rattle.commit.specs.declared.Tally.{Tally}
use Rattle.commit.specs.Tally.{TallyOf}
use Rattle.commit.specs.Promises.{store_before, Tried, Place, Turn, Taken, PatternTaken, SubRefused}

-- ---- a SUB

module _ (p : Bytes) (ps : Patterns) where
  sub-few : length ps < 16 → false ≡ ltb 16 (length (add_pattern p ps))
  sub-few h = sym (le-ltb 16 (length (add_pattern p ps)) (omega (arith, length-add_pattern p ps)))

  sub-full : length ps ≡ 16 → not (held p ps) ≡ ltb 16 (length (add_pattern p ps))
  unfolding count_of
  sub-full h =
      let l = length-add_pattern p ps in
      either (held p ps)
      (λ e. let m : length (add_pattern p ps) + 1 ≡ length ps + 1 = rw e at l in
      rw e (sym (le-ltb 16 (length (add_pattern p ps)) (omega arith))))
      (λ e. let m : length (add_pattern p ps) + 0 ≡ length ps + 1 = rw e at l in
      rw e (sym (lt-ltb 16 (length (add_pattern p ps)) (omega arith))))

pub sub-accepted : (q p : Bytes) → length (patterns_of q) < 16 → SubRefused q p false
unfolding refuses
sub-accepted q p h = record { value = λ S s. sub-few p (patterns_of q) h }

pub sub-by-held : (q p : Bytes) → subscriptions_fine q ≡ true → 16 ≤ length (patterns_of q)
    → SubRefused q p (not (held p (patterns_of q)))
unfolding refuses
sub-by-held q p f h =
    let l : length (patterns_of q) ≡ 16 = omega (arith, (fine-rules f).few, length-patterns_of q) in
    record { value = λ S s. sub-full p (patterns_of q) l }

-- what decides whether a SUB is refused
pub ruleset sub_tests = (sub-accepted, sub-by-held)

-- a SUB that is not refused leaves at most sixteen patterns
pub sub-room : (q p : Bytes) (b : Bool) → SubRefused q p b → b ≡ false → length (add_pattern p (patterns_of q)) ≤ 16
unfolding refuses
sub-room q p b h e = ltb-false 16 (length (add_pattern p (patterns_of q))) (sym (h.value 0 []) ∙ e)

-- ---- an action that leaves the store

-- such an action is not refused, and the region holds the patterns after it
pub taken-kept : (S : ℕ) (a : Action) (s : Store) (q q' : Bytes) (t : Tally) → TallyOf S s t
    → refuses S a s (patterns_of q) ≡ false → store_after a s ≡ s
    → patterns_of q' ≡ patterns_after true a (patterns_of q) → subscriptions_fine q' ≡ true
    → Taken S a s q q' (Some t)
taken-kept S a s q q' t h r u p f =
    record { outcome = record { accepted = r; tally = rw u h; patterns = p }; patterns-fine = f }

pub sub-stopped : (p q : Bytes) (t : Tally) (b : Bool) → subscriptions_fine q ≡ true → SubRefused q p b → b ≡ true
    → PatternTaken 1 p t q q None
unfolding action_of
sub-stopped p q t b f h e =
    record { value = λ S s g. record { outcome = sym (h.value S s) ∙ e; patterns-fine = f } }

module _ (p q q' : Bytes) (t : Tally) where
  pub sub-taken : (b : Bool) → SubRefused q p b → b ≡ false → SubBecomes (add_pattern p (patterns_of q)) q q'
      → PatternTaken 1 p t q q' (Some t)
  unfolding action_of store_after patterns_after
  sub-taken b h e m =
      record { value = λ S s g. taken-kept S (sub p) s q q' t g (sym (h.value S s) ∙ e) refl m.holds m.fine }

  pub unsub-taken : SubBecomes (remove_pattern p (patterns_of q)) q q' → PatternTaken 2 p t q q' (Some t)
  unfolding action_of store_after patterns_after refuses
  unsub-taken m = record { value = λ S s g. taken-kept S (unsub p) s q q' t g refl refl m.holds m.fine }

-- HELLO, READ and PING change nothing
pub other-taken : (id : ℕ) (p q : Bytes) (t : Tally) → subscriptions_fine q ≡ true
    → (id ≡ 1 → ⊥) → (id ≡ 2 → ⊥) → (id ≡ 4 → ⊥) → PatternTaken id p t q q (Some t)
unfolding action_of store_after patterns_after refuses
other-taken id p q t f n₁ n₂ n₄ =
    record {
      value = λ S s g.
          rw (ne_eqb id 1 n₁, ne_eqb id 2 n₂, ne_eqb id 4 n₄)
          (either (eqb id 0)
          (λ e. rw e (taken-kept S (hello p) s q q t g refl refl refl f))
          (λ e₀. either (eqb id 3)
          (λ e. rw (e₀, e) (taken-kept S (read p) s q q t g refl refl refl f))
          (λ e. rw (e₀, e) (taken-kept S (ping p) s q q t g refl refl refl f))));
    }

-- the same of a command
pub command-taken : (id : CommandId) (p q : Bytes) (t : Tally) → subscriptions_fine q ≡ true
    → id ≢ Sub → id ≢ Unsub → id ≢ Write → PatternTaken (id_of id) p t q q (Some t)
unfolding action_of store_after patterns_after refuses
command-taken Hello p q t f n₁ n₂ n₄ = record { value = λ S s g. taken-kept S (hello p) s q q t g refl refl refl f }
command-taken Sub p q t f n₁ n₂ n₄ = absurd (n₁ refl)
command-taken Unsub p q t f n₁ n₂ n₄ = absurd (n₂ refl)
command-taken Read p q t f n₁ n₂ n₄ = record { value = λ S s g. taken-kept S (read p) s q q t g refl refl refl f }
command-taken Write p q t f n₁ n₂ n₄ = absurd (n₄ refl)
command-taken Begin p q t f n₁ n₂ n₄ = record { value = λ S s g. taken-kept S (ping p) s q q t g refl refl refl f }
command-taken Commit p q t f n₁ n₂ n₄ = record { value = λ S s g. taken-kept S (ping p) s q q t g refl refl refl f }
command-taken Ping p q t f n₁ n₂ n₄ = record { value = λ S s g. taken-kept S (ping p) s q q t g refl refl refl f }

-- ---- an action's row

module _ (r : Bytes) (at : ℕ) (h : RowAt r at) (id : ℕ) (p : Bytes) where
  abbrev row : Bytes
  row = drop at (rows_of r)

  -- the ID and the payload of a row are all of its action
  pub row-action : id ≡ action_id (action_at row) → p ≡ payload (action_at row) → action_at row ≡ action_of id p
  row-action i b =
      let m = row_here r at h in
      m.command
      ∙ ap (λ (n : ℕ). action_of n (part r (16 + at) (number_at 3 r (13 + at)))) (m.id ∙ sym i)
      ∙ ap (action_of id) (m.body ∙ sym b)

  pub row-known : id ≡ action_id (action_at row) → p ≡ payload (action_at row) → action_fine id (length p) ≡ true
  unfolding action_at row_payload row_size
  row-known i b =
      let w = row_fine-whole row h.here in
      let n : ℕ = number_at 3 row 1 in
      let l : length p ≡ n =
      ap length (b ∙ payload-action_of (get_or row 0 0) (part row 4 n)) ∙ length_part row 4 n w.fits in
      let j : id ≡ get_or row 0 0 = i ∙ action_id-action_of (get_or row 0 0) (part row 4 n) n w.known in
      rw (l, j) w.known

-- an action of this ID is a WRITE
pub write-action : (p : Bytes) → action_of 4 p ≡ write_from p
unfolding action_of
write-action p = refl

pub write-short : (n : ℕ) → action_fine 4 n ≡ true → n ≤ 65535
unfolding action_fine
write-short n h = leb-true n 65535 h

pub sub-short : (n : ℕ) → action_fine 1 n ≡ true → n ≤ 255
unfolding action_fine
sub-short n h = leb-true n 255 h

pub turn-place : {st : Bytes} {index : List ℕ} {r : Bytes} {at : ℕ} {q : Bytes} {t : Tally}
    → Turn st index r at q t → Place st index r at
turn-place g =
    let m = row_here _ _ g.row in
    record {
      store-fine = g.store-fine;
      indexed = g.indexed;
      until = record { fine = g.row.fine; within = omega (arith, m.within) };
    }

-- ---- the store at a turn

pub ascending-store_before : (st r : Bytes) (at : ℕ) → store_fine st ≡ true → Ascending (store_before st r at)
unfolding store_before
ascending-store_before st r at f = ascending-store_after_all (earlier r at) (store_of st) (ascending-store_of st f)

-- what the look-up finds for the key is the body that it has in the store there
pub body-store_before : (st r k : Bytes) (at : ℕ) (b : Bytes) → b ≡ body k (value_at_turn k (earlier r at) (store_of st))
    → b ≡ body k (lookup k (store_before st r at))
unfolding store_before
body-store_before st r k at b e = e ∙ ap (body k) (sym (lookup-store_after_all k (earlier r at) (store_of st)))

-- the store's own numbers are its tally
pub tally-start : (st : Bytes) (used count : ℕ) → store_fine st ≡ true → used ≡ store_used st → count ≡ store_count st
    → TallyOf (room_of st) (store_of st) (record { used = used; count = count })
unfolding store_fits
tally-start st used count f u n =
    let m = represents st f in
    let c = charge-store_of st f in
    let l = length-store_of st f in
    let a : store_charge (store_of st) ≤ room_of st = omega (arith, m.long) in
    record {
      used = u ∙ sym c;
      count = n ∙ sym l;
      fits = rw (le-leb (store_charge (store_of st)) (room_of st) a, le-leb (length (store_of st)) 1024 m.few);
    }

-- ---- the walk

-- i actions were tried out and none is refused; the next row is at the offset; t is the tally of the store there, and
-- q holds the patterns; the commit is refused exactly when one of the other actions is
pub record Trying (st r q₀ : Bytes) (t : Tally) (at i : ℕ) (q : Bytes) : Type 0 where
  pub walk : Walk r at i
  pub tally : TallyOf (room_of st) (store_before st r at) t
  pub patterns-fine : subscriptions_fine q ≡ true
  pub rest : refuses_any (room_of st) (recorded r) (store_of st) (patterns_of q₀)
      ≡ refuses_any (room_of st) (drop i (recorded r)) (store_before st r at) (patterns_of q)

pub try-start : (st : Bytes) {index : List ℕ} (r q : Bytes) (t : Tally) → Tried st index r q
    → TallyOf (room_of st) (store_of st) t → Trying st r q t 0 0 q
unfolding store_before store_after_all
try-start st r q t h g =
    let w = walk_start r h.recording-fine in
    let e : earlier r 0 ≡ [] = walk-earlier r 0 0 w in
    record { walk = w; tally = rw e g; patterns-fine = h.patterns-fine; rest = rw e }

module _ (st : Bytes) {index : List ℕ} (r q₀ : Bytes) (t : Tally) (at i : ℕ) (q : Bytes) (f : Tried st index r q₀)
    (l : i < length (recorded r)) (h : Trying st r q₀ t at i q) where
  pub try-turn : Turn st index r at q t
  try-turn =
      record {
        store-fine = f.store-fine;
        indexed = f.indexed;
        row = walk-row r at i h.walk l;
        patterns-fine = h.patterns-fine;
        tally = h.tally;
      }

  abbrev action : Action
  action = action_at (drop at (rows_of r))

  others : drop i (recorded r) ≡ action ∷ drop (suc i) (recorded r)
  others =
      drop-cons (recorded r) i (ping []) l
      ∙ ap (λ (a : Action). a ∷ drop (suc i) (recorded r)) (walk-action r at i h.walk (ping []) l)

  -- the store at the next turn is the one after this action
  store-next : store_before st r (at + row_size (drop at (rows_of r))) ≡ store_after action (store_before st r at)
  unfolding store_before store_after_all
  store-next =
      let w = walk-next r at i h.walk l in
      let e : earlier r (at + row_size (drop at (rows_of r))) ≡ earlier r at ++ (action ∷ []) =
      walk-earlier r (at + row_size (drop at (rows_of r))) (i + 1) w
      ∙ ap (λ (n : ℕ). take n (recorded r)) (add-one i)
      ∙ take-suc (recorded r) i (ping []) l
      ∙ rw (← walk-earlier r at i h.walk, walk-action r at i h.walk (ping []) l) in
      rw e (store_after_all-append (earlier r at) (action ∷ []) (store_of st))

  pub try-stopped : (q' : Bytes) → Taken (room_of st) action (store_before st r at) q q' None
      → true ≡ refuses_any (room_of st) (recorded r) (store_of st) (patterns_of q₀)
  unfolding refuses_any
  try-stopped q' g = sym (h.rest ∙ rw (others, g.outcome))

  pub try-next : (t' : Tally) (q' : Bytes) → Taken (room_of st) action (store_before st r at) q q' (Some t')
      → Trying st r q₀ t' (at + row_size (drop at (rows_of r))) (i + 1) q'
  unfolding refuses_any
  try-next t' q' g =
      let k = g.outcome in
      record {
        walk = walk-next r at i h.walk l;
        tally = rw store-next k.tally;
        patterns-fine = g.patterns-fine;
        rest = rw (store-next, add-one i, k.patterns) (h.rest ∙ rw (others, k.accepted));
      }

pub try-end : (st r q₀ : Bytes) (t : Tally) (at i : ℕ) (q : Bytes) → length (recorded r) ≤ i → Trying st r q₀ t at i q
    → false ≡ refuses_any (room_of st) (recorded r) (store_of st) (patterns_of q₀)
unfolding refuses_any
try-end st r q₀ t at i q l h =
    let e : i ≡ length (recorded r) = omega (arith, h.walk.step) in
    let d : drop i (recorded r) ≡ [] = rw e (drop-length (recorded r)) in
    sym (h.rest ∙ rw d)
