-- What a step that is not refused leaves of the limits on the store and on the patterns.
use mathlib.Core.Path.{◌≡◌}
use mathlib.Core.List.{List, [], ◌∷◌, ◌++◌}
use mathlib.Core.Bool.{Bool, true, false}
use mathlib.Core.Option.{Option, some, none}
use Prim.Native.Nat.{ℕ, suc, ◌+◌, ◌≤◌}
use native.Mathlib.Omega.{arith}
use lib.Dec.{leb}
use lib.ListN.{length, length-append}
use borrow.Author.Tests.{ltb-false, not-false, leb-true, le-leb}
use Rattle.octets.specs.Octets.{Bytes}
use Rattle.octets.specs.Order.{same, before}
use Rattle.protocol.specs.Terms.{Action, hello, sub, unsub, read, write, ping, value_tail, payload}
use Rattle.model.specs.Store.{Entry, Store, put, remove, store_after_write, store_charge, store_fits, lookup}
use Rattle.model.specs.Patterns.{Patterns, add_pattern}
use Rattle.model.specs.Step.{store_after, patterns_after, refuses, store_after_all, patterns_after_all, refuses_any}
use Rattle.model.specs.Lawful.{ValidPattern, ValidAction}
use Rattle.model.specs.Invariant.{Each, Ascending, Distinct, ValidEntry}
use Rattle.model.proofs.Tests.{either, or_left, or_right, and_left, and_right}
use Rattle.model.proofs.Stores.{ascending-store_after_write}
use Rattle.model.proofs.Charges.{value_charge, value_count, Differs, store_after_write-differs}
use Rattle.model.proofs.Subscriptions.{distinct-add_pattern, distinct-remove_pattern}
use Rattle.model.proofs.Subscriptions.{length-remove_pattern}
use Rattle.model.proofs.Subscriptions.{each-add_pattern, each-remove_pattern}

each-put : (P : Entry → Type 0) (k v : Bytes) (s : Store) → P (record { key = k; value = v }) → Each P s
    → Each P (put k v s)
unfolding put
each-put P k v [] p h = (p, tt)
each-put P k v (e ∷ s) p h =
    either (before k e.key) (λ q. rw q (p, h)) (λ q.
    either (same k e.key) (λ t. rw (q, t) (p, h.1)) (λ t. rw (q, t) (h.0, each-put P k v s p h.1)))

each-remove : (P : Entry → Type 0) (k : Bytes) (s : Store) → Each P s → Each P (remove k s)
unfolding remove
each-remove P k [] h = h
each-remove P k (e ∷ s) h =
    either (same k e.key) (λ t. rw t (each-remove P k s h.1)) (λ t. rw t (h.0, each-remove P k s h.1))

-- ---- the store

-- a store within its limits, in order and of valid entries
pub record StoreLimits (S : ℕ) (s : Store) : Type 0 where
  pub ascends : Ascending s
  pub fits : store_fits S s ≡ true
  pub valid-entries : Each ValidEntry s

entries-after : (valid : Bytes → Bool) (k : Bytes) (v : Option Bytes) (s : Store) → ValidAction valid (write k v)
    → Each ValidEntry s → Each ValidEntry (store_after_write k v s)
unfolding store_after_write payload value_tail
entries-after valid k (some v) s a h =
    let l : length (k ++ (0 ∷ v)) ≡ length k + suc (length v) = length-append k (0 ∷ v) in
    each-put ValidEntry k v s (record { no_nul = a.content; short = omega (arith, a.short) }) h
entries-after valid k none s a h = each-remove ValidEntry k s h

limits-after : (valid : Bytes → Bool) (S : ℕ) (a : Action) (s : Store) (ps : Patterns) → ValidAction valid a
    → StoreLimits S s → refuses S a s ps ≡ false → StoreLimits S (store_after a s)
unfolding refuses store_after
limits-after valid S (hello t) s ps v h r = h
limits-after valid S (sub p) s ps v h r = h
limits-after valid S (unsub p) s ps v h r = h
limits-after valid S (read k) s ps v h r = h
limits-after valid S (write k w) s ps v h r =
    record {
      ascends = ascending-store_after_write k w s h.ascends;
      fits = not-false (store_fits S (store_after_write k w s)) r;
      valid-entries = entries-after valid k w s v h.valid-entries;
    }
limits-after valid S (ping i) s ps v h r = h

-- A step that is not refused leaves a store within its limits.
pub limits-store_after_all : (valid : Bytes → Bool) (S : ℕ) (xs : List Action) (s : Store) (ps : Patterns)
    → Each (ValidAction valid) xs → StoreLimits S s → refuses_any S xs s ps ≡ false
    → StoreLimits S (store_after_all xs s)
unfolding refuses_any store_after_all
limits-store_after_all valid S [] s ps v h r = h
limits-store_after_all valid S (a ∷ xs) s ps v h r =
    limits-store_after_all valid S xs (store_after a s) (patterns_after true a ps) v.1
    (limits-after valid S a s ps v.0 h (or_left (refuses S a s ps) _ r)) (or_right (refuses S a s ps) _ r)

-- ---- the patterns

-- at most 16 patterns, distinct and valid
pub record PatternLimits (valid : Bytes → Bool) (ps : Patterns) : Type 0 where
  pub few : length ps ≤ 16
  pub distinct : Distinct ps
  pub valid-patterns : Each (ValidPattern valid) ps

patterns-after : (valid : Bytes → Bool) (S : ℕ) (a : Action) (s : Store) (ps : Patterns) → ValidAction valid a
    → PatternLimits valid ps → refuses S a s ps ≡ false → PatternLimits valid (patterns_after true a ps)
unfolding refuses patterns_after
patterns-after valid S (hello t) s ps v h r = h
patterns-after valid S (sub p) s ps v h r =
    record {
      few = ltb-false 16 (length (add_pattern p ps)) r;
      distinct = distinct-add_pattern p ps h.distinct;
      valid-patterns = each-add_pattern (ValidPattern valid) p ps v.content h.valid-patterns;
    }
patterns-after valid S (unsub p) s ps v h r =
    record {
      few = omega (arith, length-remove_pattern p ps h.distinct);
      distinct = distinct-remove_pattern p ps h.distinct;
      valid-patterns = each-remove_pattern (ValidPattern valid) p ps h.valid-patterns;
    }
patterns-after valid S (read k) s ps v h r = h
patterns-after valid S (write k w) s ps v h r = h
patterns-after valid S (ping i) s ps v h r = h

-- A step that is not refused leaves the feeder's patterns within their limits.
pub limits-patterns_after_all : (valid : Bytes → Bool) (S : ℕ) (xs : List Action) (s : Store) (ps : Patterns)
    → Each (ValidAction valid) xs → PatternLimits valid ps → refuses_any S xs s ps ≡ false
    → PatternLimits valid (patterns_after_all true xs ps)
unfolding refuses_any patterns_after_all
limits-patterns_after_all valid S [] s ps v h r = h
limits-patterns_after_all valid S (a ∷ xs) s ps v h r =
    limits-patterns_after_all valid S xs (store_after a s) (patterns_after true a ps) v.1
    (patterns-after valid S a s ps v.0 h (or_left (refuses S a s ps) _ r)) (or_right (refuses S a s ps) _ r)

-- ---- what is never refused

-- A deletion is never refused.
pub refuses-delete : (S : ℕ) (k : Bytes) (s : Store) (ps : Patterns) → Ascending s → store_fits S s ≡ true
    → refuses S (write k none) s ps ≡ false
unfolding refuses store_fits value_charge value_count
refuses-delete S k s ps a h =
    let d : Differs k (lookup k s) none s (store_after_write k none s) = store_after_write-differs k none s a in
    let x = d.charge in
    let y = d.count in
    let f = leb-true (store_charge s) S (and_left _ _ h) in
    let g = leb-true (length s) 1024 (and_right (leb (store_charge s) S) _ h) in
    rw (
      le-leb (store_charge (store_after_write k none s)) S (omega arith),
      le-leb (length (store_after_write k none s)) 1024 (omega arith),
    )
