-- The laws of a step: actions in two parts, what they leave of the store and of the patterns, and what an action
-- finds at its turn.
use mathlib.Core.Path.{◌≡◌, refl, sym, ap, ◌∙◌}
use mathlib.Core.List.{List, [], ◌∷◌, ◌++◌, append_assoc}
use mathlib.Core.Bool.{Bool, true, false, cond, ◌&&◌, ◌||◌, and-false}
use mathlib.Core.Option.{Option, some, none}
use Prim.Native.Nat.{ℕ, ◌≤◌}
use native.Mathlib.Omega.{arith}
use lib.ListN.{length}
use Rattle.octets.specs.Octets.{Bytes}
use Rattle.octets.specs.Order.{same}
use Rattle.protocol.specs.Terms.{Action, hello, sub, unsub, read, write, ping, Message, Protocol}
use Rattle.model.specs.Store.{Store, lookup, changes}
use Rattle.model.specs.Patterns.{Patterns, held}
use Rattle.model.specs.Step.{store_after, patterns_after, refuses, store_after_all, patterns_after_all, refuses_any}
use Rattle.model.specs.Step.{subscribed, notices, owes, owes_all}
use Rattle.model.specs.Turn.{or_else, found_or, write_of, last_write, value_at_turn}
use Rattle.model.specs.Turn.{subscription_of, last_subscription, held_at_turn}
use Rattle.model.specs.Invariant.{Ascending}
use Rattle.model.proofs.Tests.{by-test}
use Rattle.model.proofs.Stores.{lookup-store_after_write, ascending-store_after_write}
use Rattle.model.proofs.Subscriptions.{held-add_pattern, held-remove_pattern}

-- ---- actions in two parts

pub store_after_all-append : (xs ys : List Action) (s : Store)
    → store_after_all (xs ++ ys) s ≡ store_after_all ys (store_after_all xs s)
unfolding store_after_all
store_after_all-append [] ys s = refl
store_after_all-append (a ∷ xs) ys s = store_after_all-append xs ys (store_after a s)

pub patterns_after_all-append : (mine : Bool) (xs ys : List Action) (ps : Patterns)
    → patterns_after_all mine (xs ++ ys) ps ≡ patterns_after_all mine ys (patterns_after_all mine xs ps)
unfolding patterns_after_all
patterns_after_all-append mine [] ys ps = refl
patterns_after_all-append mine (a ∷ xs) ys ps = patterns_after_all-append mine xs ys (patterns_after mine a ps)

or_assoc : (a b c : Bool) → (a || b) || c ≡ a || (b || c)
or_assoc true b c = refl
or_assoc false b c = refl

-- The later actions are judged with the earlier ones done.
pub refuses_any-append : (S : ℕ) (xs ys : List Action) (s : Store) (ps : Patterns)
    → refuses_any S (xs ++ ys) s ps
    ≡ refuses_any S xs s ps || refuses_any S ys (store_after_all xs s) (patterns_after_all true xs ps)
unfolding refuses_any store_after_all patterns_after_all
refuses_any-append S [] ys s ps = refl
refuses_any-append S (a ∷ xs) ys s ps =
    ap (λ (b : Bool). refuses S a s ps || b) (refuses_any-append S xs ys (store_after a s) (patterns_after true a ps))
    ∙ sym (or_assoc (refuses S a s ps) (refuses_any S xs (store_after a s) (patterns_after true a ps)) _)

module _ (protocol : Protocol) where
  pub owes_all-append : (mine : Bool) (xs ys : List Action) (s : Store) (ps : Patterns)
      → owes_all protocol mine (xs ++ ys) s ps
      ≡ owes_all protocol mine xs s ps
      ++ owes_all protocol mine ys (store_after_all xs s) (patterns_after_all mine xs ps)
  unfolding owes_all store_after_all patterns_after_all
  owes_all-append mine [] ys s ps = refl
  owes_all-append mine (a ∷ xs) ys s ps =
      rw (owes_all-append mine xs ys (store_after a s) (patterns_after mine a ps), append_assoc)

-- ---- order

pub ascending-store_after : (a : Action) (s : Store) → Ascending s → Ascending (store_after a s)
unfolding store_after
ascending-store_after (hello t) s h = h
ascending-store_after (sub p) s h = h
ascending-store_after (unsub p) s h = h
ascending-store_after (read k) s h = h
ascending-store_after (write k v) s h = ascending-store_after_write k v s h
ascending-store_after (ping i) s h = h

pub ascending-store_after_all : (xs : List Action) (s : Store) → Ascending s → Ascending (store_after_all xs s)
unfolding store_after_all
ascending-store_after_all [] s h = h
ascending-store_after_all (a ∷ xs) s h = ascending-store_after_all xs (store_after a s) (ascending-store_after a s h)

-- ---- clients other than the feeder

-- Another client's patterns stay.
pub patterns_after_all-other : (xs : List Action) (ps : Patterns) → patterns_after_all false xs ps ≡ ps
unfolding patterns_after_all patterns_after
patterns_after_all-other [] ps = refl
patterns_after_all-other (a ∷ xs) ps = patterns_after_all-other xs ps

-- An action sends a client at most one INFO because of its patterns, however many match.
pub length-notices : (protocol : Protocol) (a : Action) (s : Store) (ps : Patterns)
    → length (notices protocol a s ps) ≤ 1
unfolding notices
length-notices protocol (hello t) s ps = omega arith
length-notices protocol (sub p) s ps = omega arith
length-notices protocol (unsub p) s ps = omega arith
length-notices protocol (read k) s ps = omega arith
length-notices protocol (write k v) s ps =
    by-test (λ (ms : List Message). length ms ≤ 1) (changes k v s && subscribed protocol ps k) (λ e. omega arith)
    (λ e. omega arith)
length-notices protocol (ping i) s ps = omega arith

notices-none : (protocol : Protocol) (a : Action) (s : Store) → notices protocol a s [] ≡ []
unfolding notices subscribed
notices-none protocol (hello t) s = refl
notices-none protocol (sub p) s = refl
notices-none protocol (unsub p) s = refl
notices-none protocol (read k) s = refl
notices-none protocol (write k v) s = rw (and-false (changes k v s))
notices-none protocol (ping i) s = refl

-- Another client that holds no pattern is owed nothing.
pub owes_all-none : (protocol : Protocol) (xs : List Action) (s : Store) → owes_all protocol false xs s [] ≡ []
unfolding owes_all owes patterns_after
owes_all-none protocol [] s = refl
owes_all-none protocol (a ∷ xs) s = rw (notices-none protocol a s) (owes_all-none protocol xs (store_after a s))

-- ---- what an action finds at its turn

pub found_or-or_else : {A : Type 0} (x y : Option A) (a : A) → found_or (or_else x y) a ≡ found_or x (found_or y a)
found_or-or_else (some b) y a = refl
found_or-or_else none y a = refl

pub found-if : {A : Type 0} (b : Bool) (x a : A) → cond b x a ≡ found_or (cond b (some x) none) a
found-if true x a = refl
found-if false x a = refl

lookup-store_after : (k : Bytes) (a : Action) (s : Store)
    → lookup k (store_after a s) ≡ found_or (write_of k a) (lookup k s)
unfolding store_after write_of
lookup-store_after k (hello t) s = refl
lookup-store_after k (sub p) s = refl
lookup-store_after k (unsub p) s = refl
lookup-store_after k (read x) s = refl
lookup-store_after k (write x v) s = lookup-store_after_write k x v s ∙ found-if (same k x) v (lookup k s)
lookup-store_after k (ping i) s = refl

-- At its turn an action finds for a key what the last WRITE of it earlier in that recording left, a value or none,
-- else the store's.
pub lookup-store_after_all : (k : Bytes) (earlier : List Action) (s : Store)
    → lookup k (store_after_all earlier s) ≡ value_at_turn k earlier s
unfolding store_after_all value_at_turn last_write
lookup-store_after_all k [] s = refl
lookup-store_after_all k (a ∷ xs) s =
    lookup-store_after_all k xs (store_after a s)
    ∙ rw (lookup-store_after k a s) (sym (found_or-or_else (last_write k xs) (write_of k a) (lookup k s)))

held-patterns_after : (p : Bytes) (a : Action) (ps : Patterns)
    → held p (patterns_after true a ps) ≡ found_or (subscription_of p a) (held p ps)
unfolding patterns_after subscription_of
held-patterns_after p (hello t) ps = refl
held-patterns_after p (sub q) ps = held-add_pattern p q ps ∙ found-if (same p q) true (held p ps)
held-patterns_after p (unsub q) ps = held-remove_pattern p q ps ∙ found-if (same p q) false (held p ps)
held-patterns_after p (read k) ps = refl
held-patterns_after p (write k v) ps = refl
held-patterns_after p (ping i) ps = refl

-- At its turn a SUB finds its pattern held by the last SUB or UNSUB of it earlier in that recording, else as it was
-- at the COMMIT.
pub held-patterns_after_all : (p : Bytes) (earlier : List Action) (ps : Patterns)
    → held p (patterns_after_all true earlier ps) ≡ held_at_turn p earlier ps
unfolding patterns_after_all held_at_turn last_subscription
held-patterns_after_all p [] ps = refl
held-patterns_after_all p (a ∷ xs) ps =
    held-patterns_after_all p xs (patterns_after true a ps)
    ∙ rw (held-patterns_after p a ps) (sym (found_or-or_else (last_subscription p xs) (subscription_of p a) (held p ps)))
