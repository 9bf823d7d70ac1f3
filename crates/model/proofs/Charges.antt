-- What a WRITE charges: the key's old value is exchanged for its new one.
use mathlib.Core.Path.{◌≡◌, refl, ap}
use mathlib.Core.List.{[], ◌∷◌}
use mathlib.Core.Option.{Option, some, none}
use Prim.Native.Nat.{ℕ, ◌+◌}
use native.Mathlib.Omega.{arith}
use lib.ListN.{length}
use Rattle.octets.specs.Octets.{Bytes}
use Rattle.octets.specs.Order.{same, before}
use Rattle.model.specs.Store.{Entry, Store, lookup, put, remove, store_after_write, store_charge}
use Rattle.model.specs.Invariant.{After, Ascending}
use Rattle.model.proofs.Tests.{either}
use Rattle.model.proofs.Order.{same_true, before-differs}
use Rattle.model.proofs.Stores.{after-trans, lookup-after}

-- A key that all others come after is not removed from them.
remove-after : (k : Bytes) (s : Store) → After k s → remove k s ≡ s
unfolding After remove
remove-after k [] h = refl
remove-after k (e ∷ s) h = rw (before-differs k e.key h.0, remove-after k s h.1)

-- what the key charges with this value; an absent key charges nothing
unfoldable pub value_charge : Bytes → Option Bytes → ℕ
value_charge k none = 0
value_charge k (some v) = 8 + length k + length v

-- how many entries the value is
unfoldable pub value_count : Option Bytes → ℕ
value_count none = 0
value_count (some v) = 1

-- the charge and the number of entries of two stores differ by what one key has in each
pub record Differs (k : Bytes) (old new : Option Bytes) (s t : Store) : Type 0 where
  pub charge : store_charge t + value_charge k old ≡ store_charge s + value_charge k new
  pub count : length t + value_count old ≡ length s + value_count new

-- an entry in front of both
differs-cons : (k : Bytes) (old new : Option Bytes) (s t : Store) (e : Entry) → Differs k old new s t
    → Differs k old new (e ∷ s) (e ∷ t)
unfolding store_charge
differs-cons k old new s t e d =
    let x = d.charge in let y = d.count in record { charge = omega arith; count = omega arith }

put-differs : (k v : Bytes) (s : Store) → Ascending s → Differs k (lookup k s) (some v) s (put k v s)
unfolding Ascending lookup put store_charge value_charge value_count
put-differs k v [] h = record { charge = omega arith; count = omega arith }
put-differs k v (e ∷ s) h =
    either (before k e.key)
    (λ q. let a : lookup k s ≡ none = lookup-after k s (after-trans k e.key s q h.0) in
    rw (q, before-differs k e.key q, a) (record { charge = omega arith; count = omega arith }))
    (λ q. either (same k e.key)
    (λ t. rw (q, t) (let l : length k ≡ length e.key = ap length (same_true k e.key t) in
    record { charge = omega arith; count = omega arith }))
    (λ t. rw (q, t) (differs-cons k (lookup k s) (some v) s (put k v s) e (put-differs k v s h.1))))

remove-differs : (k : Bytes) (s : Store) → Ascending s → Differs k (lookup k s) none s (remove k s)
unfolding Ascending lookup remove store_charge value_charge value_count
remove-differs k [] h = record { charge = refl; count = refl }
remove-differs k (e ∷ s) h =
    either (same k e.key)
    (λ t. let q : k ≡ e.key = same_true k e.key t in
    let a : After k s = rw q h.0 in
    let l : length k ≡ length e.key = ap length q in
    rw (t, remove-after k s a) (record { charge = omega arith; count = omega arith }))
    (λ t. rw t (differs-cons k (lookup k s) none s (remove k s) e (remove-differs k s h.1)))

-- A WRITE exchanges the charge of the key's old value for that of its new one, and so for the number of entries.
pub store_after_write-differs : (k : Bytes) (v : Option Bytes) (s : Store) → Ascending s
    → Differs k (lookup k s) v s (store_after_write k v s)
unfolding store_after_write
store_after_write-differs k (some v) s h = put-differs k v s h
store_after_write-differs k none s h = remove-differs k s h
