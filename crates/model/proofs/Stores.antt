-- The laws of the store: what a key's value is after a WRITE, and that the keys stay in ascending order.
use mathlib.Core.Path.{◌≡◌, refl, sym, ap, ◌∙◌}
use mathlib.Core.List.{[], ◌∷◌}
use mathlib.Core.Bool.{true, false, cond}
use mathlib.Core.Option.{Option, some, none}
use Rattle.octets.specs.Octets.{Bytes}
use Rattle.octets.specs.Order.{same, before}
use Rattle.model.specs.Store.{Store, lookup, put, remove, store_after_write, same_value, changes}
use Rattle.model.specs.Invariant.{After, Ascending}
use Rattle.model.proofs.Tests.{either, never}
use Rattle.model.proofs.Order.{same_true, same_false, before-differs, before-other, before-trans}

-- ---- look-up

-- x is y and k is not y, so x is not k
apart : (x k y : Bytes) → same x y ≡ true → same k y ≡ false → same x k ≡ false
apart x k y e n = same_false x k (λ q. never (sym (moved q) ∙ n))
  where
    moved : x ≡ k → same k y ≡ true
    moved q = rw (← q) e

lookup-put : (x k v : Bytes) (s : Store) → lookup x (put k v s) ≡ cond (same x k) (some v) (lookup x s)
unfolding lookup put
lookup-put x k v [] = refl
lookup-put x k v (e ∷ s) =
    either (before k e.key) (λ b. rw b) (λ b.
    either (same k e.key)
    (λ q. let h : k ≡ e.key = same_true k e.key q in
    rw (b, q) (either (same x k)
    (λ t. rw t)
    (λ t. let u : same x e.key ≡ false = rw h at t in rw (t, u))))
    (λ q. rw (b, q, lookup-put x k v s) (either (same x e.key)
    (λ t. rw (t, apart x k e.key t q))
    (λ t. rw t))))

lookup-remove : (x k : Bytes) (s : Store) → lookup x (remove k s) ≡ cond (same x k) none (lookup x s)
unfolding lookup remove
lookup-remove x k [] = either (same x k) (λ t. rw t) (λ t. rw t)
lookup-remove x k (e ∷ s) =
    either (same k e.key)
    (λ q. let h : k ≡ e.key = same_true k e.key q in
    rw (q, lookup-remove x k s) (either (same x k)
    (λ t. rw t)
    (λ t. let u : same x e.key ≡ false = rw h at t in rw (t, u))))
    (λ q. rw (q, lookup-remove x k s) (either (same x e.key)
    (λ t. rw (t, apart x k e.key t q))
    (λ t. rw t)))

-- After a WRITE the key has the value written, and every other key what it had.
pub lookup-store_after_write : (x k : Bytes) (v : Option Bytes) (s : Store)
    → lookup x (store_after_write k v s) ≡ cond (same x k) v (lookup x s)
unfolding store_after_write
lookup-store_after_write x k (some v) s = lookup-put x k v s
lookup-store_after_write x k none s = lookup-remove x k s

same-value : (v w : Option Bytes) → same_value v w ≡ true → v ≡ w
unfolding same_value
same-value none none e = refl
same-value none (some w) e = never (sym e)
same-value (some v) none e = never (sym e)
same-value (some v) (some w) e = ap some (same_true v w e)

-- A WRITE that changes nothing writes the value that is there.
pub unchanged : (k : Bytes) (v : Option Bytes) (s : Store) → changes k v s ≡ false → v ≡ lookup k s
unfolding changes
unchanged k v s e = either (same_value v (lookup k s)) (same-value v (lookup k s)) (λ q. never (rw q at e))

-- ---- order

pub after-trans : (j k : Bytes) (s : Store) → before j k ≡ true → After k s → After j s
unfolding After
after-trans j k [] b h = tt
after-trans j k (e ∷ s) b h = (before-trans j k e.key b h.0, after-trans j k s b h.1)

after-put : (j k v : Bytes) (s : Store) → before j k ≡ true → After j s → After j (put k v s)
unfolding After put
after-put j k v [] b h = (b, tt)
after-put j k v (e ∷ s) b h =
    either (before k e.key) (λ q. rw q (b, h)) (λ q.
    either (same k e.key) (λ t. rw (q, t) (b, h.1)) (λ t. rw (q, t) (h.0, after-put j k v s b h.1)))

ascending-put : (k v : Bytes) (s : Store) → Ascending s → Ascending (put k v s)
unfolding After Ascending put
ascending-put k v [] h = (tt, tt)
ascending-put k v (e ∷ s) h =
    either (before k e.key) (λ q. rw q ((q, after-trans k e.key s q h.0), h)) (λ q.
    either (same k e.key)
    (λ t. rw (q, t) ((rw (same_true k e.key t) h.0), h.1))
    (λ t. rw (q, t) (after-put e.key k v s (before-other k e.key q t) h.0, ascending-put k v s h.1)))

after-remove : (j k : Bytes) (s : Store) → After j s → After j (remove k s)
unfolding After remove
after-remove j k [] h = tt
after-remove j k (e ∷ s) h =
    either (same k e.key)
    (λ t. rw t (after-remove j k s h.1))
    (λ t. rw t (h.0, after-remove j k s h.1))

ascending-remove : (k : Bytes) (s : Store) → Ascending s → Ascending (remove k s)
unfolding Ascending remove
ascending-remove k [] h = tt
ascending-remove k (e ∷ s) h =
    either (same k e.key)
    (λ t. rw t (ascending-remove k s h.1))
    (λ t. rw t (after-remove e.key k s h.0, ascending-remove k s h.1))

pub ascending-store_after_write : (k : Bytes) (v : Option Bytes) (s : Store) → Ascending s
    → Ascending (store_after_write k v s)
unfolding store_after_write
ascending-store_after_write k (some v) s h = ascending-put k v s h
ascending-store_after_write k none s h = ascending-remove k s h

-- A key before all others is absent.
pub lookup-after : (k : Bytes) (s : Store) → After k s → lookup k s ≡ none
unfolding After lookup
lookup-after k [] h = refl
lookup-after k (e ∷ s) h = rw (before-differs k e.key h.0) (lookup-after k s h.1)
