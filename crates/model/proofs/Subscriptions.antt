-- The laws of a client's patterns: which are held after a SUB or an UNSUB, and how many.
use mathlib.Core.Path.{◌≡◌, refl, sym, ◌∙◌}
use mathlib.Core.List.{List, [], ◌∷◌, ◌++◌}
use mathlib.Core.Bool.{Bool, true, false, cond}
use Prim.Native.Nat.{ℕ, ◌+◌}
use native.Mathlib.Omega.{arith}
use lib.ListN.{length, length-append}
use Rattle.octets.specs.Octets.{Bytes}
use Rattle.octets.specs.Order.{same}
use Rattle.model.specs.Patterns.{Patterns, held, add_pattern, remove_pattern}
use Rattle.model.specs.Invariant.{Each, Distinct}
use Rattle.model.proofs.Tests.{either, by-test, never}
use Rattle.model.proofs.Order.{same_refl, same_true, same-sym}

-- One more pattern is held behind the others.
pub held-append : (p q : Bytes) (ps : Patterns) → held p (ps ++ (q ∷ [])) ≡ cond (held p ps) true (same p q)
unfolding held
held-append p q [] = either (same p q) (λ t. rw t) (λ t. rw t)
held-append p q (r ∷ ps) = either (same p r) (λ t. rw t) (λ t. rw (t, held-append p q ps))

-- After a SUB its pattern is held, and every other as before.
pub held-add_pattern : (p q : Bytes) (ps : Patterns) → held p (add_pattern q ps) ≡ cond (same p q) true (held p ps)
unfolding add_pattern
held-add_pattern p q ps =
    either (held q ps)
    (λ h. rw h (either (same p q)
    (λ t. rw t (rw (same_true p q t) h))
    (λ t. rw t)))
    (λ h. rw (h, held-append p q ps) (either (same p q)
    (λ t. rw t (either (held p ps) (λ u. rw u) (λ u. rw u)))
    (λ t. rw t (either (held p ps) (λ u. rw u) (λ u. rw u)))))

-- After an UNSUB its pattern is not held, and every other as before.
pub held-remove_pattern : (p q : Bytes) (ps : Patterns)
    → held p (remove_pattern q ps) ≡ cond (same p q) false (held p ps)
unfolding held remove_pattern
held-remove_pattern p q [] = either (same p q) (λ t. rw t) (λ t. rw t)
held-remove_pattern p q (r ∷ ps) =
    either (same q r)
    (λ u. let e : q ≡ r = same_true q r u in
    rw (u, held-remove_pattern p q ps) (either (same p q)
    (λ t. rw t)
    (λ t. let n : same p r ≡ false = rw e at t in rw (t, n))))
    (λ u. rw (u, held-remove_pattern p q ps) (either (same p r)
    (λ t. let e : p ≡ r = same_true p r t in
    let n : same p q ≡ false = either (same p q) (λ v. never (sym (same_at r q e v) ∙ u)) (λ v. v) in
    rw (t, n))
    (λ t. rw t)))
  where
    same_at : (r q : Bytes) → p ≡ r → same p q ≡ true → same q r ≡ true
    same_at r q e v = let h : q ≡ r = sym (same_true p q v) ∙ e in rw h (same_refl r)

-- ---- no pattern twice

distinct_append : (p : Bytes) (ps : Patterns) → Distinct ps → held p ps ≡ false → Distinct (ps ++ (p ∷ []))
unfolding Distinct held
distinct_append p [] d h = (h, tt)
distinct_append p (q ∷ ps) d h =
    either (same p q) (λ t. never (rw t at h)) (λ t. (
      rw (held-append q p ps, d.0) (either (same q p) (λ u. never (sym (same-sym q p u) ∙ t)) (λ u. u)),
      distinct_append p ps d.1 (rw t at h),
    ))

pub distinct-add_pattern : (p : Bytes) (ps : Patterns) → Distinct ps → Distinct (add_pattern p ps)
unfolding add_pattern
distinct-add_pattern p ps d = by-test Distinct (held p ps) (λ h. d) (λ h. distinct_append p ps d h)

pub distinct-remove_pattern : (q : Bytes) (ps : Patterns) → Distinct ps → Distinct (remove_pattern q ps)
unfolding Distinct remove_pattern
distinct-remove_pattern q [] d = d
distinct-remove_pattern q (r ∷ ps) d =
    either (same q r) (λ u. rw u (distinct-remove_pattern q ps d.1)) (λ u. rw u (
      rw (held-remove_pattern r q ps, d.0) (either (same r q) (λ v. rw v) (λ v. rw v)),
      distinct-remove_pattern q ps d.1,
    ))

-- ---- how many

-- one where the test holds
unfoldable pub count_of : Bool → ℕ
count_of true = 1
count_of false = 0

pub length-add_pattern : (p : Bytes) (ps : Patterns) → length (add_pattern p ps) + count_of (held p ps) ≡ length ps + 1
unfolding add_pattern count_of
length-add_pattern p ps = either (held p ps) (λ h. rw h) (λ h. rw (h, length-append ps (p ∷ [])) (omega arith))

remove-not-held : (p : Bytes) (ps : Patterns) → held p ps ≡ false → remove_pattern p ps ≡ ps
unfolding held remove_pattern
remove-not-held p [] h = refl
remove-not-held p (q ∷ ps) h =
    either (same p q) (λ t. never (rw t at h)) (λ t. rw (t, remove-not-held p ps (rw t at h)))

pub length-remove_pattern : (p : Bytes) (ps : Patterns) → Distinct ps
    → length (remove_pattern p ps) + count_of (held p ps) ≡ length ps
unfolding held remove_pattern count_of Distinct
length-remove_pattern p [] d = refl
length-remove_pattern p (q ∷ ps) d =
    either (same p q)
    (λ t. let n : held p ps ≡ false = rw (same_true p q t) d.0 in
    rw (t, remove-not-held p ps n) (omega arith))
    (λ t. rw t (let e = length-remove_pattern p ps d.1 in omega arith))

-- ---- what holds of each

pub each_append : {A : Type 0} (P : A → Type 0) (a b : List A) → Each P a → Each P b → Each P (a ++ b)
each_append P [] b h g = g
each_append P (x ∷ a) b h g = (h.0, each_append P a b h.1 g)

pub each-add_pattern : (P : Bytes → Type 0) (p : Bytes) (ps : Patterns) → P p → Each P ps → Each P (add_pattern p ps)
unfolding add_pattern
each-add_pattern P p ps h g = by-test (Each P) (held p ps) (λ t. g) (λ t. each_append P ps (p ∷ []) g (h, tt))

pub each-remove_pattern : (P : Bytes → Type 0) (q : Bytes) (ps : Patterns) → Each P ps → Each P (remove_pattern q ps)
unfolding remove_pattern
each-remove_pattern P q [] g = g
each-remove_pattern P q (r ∷ ps) g =
    either (same q r)
    (λ t. rw t (each-remove_pattern P q ps g.1))
    (λ t. rw t (g.0, each-remove_pattern P q ps g.1))
