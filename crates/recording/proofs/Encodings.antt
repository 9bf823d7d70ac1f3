-- An action and its ID and payload give each other back.
use mathlib.Core.Path.{◌≡◌, refl, sym, ap, ◌∙◌}
use mathlib.Core.List.{[], ◌∷◌, ◌++◌}
use mathlib.Core.Bool.{true, false, ◌||◌, true≢false}
use mathlib.Core.Option.{Option, some, none}
use Prim.Native.Nat.{ℕ, ◌≤◌}
use native.Mathlib.Numerals.{add-one}
use native.Mathlib.Omega.{arith}
use lib.Dec.{eqb, leb}
use lib.ListN.{length}
use lib.Seq.{take_at, drop_at}
use borrow.Author.Tests.{eqb-true, eqb-false, leb-true, not-true}
use Rattle.octets.specs.Octets.{Bytes, has_nul, first_nul}
use Rattle.protocol.specs.Terms.{Action, hello, sub, unsub, read, write, ping, action_id, payload, value_tail}
use Rattle.recording.specs.Encoding.{value_behind, key_in, write_from, action_of, reads_back, action_fine}
use Rattle.recording.proofs.Tests.{either, and_both}

pub payload-write_from : (p : Bytes) → payload (write_from p) ≡ p
unfolding payload write_from first_nul value_behind value_tail
payload-write_from [] = refl
payload-write_from (c ∷ p) =
    either (eqb c 0)
    (λ t. rw t (ap (λ (x : ℕ). x ∷ p) (sym (eqb-true c 0 t))))
    (λ t. rw (t, add-one (first_nul p)) (ap (λ (l : Bytes). c ∷ l) (payload-write_from p)))

pub payload-action_of : (id : ℕ) (p : Bytes) → payload (action_of id p) ≡ p
unfolding payload action_of
payload-action_of id p =
    either (eqb id 0) (λ t. rw t) (λ t₀.
    either (eqb id 1) (λ t. rw (t₀, t)) (λ t₁.
    either (eqb id 2) (λ t. rw (t₀, t₁, t)) (λ t₂.
    either (eqb id 3) (λ t. rw (t₀, t₁, t₂, t)) (λ t₃.
    either (eqb id 4) (λ t. rw (t₀, t₁, t₂, t₃, t) (payload-write_from p)) (λ t₄. rw (t₀, t₁, t₂, t₃, t₄))))))

-- ---- the ID

action_id-write_from : (p : Bytes) → action_id (write_from p) ≡ 4
unfolding write_from
action_id-write_from p = refl

pub action_id-action_of : (id : ℕ) (p : Bytes) (n : ℕ) → action_fine id n ≡ true → action_id (action_of id p) ≡ id
unfolding action_of action_fine
action_id-action_of id p n h =
    either (eqb id 0) (λ t. rw t (sym (eqb-true id 0 t))) (λ t₀.
    either (eqb id 1) (λ t. rw (t₀, t) (sym (eqb-true id 1 t))) (λ t₁.
    either (eqb id 2) (λ t. rw (t₀, t₁, t) (sym (eqb-true id 2 t))) (λ t₂.
    either (eqb id 3) (λ t. rw (t₀, t₁, t₂, t) (sym (eqb-true id 3 t))) (λ t₃.
    either (eqb id 4) (λ t. rw (t₀, t₁, t₂, t₃, t) (action_id-write_from p ∙ sym (eqb-true id 4 t))) (λ t₄.
    rw (t₀, t₁, t₂, t₃, t₄)
    (let k : (leb id 4 || eqb id 7) ≡ true = (and_both (leb id 4 || eqb id 7) (leb n 65535) (rw (t₁, t₂) at h)).0 in
    either (leb id 4)
    (λ u. absurd
    (above (leb-true id 4 u) (eqb-false id 0 t₀) (eqb-false id 1 t₁) (eqb-false id 2 t₂) (eqb-false id 3 t₃)
    (eqb-false id 4 t₄)))
    (λ u. sym (eqb-true id 7 (rw u at k)))))))))
  where
    above : id ≤ 4 → (id ≡ 0 → ⊥) → (id ≡ 1 → ⊥) → (id ≡ 2 → ⊥) → (id ≡ 3 → ⊥) → (id ≡ 4 → ⊥) → ⊥
    above l a b c d e = omega arith

-- ---- and back

first_nul-key : (k : Bytes) (v : Option Bytes) → has_nul k ≡ false → first_nul (k ++ value_tail v) ≡ length k
unfolding first_nul has_nul value_tail
first_nul-key [] none h = refl
first_nul-key [] (some v) h = refl
first_nul-key (c ∷ k) v h =
    either (eqb c 0)
    (λ t. absurd (true≢false (rw t at h)))
    (λ t. rw (t, first_nul-key k v (rw t at h)) (add-one (length k)))

value_behind-tail : (v : Option Bytes) → value_behind (value_tail v) ≡ v
unfolding value_behind value_tail
value_behind-tail none = refl
value_behind-tail (some v) = refl

pub write_from-payload : (k : Bytes) (v : Option Bytes) → has_nul k ≡ false → write_from (k ++ value_tail v) ≡ write k v
unfolding write_from
write_from-payload k v h =
    rw (
      first_nul-key k v h,
      take_at k (value_tail v) (length k) refl,
      drop_at k (value_tail v) (length k) refl,
      value_behind-tail v,
    )

pub action_of-payload : (a : Action) → reads_back a ≡ true → action_of (action_id a) (payload a) ≡ a
unfolding action_of payload reads_back
action_of-payload (hello t) h = refl
action_of-payload (sub p) h = refl
action_of-payload (unsub p) h = refl
action_of-payload (read k) h = refl
action_of-payload (write k v) h = write_from-payload k v (not-true (has_nul k) h)
action_of-payload (ping i) h = refl

-- an action that was read reads back
has_nul-key_in : (p : Bytes) → has_nul (key_in p) ≡ false
unfolding has_nul first_nul
has_nul-key_in [] = refl
has_nul-key_in (c ∷ p) =
    either (eqb c 0) (λ t. rw t) (λ t. rw (t, add-one (first_nul p)) (rw t (has_nul-key_in p)))

pub reads_back-action_of : (id : ℕ) (p : Bytes) → reads_back (action_of id p) ≡ true
unfolding reads_back action_of write_from
reads_back-action_of id p =
    either (eqb id 0) (λ t. rw t) (λ t₀.
    either (eqb id 1) (λ t. rw (t₀, t)) (λ t₁.
    either (eqb id 2) (λ t. rw (t₀, t₁, t)) (λ t₂.
    either (eqb id 3) (λ t. rw (t₀, t₁, t₂, t)) (λ t₃.
    either (eqb id 4) (λ t. rw (t₀, t₁, t₂, t₃, t, has_nul-key_in p)) (λ t₄. rw (t₀, t₁, t₂, t₃, t₄))))))
