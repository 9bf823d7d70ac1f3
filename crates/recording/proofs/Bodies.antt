-- Whether a payload is a WRITE of a key, and the payload of the last WRITE in the server's terms.
use mathlib.Core.Path.{◌≡◌, refl, sym, ap, ◌∙◌}
use mathlib.Core.List.{List, [], ◌∷◌}
use mathlib.Core.Bool.{true, false, true≢false}
use mathlib.Core.Option.{Option, some, none}
use Prim.Native.Nat.{ℕ, ◌<◌}
use native.Mathlib.Omega.{arith}
use lib.Dec.{eqb}
use lib.ListN.{length, take}
use lib.Seq.{length-take-le}
use borrow.Author.Tests.{eqb-true, eqb-false}
use Rattle.octets.specs.Octets.{Bytes, first_nul}
use Rattle.octets.specs.Order.{same}
use Rattle.octets.proofs.Nul.{first_nul-within}
use Rattle.octets.proofs.Orders.{same-eq, eq-same, ne_same}
use Rattle.protocol.specs.Terms.{Action, hello, sub, unsub, read, write, ping, payload}
use Rattle.model.specs.Turn.{or_else, write_of, last_write}
use Rattle.recording.specs.Turn.{body_for, last_body}
use Rattle.recording.proofs.Tests.{either}

-- ---- whether a payload is a WRITE of a key

module _ (k p : Bytes) where
  key-length : k ≡ take (first_nul p) p → length k ≡ first_nul p
  key-length e = ap length e ∙ length-take-le (first_nul p) p (first_nul-within p)

  pub key-longer : length p < length k → same k (take (first_nul p) p) ≡ false
  key-longer h = ne_same k (take (first_nul p) p) (λ e. omega (arith, key-length e, first_nul-within p))

  pub key-other : same k (take (length k) p) ≡ false → same k (take (first_nul p) p) ≡ false
  key-other h =
      ne_same k (take (first_nul p) p)
      (λ e. true≢false (sym (eq-same k (take (length k) p) (e ∙ ap (λ (n : ℕ). take n p) (sym (key-length e)))) ∙ h))

  pub key-ends : same k (take (length k) p) ≡ true → same k (take (first_nul p) p) ≡ eqb (first_nul p) (length k)
  key-ends h =
      let e : k ≡ take (length k) p = same-eq k (take (length k) p) h in
      either (eqb (first_nul p) (length k))
      (λ t. rw t (eq-same k (take (first_nul p) p)
      (e ∙ ap (λ (n : ℕ). take n p) (sym (eqb-true (first_nul p) (length k) t)))))
      (λ t. rw t (ne_same k (take (first_nul p) p) (λ q. eqb-false (first_nul p) (length k) t (sym (key-length q)))))

-- ---- the payload of the last WRITE

-- the payload of a WRITE of the key that left this, a value or none
abbrev pub payload_for : Bytes → Option (Option Bytes) → Option Bytes
payload_for k none = none
payload_for k (some v) = some (payload (write k v))

payload_for-or_else : (k : Bytes) (a b : Option (Option Bytes))
    → payload_for k (or_else a b) ≡ or_else (payload_for k a) (payload_for k b)
payload_for-or_else k none b = refl
payload_for-or_else k (some v) b = refl

body_for-write_of : (k : Bytes) (a : Action) → body_for k a ≡ payload_for k (write_of k a)
unfolding body_for write_of
body_for-write_of k (hello t) = refl
body_for-write_of k (sub p) = refl
body_for-write_of k (unsub p) = refl
body_for-write_of k (read x) = refl
body_for-write_of k (write x v) = either (same k x) (λ t. rw (t, same-eq k x t)) (λ t. rw t)
body_for-write_of k (ping i) = refl

-- the last WRITE's payload is that of a WRITE of the key which left what the server says it left
pub last_body-last_write : (k : Bytes) (xs : List Action) → last_body k xs ≡ payload_for k (last_write k xs)
unfolding last_body last_write
last_body-last_write k [] = refl
last_body-last_write k (a ∷ xs) =
    rw (last_body-last_write k xs, body_for-write_of k a) (sym (payload_for-or_else k (last_write k xs) (write_of k a)))
