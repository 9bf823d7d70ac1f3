-- What a broker's step needs of the store region beside the contracts, one law each: a WRITE by its payload, whether
-- it fits, whether it changes the store, and a walk over the rows.
use mathlib.Core.Path.{◌≡◌, refl, sym, ap, ◌∙◌}
use mathlib.Core.List.{[], ◌∷◌, ◌++◌}
use mathlib.Core.Bool.{true, false, not}
use mathlib.Core.Option.{Option, some, none}
use Prim.Native.Nat.{ℕ, ◌+◌, ◌≤◌}
use native.Mathlib.Omega.{arith}
use native.Mathlib.Numerals.{add-one}
use borrow.Author.Tests.{lt-ltb}
use lib.Dec.{ltb}
use lib.ListN.{length, take, drop, length-append, take-append-drop}
use lib.Seq.{take-append_seam, drop-append-add, drop-cons, get_or-append_seam}
use Rattle.octets.specs.Octets.{Bytes}
use Rattle.octets.specs.Order.{same}
use Rattle.octets.proofs.Orders.{same-level}
use Rattle.protocol.specs.Terms.{write, info, value_tail, payload, message_payload}
use Rattle.model.specs.Store.{Entry, Store, lookup, store_after_write, store_fits, same_value, changes}
use Rattle.store.specs.Row.{key_of, body_of, entry_of, row_fine}
use Rattle.store.specs.Region.{room_of, store_fine, store_of}
use Rattle.store.specs.Operation.{body, Found, store_fits_with, Payload, put_payload, Writable}
use Rattle.store.proofs.RowLaws.{sound-fine, body_of-split}
use Rattle.store.proofs.Region.{ascending-store_of, charge-store_of, length-store_of, Remains, remains-row}
use Rattle.store.proofs.Split.{fits_with-store_fits}
use Rattle.store.proofs.Change.{charge-payload}

-- ---- a WRITE by its payload

-- the payload of a WRITE with a value, and of an INFO with one, is the entry's body
pub payload-write : (k v : Bytes) → payload (write k (some v)) ≡ body k (some v)
unfolding payload value_tail body
payload-write k v = refl

pub payload-info : (k v : Bytes) → message_payload (info k (some v)) ≡ body k (some v)
unfolding message_payload value_tail body
payload-info k v = refl

module _ (k v : Bytes) where
  take-body : take (length k) (body k (some v)) ≡ k
  unfolding body
  take-body = take-append_seam k (0 ∷ v)

  drop-body : drop (length k + 1) (body k (some v)) ≡ v
  unfolding body
  drop-body = drop-append-add k (0 ∷ v) 1

  -- a body is a payload with its key in front
  pub payload-body : length (body k (some v)) ≤ 65535 → Payload (body k (some v)) (length k)
  unfolding body
  payload-body h =
      record { key-within = rw length-append (omega arith); nul = get_or-append_seam k 0 v 0; short = h }

  -- and what it makes of a store is what the WRITE makes
  pub put_payload-body : (es : Store) → put_payload (body k (some v)) (length k) es ≡ store_after_write k (some v) es
  unfolding put_payload store_after_write
  put_payload-body es = rw (take-body, drop-body)

-- a payload is the body of its key and value
pub body-payload : (p : Bytes) (n : ℕ) → Payload p n → body (take n p) (some (drop (n + 1) p)) ≡ p
unfolding body
body-payload p n h =
    let l = h.key-within in
    let c : drop n p ≡ 0 ∷ drop (n + 1) p = rw (add-one n) (rw h.nul at (drop-cons p n 0 l)) in
    rw (← c) (take-append-drop n p)

-- ---- whether it fits

-- what `find` and `fits` say together: the payload may be written, or the simple server refuses the WRITE
pub fits-payload : (st p : Bytes) (n at old : ℕ) → store_fine st ≡ true → Payload p n → Found st (take n p) at old
    → store_fits_with st old (7 + length p) ≡ store_fits (room_of st) (put_payload p n (store_of st))
unfolding put_payload store_after_write
fits-payload st p n at old f h d =
    rw (d.size, ← (charge-payload p n h), ← (charge-store_of st f), ← (length-store_of st f))
    (fits_with-store_fits (room_of st) (take n p) (some (drop (n + 1) p)) (store_of st) (ascending-store_of st f))

pub writable : (st p : Bytes) (n at old : ℕ) → store_fine st ≡ true → Payload p n → Found st (take n p) at old
    → store_fits_with st old (7 + length p) ≡ true → Writable st p n
writable st p n at old f h d e =
    record { fine = f; payload = h; fits = sym (fits-payload st p n at old f h d) ∙ e }

-- ---- whether it changes the store

-- a key is absent where its body is empty
pub body-none : (k : Bytes) (o : Option Bytes) → length (body k o) ≡ 0 → o ≡ none
unfolding body
body-none k none e = refl
body-none k (some v) e = absurd (omega (arith, length-append k (0 ∷ v)))

same-append : (k s t : Bytes) → same (k ++ s) (k ++ t) ≡ same s t
same-append [] s t = refl
same-append (a ∷ k) s t = same-level {a = a} {b = a} (k ++ s) (k ++ t) refl ∙ same-append k s t

same-nil : (k : Bytes) (b : ℕ) (s : Bytes) → same (k ++ (b ∷ s)) [] ≡ false
unfolding same
same-nil [] b s = refl
same-nil (a ∷ k) b s = refl

-- A WRITE with a value changes the store unless its payload is the body found.
pub changes-some : (k v : Bytes) (es : Store)
    → changes k (some v) es ≡ not (same (body k (some v)) (body k (lookup k es)))
unfolding changes same_value body
changes-some k v es = ap not (go (lookup k es))
  where
    go : (o : Option Bytes) → same_value (some v) o ≡ same (body k (some v)) (body k o)
    go none = sym (same-nil k 0 v)
    go (some w) = sym (same-append k (0 ∷ v) (0 ∷ w) ∙ same-level {a = 0} {b = 0} v w refl)

-- the same of a payload
pub changes-payload : (p : Bytes) (n : ℕ) (es : Store) → Payload p n
    → changes (take n p) (some (drop (n + 1) p)) es ≡ not (same p (body (take n p) (lookup (take n p) es)))
changes-payload p n es h =
    changes-some (take n p) (drop (n + 1) p) es
    ∙ ap (λ (x : Bytes). not (same x (body (take n p) (lookup (take n p) es)))) (body-payload p n h)

-- A WRITE without a value changes the store where a body is found.
pub changes-none : (k : Bytes) (es : Store) → changes k none es ≡ ltb 0 (length (body k (lookup k es)))
unfolding changes same_value body
changes-none k es = go (lookup k es)
  where
    go : (o : Option Bytes) → not (same_value none o) ≡ ltb 0 (length (body k o))
    go none = refl
    go (some w) = sym (lt-ltb 0 (length (k ++ (0 ∷ w))) (rw length-append (omega arith)))

-- ---- a walk over the rows

-- the row at the offset: it is one, and its key and body are the first entry's
pub record RowOf (st : Bytes) (at : ℕ) (e : Entry) : Type 0 where
  pub fine : row_fine (drop (8 + at) st) ≡ true
  pub key : key_of (drop (8 + at) st) ≡ e.key
  pub bytes : body_of (drop (8 + at) st) ≡ body e.key (some e.value)

pub row_first : {st : Bytes} {at : ℕ} {e : Entry} {es : Store} → Remains st at (e ∷ es) → RowOf st at e
unfolding entry_of body
row_first {st} {at} r =
    let q = (remains-row r).0 in
    let k = ap (λ (e : Entry). e.key) q.entry in
    let v = ap (λ (e : Entry). e.value) q.entry in
    record {
      fine = sound-fine (drop (8 + at) st) q.row;
      key = k;
      bytes = rw (← k, ← v) (body_of-split (drop (8 + at) st) q.row);
    }
