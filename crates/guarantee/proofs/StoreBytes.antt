-- A store table_bytes as a region of its length: the region keeps the rules and means the store.
use mathlib.Core.Path.{◌≡◌, refl}
use mathlib.Core.List.{[], ◌∷◌, ◌++◌}
use mathlib.Core.Bool.{true}
use Prim.Native.Nat.{ℕ, ◌+◌, ◌*◌, ◌≤◌, ◌<◌}
use native.Mathlib.Omega.{arith}
use lib.Dec.{leb}
use lib.ListN.{length, take, drop, get_or, length-append}
use lib.Seq.{take-append_seam, drop-append-add, get_or-append_seam}
use borrow.Author.Tests.{leb-true}
use Rattle.octets.specs.Octets.{Bytes}
use Rattle.octets.specs.Number.{number_at}
use Rattle.model.specs.Store.{Entry, Store, store_charge, store_fits}
use Rattle.model.specs.Invariant.{Each, ValidEntry, Ascending}
use Rattle.model.proofs.Tests.{and_left, and_right}
use Rattle.store.specs.Row.{row_bytes}
use Rattle.store.specs.Region.{used_of, rows_of}
use Rattle.store.proofs.Rows.{Rows, rows_append, length-rows}
use Rattle.store.proofs.Region.{Represents}
use Rattle.store.proofs.Split.{own}
use Rattle.store.proofs.Change.{rows-payload}
use Rattle.guarantee.proofs.Filled.{numbers_then, length-numbers_then, number_at-numbers_then, drop-numbers_then}
use Rattle.guarantee.proofs.Filled.{filled, length-filled, take-filled, table_bytes}

-- an entry as a row
unfoldable pub entry_bytes : Entry → Bytes
entry_bytes e = row_bytes (length e.key) (e.key ++ (0 ∷ e.value))

-- a store as a region with this room
unfoldable pub store_bytes : ℕ → Store → Bytes
store_bytes S es = numbers_then (store_charge es ∷ length es ∷ []) (filled S (table_bytes entry_bytes es))

entry_row : (e : Entry) → ValidEntry e → Rows (entry_bytes e) (e ∷ [])
unfolding entry_bytes own
entry_row e v =
    let k : Bytes = e.key in
    let p : Bytes = k ++ (0 ∷ e.value) in
    let l : length p ≡ length k + (1 + length e.value) = rw length-append (omega arith) in
    let a : take (length k) p ≡ k = take-append_seam k (0 ∷ e.value) in
    let b : drop (length k + 1) p ≡ e.value = drop-append-add k (0 ∷ e.value) 1 in
    rw (a, b) at (rows-payload p (length k)
    (record { short = omega (arith, v.short); key-within = omega arith; nul = get_or-append_seam k 0 e.value 0 }))

entry-rows : (es : Store) → Each ValidEntry es → Rows (table_bytes entry_bytes es) es
unfolding table_bytes Rows
entry-rows [] h = refl
entry-rows (e ∷ es) h =
    rows_append (entry_bytes e) (table_bytes entry_bytes es) (e ∷ []) es (entry_row e h.0) (entry-rows es h.1)

module _ (S : ℕ) (es : Store) (room : S ≤ 1048576) (fits : store_fits S es ≡ true) (asc : Ascending es)
    (valid : Each ValidEntry es) where
  charge-most : store_charge es ≤ S
  unfolding store_fits
  charge-most = leb-true _ _ (and_left (leb (store_charge es) S) _ fits)

  count_most : length es ≤ 1024
  unfolding store_fits
  count_most = leb-true _ _ (and_right (leb (store_charge es) S) _ fits)

  length-entries : length (table_bytes entry_bytes es) ≡ store_charge es
  length-entries = length-rows (table_bytes entry_bytes es) es (entry-rows es valid)

  pub length-store_bytes : length (store_bytes S es) ≡ 8 + S
  unfolding store_bytes
  length-store_bytes =
      let f = length-filled S (table_bytes entry_bytes es) (omega (arith, length-entries, charge-most)) in
      rw (length-numbers_then, f)

  number_is : (i : ℕ) → i < 2 → number_at 4 (store_bytes S es) (4 * i) ≡ get_or (store_charge es ∷ length es ∷ []) i 0
  unfolding store_bytes
  number_is =
      number_at-numbers_then (store_charge es ∷ length es ∷ []) (filled S (table_bytes entry_bytes es))
      (omega (arith, charge-most), (omega (arith, count_most), tt))

  used-is : used_of (store_bytes S es) ≡ store_charge es
  used-is = number_is 0 (omega arith)

  rows_are : rows_of (store_bytes S es) ≡ table_bytes entry_bytes es
  unfolding rows_of store_bytes
  rows_are =
      let d : drop 8 (store_bytes S es) ≡ filled S (table_bytes entry_bytes es) =
      drop-numbers_then (store_charge es ∷ length es ∷ []) (filled S (table_bytes entry_bytes es)) in
      rw (used-is, d, ← length-entries) (take-filled S (table_bytes entry_bytes es))

  pub store_bytes-represents : Represents (store_bytes S es) es
  store_bytes-represents =
      record {
        long = rw (used-is, length-store_bytes) (omega (arith, charge-most));
        few = count_most;
        count = number_is 1 (omega arith);
        rows = rw rows_are (entry-rows es valid);
        ascending = asc;
      }
