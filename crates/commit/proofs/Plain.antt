-- A WRITE that runs by itself: whether it is refused, by the size of the key's row.
use mathlib.Core.Path.{◌≡◌, refl, ap}
use mathlib.Core.Bool.{true, not}
use Prim.Native.Nat.{ℕ, ◌≤◌}
use native.Mathlib.Omega.{arith}
use lib.ListN.{length, take, drop}
use Rattle.octets.specs.Octets.{Bytes}
use Rattle.command.specs.declared.Written.{Written}
use Rattle.model.specs.Store.{store_charge, store_after_write, store_fits}
use Rattle.model.specs.Step.{refuses}
use Rattle.recording.specs.Encoding.{value_behind, write_from}
use Rattle.store.specs.Region.{room_of, store_fine, store_of}
use Rattle.store.specs.Operation.{lower, Found, store_fits_with, Replacement}
use Rattle.store.proofs.Region.{ascending-store_of, charge-store_of, length-store_of}
use Rattle.store.proofs.Split.{fits_with-store_fits}
use Rattle.store.proofs.Change.{found_within}
use Rattle.commit.specs.Tally.{written_size}
use Rattle.commit.specs.Promises.{Writing, WriteRefused}
use Rattle.commit.proofs.Parts.{written_size-charge, written_size-le}

-- the rows of a WRITE can be exchanged
pub replacement : {st p : Bytes} {n : ℕ} {w : Written} {old : ℕ} → store_fine st ≡ true → length p ≤ 65535
    → Writing st p n w old → Replacement st old (written_size n w)
replacement {st} {p} {n} {w} {old} f l h =
    let d : Found st (take n p) (store_charge (lower (take n p) (store_of st))) old =
    record { offset = refl; size = h.row } in
    record {
      fine = f;
      old-used = omega (arith, found_within f d);
      new-short = omega (arith, written_size-le h.parts);
    }

-- the test on the sizes of the rows is the simple server's test of the store after the WRITE
pub refused-by-size : {st : Bytes} {n : ℕ} {w : Written} {old : ℕ} → store_fine st ≡ true
    → WriteRefused st n w old (not (store_fits_with st old (written_size n w)))
unfolding refuses write_from
refused-by-size {st} {n} {w} {old} f =
    record {
      value = λ p h ps.
          let t : store_fits_with st old (written_size n w)
          ≡ store_fits (room_of st) (store_after_write (take n p) (value_behind (drop n p)) (store_of st)) =
          rw (h.row, written_size-charge h.parts, ← (charge-store_of st f), ← (length-store_of st f))
          (fits_with-store_fits (room_of st) (take n p) (value_behind (drop n p)) (store_of st) (ascending-store_of st f)) in
          rw (← h.parts.key) (ap not t);
    }
