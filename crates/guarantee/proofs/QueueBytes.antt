-- Untaken messages written as a queue region: it is at rest and means the messages.
use mathlib.Core.Path.{◌≡◌}
use mathlib.Core.List.{List, [], ◌∷◌}
use Prim.Native.Nat.{ℕ, ◌+◌, ◌*◌, ◌≤◌, ◌<◌}
use native.Mathlib.Nat.{sub-zero}
use native.Mathlib.Omega.{arith}
use lib.ListN.{length, drop, get_or}
use Rattle.octets.specs.Octets.{Bytes}
use Rattle.octets.specs.Number.{number_at}
use Rattle.model.specs.Queueing.{queue_charge}
use Rattle.queue.specs.Rows.{rows}
use Rattle.queue.specs.Region.{AtRest, head, tail, pending_end, flag, queued_of, queue_of}
use Rattle.queue.proofs.Regions.{pending_of-rest}
use Rattle.refinement.specs.Represents.{in_rows}
use Rattle.refinement.proofs.Steps.{length-rows}
use Rattle.guarantee.proofs.Filled.{numbers_then, length-numbers_then, number_at-numbers_then, drop-numbers_then}
use Rattle.guarantee.proofs.Filled.{filled, length-filled, take-filled}

-- head, tail, pending end and flag, where nothing is taken from the front and nothing is pending
abbrev pub queue_numbers : List Bytes → List ℕ
queue_numbers q = 0 ∷ length (rows q) ∷ length (rows q) ∷ 0 ∷ []

-- the untaken messages at the front of a room of 2 × Q bytes
unfoldable pub queue_bytes : ℕ → List Bytes → Bytes
queue_bytes Q q = numbers_then (queue_numbers q) (filled (2 * Q) (rows q))

module _ (Q reserve : ℕ) (q : List Bytes) (small : Q ≤ 1048576) (fits : queue_charge q + reserve ≤ Q) where
  abbrev waiting : Bytes
  waiting = queue_bytes Q q

  pub length-queue : length (queue_bytes Q q) ≡ 16 + 2 * Q
  unfolding queue_bytes
  length-queue = rw (length-numbers_then, length-filled (2 * Q) (rows q) (omega (arith, length-rows q)))

  number_is : (i : ℕ) → i < 4 → number_at 4 (queue_bytes Q q) (4 * i) ≡ get_or (queue_numbers q) i 0
  unfolding queue_bytes
  number_is =
      let n : length (rows q) < 4294967296 = omega (arith, length-rows q) in
      number_at-numbers_then (queue_numbers q) (filled (2 * Q) (rows q)) (omega arith, (n, (n, (omega arith, tt))))

  head-is : head waiting ≡ 0
  head-is = number_is 0 (omega arith)

  tail-is : tail waiting ≡ length (rows q)
  tail-is = number_is 1 (omega arith)

  end_is : pending_end waiting ≡ length (rows q)
  end_is = number_is 2 (omega arith)

  flag_is : flag waiting ≡ 0
  flag_is = number_is 3 (omega arith)

  pub at_rest : AtRest reserve waiting
  at_rest =
      let l = length-queue in
      let h = head-is in
      let t = tail-is in
      let e = end_is in
      let f = flag_is in
      let n = length-rows q in
      omega arith

  pub queue-is : queue_of waiting ≡ in_rows q
  unfolding queue_bytes
  queue-is =
      let d : drop 16 waiting ≡ filled (2 * Q) (rows q) = drop-numbers_then (queue_numbers q) (filled (2 * Q) (rows q)) in
      let b : queued_of waiting ≡ rows q =
      rw (head-is, tail-is, sub-zero (length (rows q)), d) (take-filled (2 * Q) (rows q)) in
      rw (b, pending_of-rest at_rest)
