-- A transaction written as a recording region: it keeps the rules and means the transaction.
use mathlib.Core.Path.{◌≡◌, refl, ap, ap₂, ◌∙◌}
use mathlib.Core.List.{List, [], ◌∷◌, ◌++◌}
use mathlib.Core.Bool.{true, not}
use Prim.Native.Nat.{ℕ, suc, ◌+◌, ◌*◌, ◌≤◌, ◌<◌}
use native.Mathlib.Omega.{arith}
use lib.Dec.{leb}
use lib.ListN.{length, drop, get_or, length-append}
use borrow.Author.Tests.{leb-true, le-leb}
use Rattle.octets.specs.Octets.{Bytes}
use Rattle.octets.specs.Number.{number_at}
use Rattle.protocol.specs.Terms.{Action, hello, sub, unsub, read, write, ping, payload, action_id}
use Rattle.pattern.specs.Syntax.{valid}
use Rattle.model.specs.State.{Transaction, off, begun, spoiled, actions_in, recording_charge, recording_fits}
use Rattle.model.specs.Lawful.{ValidAction}
use Rattle.model.specs.Invariant.{Each, ValidRecording}
use Rattle.model.proofs.Tests.{and_left, and_right}
use Rattle.recording.specs.Encoding.{reads_back, action_fine, row_of, actions_from, rows_fine}
use Rattle.recording.specs.Region.{state_of, used_of, count_of, room_of, rows_of, recorded, transaction_in, transaction_of}
use Rattle.recording.specs.Region.{sized, state_fine, recording_fine}
use Rattle.recording.proofs.Tests.{and-true-true}
use Rattle.recording.proofs.Encodings.{action_of-payload}
use Rattle.recording.proofs.Packed.{length-row_of, rows_fine-row_of, actions_from-row_of, rows_fine-append, actions_from-append}
use Rattle.infod3.specs.Infod3.{infod3}
use Rattle.guarantee.proofs.Filled.{numbers_then, length-numbers_then, number_at-numbers_then, drop-numbers_then}
use Rattle.guarantee.proofs.Filled.{filled, length-filled, take-filled, table_bytes}

-- an action as a row
unfoldable pub action_bytes : Action → Bytes
action_bytes a = row_of (action_id a) (payload a)

-- the numbers of a region with this state and these actions
abbrev pub numbers_of : ℕ → List Action → List ℕ
numbers_of state xs = state ∷ recording_charge xs ∷ length xs ∷ []

-- the region, in a room of R bytes
unfoldable pub recording_bytes : ℕ → ℕ → List Action → Bytes
recording_bytes R state xs = numbers_then (numbers_of state xs) (filled R (table_bytes action_bytes xs))

-- the state: 0 none, 1 recording, 2 spoiled
abbrev pub state_number : Transaction → ℕ
state_number off = 0
state_number (begun xs) = 1
state_number spoiled = 2

-- a transaction as a region
unfoldable pub transaction_bytes : ℕ → Transaction → Bytes
transaction_bytes R t = recording_bytes R (state_number t) (actions_in t)

-- ---- the rows

action-fine : (a : Action) → ValidAction valid a → action_fine (action_id a) (length (payload a)) ≡ true
unfolding action_fine payload
action-fine (hello t) v = le-leb _ _ v.short
action-fine (sub p) v = le-leb _ _ v.content.short
action-fine (unsub p) v = le-leb _ _ v.content.short
action-fine (read k) v = le-leb _ _ v.short
action-fine (write k w) v = le-leb _ _ v.short
action-fine (ping i) v = le-leb _ _ v.short

action-back : (a : Action) → ValidAction valid a → reads_back a ≡ true
unfolding reads_back
action-back (hello t) v = refl
action-back (sub p) v = refl
action-back (unsub p) v = refl
action-back (read k) v = refl
action-back (write k w) v = ap not v.content
action-back (ping i) v = refl

actions-fine : (xs : List Action) → Each (ValidAction valid) xs
    → rows_fine (length xs) (table_bytes action_bytes xs) ≡ true
unfolding table_bytes action_bytes rows_fine
actions-fine [] h = refl
actions-fine (a ∷ xs) h =
    let e : 1 + length xs ≡ suc (length xs) = omega arith in
    rw e at (rows_fine-append 1 (length xs) (action_bytes a) (table_bytes action_bytes xs)
    (rows_fine-row_of (action_id a) (payload a) (action-fine a h.0)) (actions-fine xs h.1))

actions-are : (xs : List Action) → Each (ValidAction valid) xs → actions_from (length xs) (table_bytes action_bytes xs) ≡ xs
unfolding table_bytes action_bytes actions_from
actions-are [] h = refl
actions-are (a ∷ xs) h =
    let e : 1 + length xs ≡ suc (length xs) = omega arith in
    let f = action-fine a h.0 in
    let one : actions_from 1 (action_bytes a) ≡ a ∷ [] =
    actions_from-row_of (action_id a) (payload a) f
    ∙ ap (λ (x : Action). x ∷ []) (action_of-payload a (action-back a h.0)) in
    (rw e at (actions_from-append 1 (length xs) (action_bytes a) (table_bytes action_bytes xs)
    (rows_fine-row_of (action_id a) (payload a) f)))
    ∙ ap₂ ◌++◌ one (actions-are xs h.1)

length-actions : (xs : List Action) → Each (ValidAction valid) xs
    → length (table_bytes action_bytes xs) ≡ recording_charge xs
unfolding table_bytes action_bytes recording_charge
length-actions [] h = refl
length-actions (a ∷ xs) h =
    rw (length-append, length-row_of (action_id a) (payload a) (action-fine a h.0), length-actions xs h.1)
    (omega arith)

-- ---- the region

module _ (room state : ℕ) (xs : List Action) (small : room ≤ 262144) (known : state_fine state (length xs) ≡ true)
    (small-state : state ≤ 2) (v : ValidRecording infod3 valid room xs) where
  abbrev region : Bytes
  region = recording_bytes room state xs

  few : length xs ≤ 64
  unfolding recording_fits
  few = leb-true _ _ (and_left (leb (length xs) 64) _ v.fits)

  charge-most : recording_charge xs ≤ room
  unfolding recording_fits
  charge-most = leb-true _ _ (and_right (leb (length xs) 64) _ v.fits)

  length-recording : length (recording_bytes room state xs) ≡ 12 + room
  unfolding recording_bytes
  length-recording =
      let l = length-actions xs v.actions in
      rw (length-numbers_then, length-filled room (table_bytes action_bytes xs) (omega (arith, l, charge-most)))

  number_is : (i : ℕ) → i < 3 → number_at 4 (recording_bytes room state xs) (4 * i) ≡ get_or (numbers_of state xs) i 0
  unfolding recording_bytes
  number_is =
      number_at-numbers_then (numbers_of state xs) (filled room (table_bytes action_bytes xs))
      (omega (arith, small-state), (omega (arith, charge-most, small), (omega (arith, few), tt)))

  state-is : state_of region ≡ state
  unfolding state_of
  state-is = number_is 0 (omega arith)

  used-is : used_of region ≡ recording_charge xs
  unfolding used_of
  used-is = number_is 1 (omega arith)

  recorded-count : count_of region ≡ length xs
  unfolding count_of
  recorded-count = number_is 2 (omega arith)

  rows_are : rows_of region ≡ table_bytes action_bytes xs
  unfolding rows_of recording_bytes
  rows_are =
      let d : drop 12 region ≡ filled room (table_bytes action_bytes xs) =
      drop-numbers_then (numbers_of state xs) (filled room (table_bytes action_bytes xs)) in
      rw (used-is, d, ← (length-actions xs v.actions)) (take-filled room (table_bytes action_bytes xs))

  recording-fine : recording_fine region ≡ true
  unfolding recording_fine sized
  recording-fine =
      let l = length-recording in
      let used : used_of region ≤ room_of region = rw used-is (omega (arith, charge-most)) in
      let count : count_of region ≤ 64 = rw recorded-count few in
      let state : state_fine (state_of region) (count_of region) ≡ true = rw (state-is, recorded-count) known in
      let rows : rows_fine (count_of region) (rows_of region) ≡ true =
      rw (recorded-count, rows_are) (actions-fine xs v.actions) in
      and-true-true
      (and-true-true (le-leb 12 (length region) (omega arith)) (le-leb (length region) 262156 (omega arith)))
      (and-true-true (le-leb (used_of region) (room_of region) used)
      (and-true-true (le-leb (count_of region) 64 count)
      (and-true-true state rows)))

  transaction-is : transaction_of region ≡ transaction_in state xs
  unfolding recorded
  transaction-is = rw (state-is, recorded-count, rows_are, actions-are xs v.actions)

-- ---- a transaction

state-small : (t : Transaction) → state_number t ≤ 2
state-small off = omega arith
state-small (begun xs) = omega arith
state-small spoiled = omega arith

state-known : (t : Transaction) → state_fine (state_number t) (length (actions_in t)) ≡ true
unfolding state_fine
state-known off = refl
state-known (begun xs) = refl
state-known spoiled = refl

state-means : (t : Transaction) → transaction_in (state_number t) (actions_in t) ≡ t
unfolding transaction_in
state-means off = refl
state-means (begun xs) = refl
state-means spoiled = refl

-- what a transaction within its limits has recorded
actions-valid : (R : ℕ) (t : Transaction)
    → ((xs : List Action) → t ≡ begun xs → ValidRecording infod3 valid R xs)
    → ValidRecording infod3 valid R (actions_in t)
unfolding recording_fits recording_charge
actions-valid R off h = record { fits = le-leb 0 R (omega arith); actions = tt }
actions-valid R (begun xs) h = h xs refl
actions-valid R spoiled h = record { fits = le-leb 0 R (omega arith); actions = tt }

module _ (R : ℕ) (t : Transaction) (small : R ≤ 262144)
    (h : (xs : List Action) → t ≡ begun xs → ValidRecording infod3 valid R xs) where
  pub length-transaction : length (transaction_bytes R t) ≡ 12 + R
  unfolding transaction_bytes
  length-transaction =
      length-recording R (state_number t) (actions_in t) small (state-known t) (state-small t) (actions-valid R t h)

  pub transaction-fine : recording_fine (transaction_bytes R t) ≡ true
  unfolding transaction_bytes
  transaction-fine =
      recording-fine R (state_number t) (actions_in t) small (state-known t) (state-small t) (actions-valid R t h)

  pub transaction-means : transaction_of (transaction_bytes R t) ≡ t
  unfolding transaction_bytes
  transaction-means =
      transaction-is R (state_number t) (actions_in t) small (state-known t) (state-small t) (actions-valid R t h)
      ∙ state-means t
