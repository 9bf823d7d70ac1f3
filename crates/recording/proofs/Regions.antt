-- The laws of the region: its rules one by one, what its numbers say of the actions, and whether one more fits.
use mathlib.Core.Path.{◌≡◌, sym, ◌∙◌}
use mathlib.Core.List.{List, [], ◌∷◌, ◌++◌}
use mathlib.Core.Bool.{true, false, ◌&&◌, not}
use Prim.Native.Nat.{ℕ, ◌+◌, ◌-◌, ◌≤◌, ◌<◌}
use native.Mathlib.Nat.{zero-add, add-zero}
use native.Mathlib.Omega.{arith}
use lib.Dec.{eqb, leb}
use lib.ListN.{length, length-append}
use borrow.Author.Tests.{eqb-true, leb-true, leb-false, le-leb, lt-leb}
use Rattle.octets.specs.Octets.{Bytes}
use Rattle.octets.specs.Number.{number_at}
use Rattle.octets.proofs.Parts.{length_part}
use Rattle.protocol.specs.Terms.{Action, payload}
use Rattle.model.specs.State.{is_on, is_spoiled, actions_in, recording_charge, recording_fits}
use Rattle.recording.specs.Encoding.{actions_from, rows_fine}
use Rattle.recording.specs.Region.{state_of, used_of, count_of, room_of, rows_of, recorded, transaction_in}
use Rattle.recording.specs.Region.{transaction_of, sized, state_fine, recording_fine}
use Rattle.recording.specs.States.{number_of}
use Rattle.recording.specs.Promises.{Fits}
use denote.Enum.Bare.{sameb}
use Rattle.recording.specs.contracts.State.{the_type}
use Rattle.recording.specs.declared.State.{State}
use Rattle.recording.specs.declared.State.TheVariants.{Off, On, Spoiled}
use Rattle.recording.proofs.Tests.{either, and_both, and-true-true}
use Rattle.recording.proofs.Packed.{length-actions_from, recording_charge-actions_from}

-- ---- the rules

pub record Rules (r : Bytes) : Type 0 where
  pub head : 12 ≤ length r
  pub short : length r ≤ 262156
  pub used : used_of r ≤ length r - 12
  pub few : count_of r ≤ 64
  pub state : state_fine (state_of r) (count_of r) ≡ true
  pub rows : rows_fine (count_of r) (rows_of r) ≡ true

pub sized-bounds : (r : Bytes) → sized r ≡ true → (12 ≤ length r) × (length r ≤ 262156)
unfolding sized
sized-bounds r h =
    let p = and_both (leb 12 (length r)) (leb (length r) 262156) h in
    (leb-true 12 (length r) p.0, leb-true (length r) 262156 p.1)

pub fine-rules : {r : Bytes} → recording_fine r ≡ true → Rules r
unfolding recording_fine
fine-rules {r} h =
    let p₀ = and_both (sized r) _ h in
    let p₁ = and_both (leb (used_of r) (room_of r)) _ p₀.1 in
    let p₂ = and_both (leb (count_of r) 64) _ p₁.1 in
    let p₃ = and_both (state_fine (state_of r) (count_of r)) _ p₂.1 in
    let b = sized-bounds r p₀.0 in
    record {
      head = b.0;
      short = b.1;
      used = leb-true (used_of r) (room_of r) p₁.0;
      few = leb-true (count_of r) 64 p₂.0;
      state = p₃.0;
      rows = p₃.1;
    }

pub rules-fine : {r : Bytes} → Rules r → recording_fine r ≡ true
unfolding recording_fine sized
rules-fine {r} w =
    and-true-true (and-true-true (le-leb 12 (length r) w.head) (le-leb (length r) 262156 w.short))
    (and-true-true (le-leb (used_of r) (room_of r) w.used)
    (and-true-true (le-leb (count_of r) 64 w.few)
    (and-true-true w.state w.rows)))

pub fine_head : (r : Bytes) → recording_fine r ≡ true → 12 ≤ length r
fine_head r h = (fine-rules h).head

pub sized_head : (r : Bytes) → sized r ≡ true → 12 ≤ length r
sized_head r h = (sized-bounds r h).0

pub length-rows_of : {r : Bytes} → Rules r → length (rows_of r) ≡ used_of r
unfolding rows_of
length-rows_of {r} w = length_part r 12 (used_of r) (omega (arith, w.used, w.head))

-- ---- readers

pub used-charge : (r : Bytes) → recording_fine r ≡ true → used_of r ≡ recording_charge (recorded r)
unfolding recorded
used-charge r h =
    let w = fine-rules h in
    sym (recording_charge-actions_from (count_of r) (rows_of r) w.rows ∙ length-rows_of w)

pub count-recorded : (r : Bytes) → count_of r ≡ length (recorded r)
unfolding recorded
count-recorded r = sym (length-actions_from (count_of r) (rows_of r))

pub few-recorded : (r : Bytes) → recording_fine r ≡ true → length (recorded r) ≤ 64
few-recorded r h = omega (arith, count-recorded r, (fine-rules h).few)

pub number-recorded : (r : Bytes) (n : ℕ) → n ≡ number_at 4 r 8 → n ≡ length (recorded r)
unfolding count_of
number-recorded r n e = e ∙ count-recorded r

pub is_on-state : (state : ℕ) (xs : List Action) → is_on (transaction_in state xs) ≡ not (eqb state 0)
unfolding transaction_in
is_on-state state xs =
    either (eqb state 0) (λ t. rw t) (λ t. rw t (either (eqb state 2) (λ u. rw u) (λ u. rw u)))

pub is_spoiled-state : (state : ℕ) (xs : List Action) → is_spoiled (transaction_in state xs) ≡ eqb state 2
unfolding transaction_in
is_spoiled-state state xs =
    either (eqb state 0)
    (λ t. rw (eqb-true state 0 t))
    (λ t. rw t (either (eqb state 2) (λ u. rw u) (λ u. rw u)))

-- the same of a state and its number
pub is_on-number : (s : State) (n : ℕ) (xs : List Action) → number_of s ≡ n
    → not (sameb the_type s Off) ≡ is_on (transaction_in n xs)
unfolding transaction_in
is_on-number Off n xs e = rw (← e)
is_on-number On n xs e = rw (← e)
is_on-number Spoiled n xs e = rw (← e)

pub is_spoiled-number : (s : State) (n : ℕ) (xs : List Action) → number_of s ≡ n
    → sameb the_type s Spoiled ≡ is_spoiled (transaction_in n xs)
unfolding transaction_in
is_spoiled-number Off n xs e = rw (← e)
is_spoiled-number On n xs e = rw (← e)
is_spoiled-number Spoiled n xs e = rw (← e)

pub state-known : (r : Bytes) → recording_fine r ≡ true → state_of r ≤ 2
unfolding state_fine
state-known r h =
    either (eqb (state_of r) 1)
    (λ e. omega (arith, eqb-true (state_of r) 1 e))
    (λ e. leb-true (state_of r) 2 (and_both (leb (state_of r) 2) _ (rw e at (fine-rules h).state)).0)

-- a state beside which no action is held
none-counted : (state n : ℕ) → state_fine state n ≡ true → eqb state 1 ≡ false → n ≡ 0
unfolding state_fine
none-counted state n h e = eqb-true n 0 (and_both (leb state 2) _ (rw e at h)).1

-- the actions of the rows are those of the transaction: without one, and in a spoiled one, there are none
pub recorded-actions : (r : Bytes) → recording_fine r ≡ true → recorded r ≡ actions_in (transaction_of r)
unfolding recorded transaction_in actions_from
recorded-actions r h =
    either (eqb (state_of r) 0)
    (λ e. rw (e, none-counted (state_of r) (count_of r) (fine-rules h).state (rw (eqb-true (state_of r) 0 e))))
    (λ e. rw e (either (eqb (state_of r) 2)
    (λ u. rw (u, none-counted (state_of r) (count_of r) (fine-rules h).state (rw (eqb-true (state_of r) 2 u))))
    (λ u. rw u)))

recording_charge-append : (xs ys : List Action) → recording_charge (xs ++ ys) ≡ recording_charge xs + recording_charge ys
unfolding recording_charge
recording_charge-append [] ys = sym (zero-add (recording_charge ys))
recording_charge-append (a ∷ xs) ys = rw (recording_charge-append xs ys) (omega arith)

recording_charge-one : (a : Action) → recording_charge (a ∷ []) ≡ length (payload a) + 4
unfolding recording_charge
recording_charge-one a = add-zero (length (payload a) + 4)

-- the limits, on the region's numbers
pub recording_fits-next : (r : Bytes) (a : Action) → recording_fine r ≡ true
    → recording_fits (room_of r) (recorded r ++ (a ∷ [])) ≡ leb (count_of r + 1) 64
    && leb (used_of r + (length (payload a) + 4)) (room_of r)
unfolding recording_fits
recording_fits-next r a h =
    rw (
      length-append (recorded r) (a ∷ []),
      ← (count-recorded r),
      recording_charge-append (recorded r) (a ∷ []),
      ←
          (used-charge r h),
      recording_charge-one a,
    )

-- ---- whether one more fits

module _ (r : Bytes) (n : ℕ) (h : recording_fine r ≡ true) where
  pub fits-many : 64 ≤ count_of r → Fits r n false
  fits-many k =
      let l : 64 < count_of r + 1 = omega arith in
      record { value = λ a e. sym (recording_fits-next r a h ∙ rw (lt-leb (count_of r + 1) 64 l)) }

  fits-few : count_of r < 64 → Fits r n (leb (used_of r + (n + 4)) (room_of r))
  fits-few k =
      let l : count_of r + 1 ≤ 64 = omega arith in
      record { value = λ a e. sym (recording_fits-next r a h ∙ rw (le-leb (count_of r + 1) 64 l, e)) }

  pub fits-full : count_of r < 64 → length r < 16 + used_of r → Fits r n false
  fits-full k l =
      let g : length r - 12 < used_of r + (n + 4) = omega (arith, (fine-rules h).used) in
      rw (lt-leb (used_of r + (n + 4)) (length r - 12) g) at (fits-few k)

  pub fits-room : count_of r < 64 → 16 + used_of r ≤ length r → Fits r n (leb n (length r - (16 + used_of r)))
  fits-room k l =
      either (leb n (length r - (16 + used_of r)))
      (λ t. let g : used_of r + (n + 4) ≤ length r - 12 = omega (arith, leb-true n (length r - (16 + used_of r)) t) in
      rw t (rw (le-leb (used_of r + (n + 4)) (length r - 12) g) at (fits-few k)))
      (λ t. let g : length r - 12 < used_of r + (n + 4) = omega (arith, leb-false n (length r - (16 + used_of r)) t) in
      rw t (rw (lt-leb (used_of r + (n + 4)) (length r - 12) g) at (fits-few k)))

-- what the test of one more rests on
pub ruleset fits_tests = (fine_head, few-recorded)

-- what the readers of the header rest on
pub ruleset readers = (fine_head, number-recorded, state-known, is_on-number, is_spoiled-number)
