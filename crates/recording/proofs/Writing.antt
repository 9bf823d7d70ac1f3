-- What writes make of the region: its header, an empty recording, a slip, an action added.
use mathlib.Core.Path.{◌≡◌, refl, sym, ap, ◌∙◌}
use mathlib.Core.List.{[], ◌∷◌, ◌++◌}
use mathlib.Core.Bool.{true, false, ◌&&◌}
use Prim.Native.Nat.{ℕ, suc, ◌+◌, ◌-◌, ◌^◌, ◌≤◌, ◌<◌}
use native.Mathlib.Numerals.{add-one}
use native.Mathlib.Omega.{arith}
use lib.Dec.{leb}
use lib.ListN.{length, drop, set}
use lib.Seq.{sets, length-sets}
use borrow.Author.Tests.{leb-true, le-leb}
use Rattle.octets.specs.Octets.{Bytes}
use Rattle.octets.specs.Part.{part}
use Rattle.octets.specs.Number.{big_endian}
use Rattle.octets.proofs.Laws.{sets-append}
use Rattle.octets.proofs.Parts.{drop-sets, part-sets-end}
use Rattle.octets.proofs.Numbers.{number_at-sets-same, number_at-sets-apart, length-big_endian}
use Rattle.protocol.specs.Terms.{payload}
use Rattle.model.specs.State.{off, begun, is_on, after_slip}
use Rattle.model.proofs.Transactions.{after_slip-on, after_slip-off}
use Rattle.recording.specs.Encoding.{action_of, row_of, actions_from, rows_fine}
use Rattle.recording.specs.Region.{state_of, used_of, count_of, room_of, rows_of, recorded, transaction_in}
use Rattle.recording.specs.Region.{transaction_of, sized, state_fine, recording_fine}
use Rattle.recording.specs.Promises.{Becomes, headed, Addable}
use Rattle.recording.proofs.Tests.{and_both, and-true-true}
use Rattle.recording.proofs.Encodings.{payload-action_of}
use Rattle.recording.proofs.Packed.{rows_fine-append, actions_from-append, rows_fine-row_of, actions_from-row_of}
use Rattle.recording.proofs.Packed.{length-row_of}
use Rattle.recording.proofs.Regions.{sized-bounds, fine-rules, rules-fine, recording_fits-next, fine_head, sized_head}

-- ---- the header written

module _ (r : Bytes) (s u n : ℕ) (l : 12 ≤ length r) where
  length-headed : length (headed r s u n) ≡ length r
  unfolding headed
  length-headed = simp length-sets

  state_of-headed : s < 256 ^ 4 → state_of (headed r s u n) ≡ s
  unfolding state_of headed
  state_of-headed h = simp (number_at-sets-apart, tt {0}) (number_at-sets-same 4 r 0 s (omega arith) h)

  used_of-headed : u < 256 ^ 4 → used_of (headed r s u n) ≡ u
  unfolding used_of headed
  used_of-headed h =
      simp (number_at-sets-apart, tt {0})
      (number_at-sets-same 4 (sets r 0 (big_endian 4 s)) 4 u (simp length-sets (omega arith)) h)

  count_of-headed : n < 256 ^ 4 → count_of (headed r s u n) ≡ n
  unfolding count_of headed
  count_of-headed h =
      number_at-sets-same 4 (sets (sets r 0 (big_endian 4 s)) 4 (big_endian 4 u)) 8 n (simp length-sets (omega arith)) h

  drop-headed : drop 12 (headed r s u n) ≡ drop 12 r
  unfolding headed
  drop-headed =
      let r₁ : Bytes = sets r 0 (big_endian 4 s) in
      let r₂ : Bytes = sets r₁ 4 (big_endian 4 u) in
      drop-sets r₂ 8 (big_endian 4 n) 12 (rw (length-big_endian 4 n) (omega arith))
      ∙ drop-sets r₁ 4 (big_endian 4 u) 12 (rw (length-big_endian 4 u) (omega arith))
      ∙ drop-sets r 0 (big_endian 4 s) 12 (rw (length-big_endian 4 s) (omega arith))

  rows_of-headed : u < 256 ^ 4 → rows_of (headed r s u n) ≡ part r 12 u
  unfolding rows_of
  rows_of-headed h = rw (used_of-headed h, drop-headed)

-- what the header makes of the bytes behind it
pub record Header (r : Bytes) (s u n : ℕ) : Type 0 where
  pub head : 12 ≤ length r
  pub short : length r ≤ 262156
  pub room : u ≤ length r - 12
  pub few : n ≤ 64
  pub state : state_fine s n ≡ true
  pub known : s ≤ 2
  pub rows : rows_fine n (part r 12 u) ≡ true

headed-fine : {r : Bytes} {s u n : ℕ} → Header r s u n → recording_fine (headed r s u n) ≡ true
headed-fine {r} {s} {u} {n} w =
    let hs : s < 256 ^ 4 = omega (arith, w.known) in
    let hu : u < 256 ^ 4 = omega (arith, w.room, w.short) in
    let hn : n < 256 ^ 4 = omega (arith, w.few) in
    let es = state_of-headed r s u n w.head hs in
    let eu = used_of-headed r s u n w.head hu in
    let en = count_of-headed r s u n w.head hn in
    let el = length-headed r s u n w.head in
    rules-fine (record {
      head = rw el w.head;
      short = rw el w.short;
      used = rw (eu, el) w.room;
      few = rw en w.few;
      state = rw (es, en) w.state;
      rows = rw (en, rows_of-headed r s u n w.head hu) w.rows;
    })

transaction_of-headed : {r : Bytes} {s u n : ℕ} → Header r s u n
    → transaction_of (headed r s u n) ≡ transaction_in s (actions_from n (part r 12 u))
unfolding recorded
transaction_of-headed {r} {s} {u} {n} w =
    let hs : s < 256 ^ 4 = omega (arith, w.known) in
    let hu : u < 256 ^ 4 = omega (arith, w.room, w.short) in
    let hn : n < 256 ^ 4 = omega (arith, w.few) in
    rw (state_of-headed r s u n w.head hs, count_of-headed r s u n w.head hn, rows_of-headed r s u n w.head hu)

-- no rows
empty-header : (r : Bytes) (s : ℕ) → sized r ≡ true → s ≤ 2 → state_fine s 0 ≡ true → Header r s 0 0
unfolding rows_fine
empty-header r s h k f =
    let b = sized-bounds r h in
    record { head = b.0; short = b.1; room = omega arith; few = omega arith; state = f; known = k; rows = refl }

pub becomes-empty : (r : Bytes) (s : ℕ) → sized r ≡ true → s ≤ 2 → state_fine s 0 ≡ true
    → Becomes (transaction_in s []) r (headed r s 0 0)
unfolding actions_from
becomes-empty r s h k f =
    let e = empty-header r s h k f in
    record { fine = headed-fine e; size = length-headed r s 0 0 e.head; holds = transaction_of-headed e }

-- ---- what a header without actions makes of the region

module _ (r r′ : Bytes) where
  pub becomes-begun : sized r ≡ true → r′ ≡ headed r 1 0 0 → Becomes (begun []) r r′
  unfolding transaction_in state_fine
  becomes-begun h e = rw e (becomes-empty r 1 h (omega arith) refl)

  pub becomes-off : sized r ≡ true → r′ ≡ headed r 0 0 0 → Becomes off r r′
  unfolding transaction_in state_fine
  becomes-off h e = rw e (becomes-empty r 0 h (omega arith) refl)

  pub becomes-spoiled : recording_fine r ≡ true → is_on (transaction_of r) ≡ true → r′ ≡ headed r 2 0 0
      → Becomes (after_slip (transaction_of r)) r r′
  unfolding transaction_in state_fine sized
  becomes-spoiled h o e =
      let w = fine-rules h in
      rw (after_slip-on (transaction_of r) o, e)
      (becomes-empty r 2 (and-true-true (le-leb 12 (length r) w.head) (le-leb (length r) 262156 w.short))
      (omega arith) refl)

  pub becomes-same : recording_fine r ≡ true → is_on (transaction_of r) ≡ false → r′ ≡ r
      → Becomes (after_slip (transaction_of r)) r r′
  becomes-same h o e = rw (after_slip-off (transaction_of r) o, e) (record { fine = h; size = refl; holds = refl })

pub ruleset headers = (fine_head, sized_head, becomes-begun, becomes-off, becomes-spoiled, becomes-same)

-- ---- an action added

on-state : (n : ℕ) → state_fine 1 n ≡ true
unfolding state_fine
on-state n = refl

-- the bytes of a row, stored one after the other
pub row_written : (r : Bytes) (at id : ℕ) (p : Bytes)
    → sets (sets (set r at id) (at + 1) (big_endian 3 (length p))) (at + 4) p ≡ sets r at (row_of id p)
unfolding row_of
row_written r at id p =
    let e : at + 1 + length (big_endian 3 (length p)) ≡ at + 4 = omega (arith, length-big_endian 3 (length p)) in
    let f : at + 1 ≡ suc at = add-one at in
    rw (← e, f) (sym (sets-append (set r at id) (suc at) (big_endian 3 (length p)) p))

-- an action with a payload of n bytes fits
pub record Space (r : Bytes) (n : ℕ) : Type 0 where
  pub few : count_of r + 1 ≤ 64
  pub room : used_of r + (n + 4) ≤ length r - 12

-- the region with a row behind the last
abbrev pub added : Bytes → ℕ → Bytes → Bytes
added r id p = sets r (12 + used_of r) (row_of id p)

module _ (r : Bytes) (id : ℕ) (p : Bytes) (w : Addable r id p) where
  pub space : Space r (length p)
  space =
      let f : leb (count_of r + 1) 64 && leb (used_of r + (length (payload (action_of id p)) + 4)) (room_of r) ≡ true =
      sym (recording_fits-next r (action_of id p) w.fine) ∙ w.fits in
      let b = and_both (leb (count_of r + 1) 64) _ f in
      let k : used_of r + (length (payload (action_of id p)) + 4) ≤ room_of r = leb-true _ (room_of r) b.1 in
      record { few = leb-true (count_of r + 1) 64 b.0; room = rw payload-action_of at k }

  length-added : length (added r id p) ≡ length r
  length-added = length-sets r (12 + used_of r) (row_of id p)

  rows-added : part (added r id p) 12 (used_of r + 4 + length p) ≡ rows_of r ++ row_of id p
  unfolding rows_of
  rows-added =
      let m = fine-rules w.fine in
      let e : length (row_of id p) ≡ 4 + length p = length-row_of id p w.known in
      let f : used_of r + 4 + length p ≡ used_of r + length (row_of id p) = omega arith in
      rw f (part-sets-end r 12 (used_of r) (row_of id p) (omega (arith, space.room, m.head)))

  added-header : Header (added r id p) 1 (used_of r + 4 + length p) (count_of r + 1)
  added-header =
      let m = fine-rules w.fine in
      record {
        head = rw length-added m.head;
        short = rw length-added m.short;
        room = rw length-added (omega (arith, space.room));
        few = space.few;
        state = on-state (count_of r + 1);
        known = omega arith;
        rows = rw rows-added (rows_fine-append (count_of r) 1 (rows_of r) (row_of id p) m.rows
            (rows_fine-row_of id p w.known));
      }

  added-actions : actions_from (count_of r + 1) (part (added r id p) 12 (used_of r + 4 + length p))
      ≡ recorded r ++ (action_of id p ∷ [])
  unfolding recorded
  added-actions =
      let m = fine-rules w.fine in
      rw (rows-added, actions_from-append (count_of r) 1 (rows_of r) (row_of id p) m.rows, actions_from-row_of id p w.known)

  pub becomes-added : Becomes (begun (recorded r ++ (action_of id p ∷ []))) r
      (headed (added r id p) 1 (used_of r + 4 + length p) (count_of r + 1))
  unfolding transaction_in
  becomes-added =
      record {
        fine = headed-fine added-header;
        size = length-headed (added r id p) 1 (used_of r + 4 + length p) (count_of r + 1) added-header.head
            ∙ length-added;
        holds = transaction_of-headed added-header ∙ ap (transaction_in 1) added-actions;
      }
