-- A store region whose rows are changed in the middle: what is behind the change is moved, other rows are written
-- before it, and the head follows. One law serves a row put in, replaced or taken out.
use mathlib.Core.Path.{◌≡◌, ◌∙◌}
use mathlib.Core.List.{[], ◌∷◌, ◌++◌, append_assoc}
use Prim.Native.Nat.{ℕ, ◌+◌, ◌-◌, ◌*◌, ◌≤◌, ◌<◌, ◌^◌}
use native.Mathlib.Omega.{arith}
use lib.ListN.{length, drop, length-drop}
use lib.Seq.{sets, sets-eq, length-sets, drop-drop}
use Rattle.octets.specs.Octets.{Bytes}
use Rattle.octets.specs.Part.{part}
use Rattle.octets.specs.Number.{big_endian}
use Rattle.octets.proofs.Parts.{length_part, take_part, drop-part, take-part-drop, part-sets-after, part-sets-moved}
use Rattle.octets.proofs.Numbers.{number_at-sets-same, number_at-sets-before, length-big_endian}
use Rattle.model.specs.Store.{Store, store_charge}
use Rattle.model.specs.Invariant.{Ascending}
use Rattle.store.specs.Row.{row_size}
use Rattle.store.specs.Region.{used_of, count_of, rows_of, headed}
use Rattle.store.specs.Operation.{Becomes}
use Rattle.store.proofs.Rows.{Rows, rows_append, rows-front, rows_behind}
use Rattle.store.proofs.Region.{Represents, used-charge, represents-fine, represents-holds}
use Rattle.store.proofs.Split.{charge-append}

-- bytes that are moved to where they are
pub sets-moved-none : (s : Bytes) (from to n : ℕ) → from ≡ to → from + n ≤ length s → sets s to (part s from n) ≡ s
sets-moved-none s from to n e h =
    let l = length_part s from n h in
    let k : from + length (part s from n) ≤ length s = omega arith in
    rw (← e, sets-eq (part s from n) s from k, append_assoc, l) (take-part-drop s from n)

-- rows of which each is as long as a message allows
length-bound : (s : Bytes) (es : Store) → Rows s es → length s ≤ 65542 * length es
unfolding Rows
length-bound s [] r = omega arith
length-bound s (e ∷ es) r =
    let b = length-bound (drop (row_size s) s) es r.1 in
    let d = length-drop (row_size s) s in
    omega (arith, r.0.row.short)

pub length-headed : (st : Bytes) (u n : ℕ) → length (headed st u n) ≡ length st
length-headed st u n = simp length-sets

pub represents-headed : (st : Bytes) (es : Store) (u n : ℕ) → Rows (part st 8 u) es → Ascending es
    → n ≡ length es → n ≤ 1024 → 8 + u ≤ length st → Represents (headed st u n) es
unfolding rows_of
represents-headed st es u n r a e f h =
    let l = length-bound (part st 8 u) es r in
    let lp = length_part st 8 u h in
    let small : u < 256 ^ 4 = omega arith in
    let few : n < 256 ^ 4 = omega arith in
    let st₁ = sets st 0 (big_endian 4 u) in
    let l₁ : length st₁ ≡ length st = length-sets st 0 (big_endian 4 u) in
    let lb : 4 + length (big_endian 4 n) ≤ 8 = rw (length-big_endian 4 n) (omega arith) in
    let lc : 0 + length (big_endian 4 u) ≤ 8 = rw (length-big_endian 4 u) (omega arith) in
    let eu : used_of (headed st u n) ≡ u =
    number_at-sets-before 4 st₁ 4 (big_endian 4 n) 0 (omega arith) ∙ number_at-sets-same 4 st 0 u (omega arith) small in
    let en : count_of (headed st u n) ≡ n = number_at-sets-same 4 st₁ 4 n (omega arith) few in
    let ep : part (headed st u n) 8 u ≡ part st 8 u =
    part-sets-after st₁ 4 (big_endian 4 n) 8 u lb ∙ part-sets-after st 0 (big_endian 4 u) 8 u lc in
    record {
      long = rw eu (omega (arith, length-headed st u n));
      few = omega arith;
      count = en ∙ e;
      rows = rw (eu, ep) r;
      ascending = a;
    }

module _ (st : Bytes) (ls os ns us : Store) (v : Bytes) (at old behind from to used' count' : ℕ)
    (r : Represents st (ls ++ (os ++ us))) (w : Rows v ns) (asc : Ascending (ls ++ (ns ++ us)))
    (e-at : at ≡ store_charge ls) (e-old : old ≡ store_charge os) (e-behind : behind ≡ used_of st - (at + old))
    (e-from : from ≡ 8 + at + old) (e-to : to ≡ 8 + at + length v)
    (e-used : used' ≡ at + length v + behind) (e-count : count' ≡ length (ls ++ (ns ++ us)))
    (room : 8 + used' ≤ length st) (few : count' ≤ 1024) where
  used-parts : used_of st ≡ at + (old + store_charge us)
  used-parts = omega (arith, used-charge r, charge-append ls (os ++ us), charge-append os us)

  rows-lower : Rows (part st 8 at) ls
  unfolding rows_of
  rows-lower =
      let u = used-parts in
      rw (← e-at, take_part st 8 (used_of st) at (omega arith)) at (rows-front (rows_of st) ls (os ++ us) r.rows)

  rows-upper : Rows (part st from behind) us
  unfolding rows_of
  rows-upper =
      let b = rows_behind (drop (store_charge ls) (rows_of st)) os us (rows_behind (rows_of st) ls (os ++ us) r.rows) in
      let i : from ≡ 8 + (at + old) = omega arith in
      rw (← e-at, ← e-old, drop-drop old at (rows_of st), drop-part st 8 (used_of st) (at + old), ← i, ← e-behind) at b

  pub represents-splice
      : Represents (headed (sets (sets st to (part st from behind)) (8 + at) v) used' count') (ls ++ (ns ++ us))
  represents-splice =
      let st₁ = sets (sets st to (part st from behind)) (8 + at) v in
      let u = used-parts in
      let g = r.long in
      let m : part st₁ 8 used' ≡ part st 8 at ++ (v ++ part st from behind) =
      rw (e-used, e-to) (part-sets-moved st 8 at v from behind (omega arith) (omega arith)) in
      let rows : Rows (part st₁ 8 used') (ls ++ (ns ++ us)) =
      rw m
      (rows_append (part st 8 at) (v ++ part st from behind) ls (ns ++ us) rows-lower
      (rows_append v (part st from behind) ns us w rows-upper)) in
      let l : length st₁ ≡ length st = simp length-sets in
      represents-headed st₁ (ls ++ (ns ++ us)) used' count' rows asc e-count few (omega arith)

-- a region that represents a store has become it
pub becomes : {st' : Bytes} {es : Store} (st : Bytes) → length st' ≡ length st → Represents st' es → Becomes st st' es
becomes st l r = record { same_length = l; fine = represents-fine r; holds = represents-holds r }
