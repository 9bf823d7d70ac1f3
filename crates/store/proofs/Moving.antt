-- An index while its offsets are moved one by one.
use mathlib.Core.Path.{◌≡◌, refl, ap, ◌∙◌}
use mathlib.Core.List.{List}
use Prim.Native.Nat.{ℕ, ◌+◌, ◌≤◌, ◌<◌}
use native.Mathlib.Omega.{arith}
use borrow.Author.Tests.{eqb-true, eqb-false, leb-true}
use lib.Dec.{eqb, leb}
use lib.ListN.{length, get_or, set, length-set}
use lib.Seq.{get_or-set_same, get_or-set_other}
use Rattle.model.proofs.Tests.{either}
use Rattle.store.specs.Index.{moved, Moved}

-- a row of the same length moves no offset
pub moved_none : (index : List ℕ) (at : ℕ) {old new : ℕ} → old ≡ new → Moved index at old new index
unfolding moved
moved_none index at {old} {new} e = record { size = refl; each = λ i h. stays (get_or index i 0) }
  where
    stays : (a : ℕ) → a ≡ moved at old new a
    stays a =
        either (leb (at + old) a)
        (λ b. let l = leb-true (at + old) a b in rw b (omega arith))
        (λ b. rw b)

-- the first n offsets are moved, and the others are as they were
pub record Moving (index : List ℕ) (at old new n : ℕ) (index' : List ℕ) : Type 0 where
  pub size : length index' ≡ length index
  pub done : (j : ℕ) → j < n → get_or index' j 0 ≡ moved at old new (get_or index j 0)
  pub others : (j : ℕ) → n ≤ j → get_or index' j 0 ≡ get_or index j 0

pub moving-start : (index : List ℕ) (at old new : ℕ) → Moving index at old new 0 index
moving-start index at old new = record { size = refl; done = λ j h. absurd (omega arith); others = λ j h. refl }

module _ {index : List ℕ} {at old new n : ℕ} {index' : List ℕ} (m : Moving index at old new n index') where
  pub moving-next : n < length index'
      → Moving index at old new (n + 1) (set index' n (moved at old new (get_or index' n 0)))
  moving-next h =
      let a = moved at old new (get_or index' n 0) in
      record {
        size = length-set index' n a ∙ m.size;
        done = λ j l. either (eqb j n)
            (λ e. let q : j ≡ n = eqb-true j n e in
            rw q (get_or-set_same index' n a 0 h ∙ ap (moved at old new) (m.others n (omega arith))))
            (λ e. get_or-set_other index' n j a 0 (eqb-false j n e)
            ∙ m.done j (let d = eqb-false j n e in omega arith));
        others = λ j l. get_or-set_other index' n j a 0 (λ e. omega arith) ∙ m.others j (omega arith);
      }

  pub moving-end : length index' ≤ n → Moved index at old new index'
  moving-end h = record { size = m.size; each = λ j l. m.done j (omega (arith, m.size)) }
