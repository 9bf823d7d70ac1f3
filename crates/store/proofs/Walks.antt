-- The test of the rows, on plain values: a walk of some rows, one row more, and one walk behind another.
use mathlib.Core.Path.{◌≡◌, refl, sym, ap, ◌∙◌}
use mathlib.Core.List.{[], ◌∷◌, ◌++◌, append_assoc}
use mathlib.Core.Bool.{true, false}
use mathlib.Core.Option.{some, none}
use Prim.Native.Nat.{ℕ, suc, ◌+◌, ◌-◌, ◌<◌}
use native.Mathlib.Nat.{zero-add, add-zero}
use native.Mathlib.Omega.{arith}
use borrow.Author.Tests.{eqb-true, eqb-false, eq-eqb, ne_eqb}
use lib.Dec.{eqb}
use lib.ListN.{length, drop, length-drop}
use lib.Seq.{drop-drop}
use Rattle.octets.specs.Octets.{Bytes}
use Rattle.octets.specs.Order.{before}
use Rattle.model.specs.Store.{Store, store_charge}
use Rattle.model.proofs.Tests.{either}
use Rattle.store.specs.Row.{row_size, key_of, entry_of, row_fine}
use Rattle.store.specs.Region.{follows, key_before, key_follows, rows_fine, entries}
use Rattle.store.specs.Index.{Boundary}
use Rattle.store.specs.Walk.{Reached, Passed, Failed}
use Rattle.store.proofs.RowLaws.{sound, row_size-charge}
use Rattle.store.proofs.Split.{charge-append}

-- ---- the key before a row

module _ (s : Bytes) (prev at : ℕ) where
  pub key_before-first : at ≡ 0 → key_before s prev at ≡ none
  unfolding key_before
  key_before-first e = rw (eq-eqb at 0 e)

  pub key_before-next : 0 < at → key_before s prev at ≡ some (key_of (drop prev s))
  unfolding key_before
  key_before-next h =
      let n : at ≡ 0 → ⊥ = λ e. omega arith in
      rw (ne_eqb at 0 n)

pub follows-first : (s : Bytes) (prev at : ℕ) → at ≡ 0 → true ≡ key_follows s prev at
unfolding follows key_follows
follows-first s prev at e = rw (key_before-first s prev at e)

pub follows_next : (s : Bytes) (prev at : ℕ) → (at ≡ 0 → ⊥)
    → before (key_of (drop prev s)) (key_of (drop at s)) ≡ key_follows s prev at
unfolding follows key_follows
follows_next s prev at n = rw (key_before-next s prev at (omega arith))

-- ---- a walk

pub reached-start : (s : Bytes) → Reached s 0 0
reached-start s = record { within = omega arith; row_before = λ e. e }

-- no row
pub passed_start : {s : Bytes} {prev at : ℕ} → Reached s prev at → Passed s prev at 0 prev at
unfolding store_charge
passed_start {s} {prev} {at} p =
    record {
      reached = p;
      same_answer = λ more. ap (λ (n : ℕ). rows_fine (key_before s prev at) n (drop at s)) (zero-add more);
      between = [];
      whole = λ more. ap (λ (n : ℕ). entries n (drop at s)) (zero-add more);
      distance = omega arith;
    }

module _ {s : Bytes} {prev at n prev' at' : ℕ} (p : Passed s prev at n prev' at') where
  -- one row more
  pub passed-next : row_fine (drop at' s) ≡ true → key_follows s prev' at' ≡ true
      → Passed s prev at (n + 1) at' (at' + row_size (drop at' s))
  unfolding rows_fine key_follows entries store_charge entry_of
  passed-next e f =
      let r = sound (drop at' s) e in
      let w = r.whole in
      let here = entry_of (drop at' s) in
      let c = row_size-charge (drop at' s) r in
      let l = p.reached.within in
      let k = p.distance in
      let a : store_charge (p.between ++ (here ∷ [])) ≡ store_charge p.between + store_charge (here ∷ []) =
      charge-append p.between (here ∷ []) in
      record {
        reached = record { within = omega (arith, length-drop at' s); row_before = λ _. e };
        same_answer = λ more.
            let m : n + 1 + more ≡ n + suc more = omega arith in
            rw (m, key_before-next s at' (at' + row_size (drop at' s)) (omega arith))
            (rw (← (drop-drop (row_size (drop at' s)) at' s)) (rw (e, f) at (p.same_answer (suc more))));
        between = p.between ++ (here ∷ []);
        whole = λ more.
            let m : n + 1 + more ≡ n + suc more = omega arith in
            rw (m, ← (drop-drop (row_size (drop at' s)) at' s))
            (p.whole (suc more)
            ∙ sym (append_assoc p.between (here ∷ []) (entries more (drop (row_size (drop at' s)) (drop at' s)))));
        distance = omega arith;
      }

  -- no row where there should be one
  pub failed-none : (count : ℕ) → n < count → row_fine (drop at' s) ≡ false → Failed s prev at count
  unfolding rows_fine
  failed-none count h e =
      record {
        answer = λ more.
            let m : count + more ≡ n + suc (count - n - 1 + more) = omega arith in
            rw m (rw e at (p.same_answer (suc (count - n - 1 + more))));
      }

  -- a row whose key does not come after the one before it
  pub failed-unordered : (count : ℕ) → n < count → row_fine (drop at' s) ≡ true → key_follows s prev' at' ≡ false
      → Failed s prev at count
  unfolding rows_fine key_follows
  failed-unordered count h e f =
      record {
        answer = λ more.
            let m : count + more ≡ n + suc (count - n - 1 + more) = omega arith in
            rw m (rw (e, f) at (p.same_answer (suc (count - n - 1 + more))));
      }

  -- a walk behind it
  pub passed-append : {k prev'' at'' : ℕ} → Passed s prev' at' k prev'' at'' → Passed s prev at (n + k) prev'' at''
  passed-append {k} {prev''} {at''} q =
      let a = charge-append p.between q.between in
      let d = p.distance in
      let f = q.distance in
      record {
        reached = q.reached;
        same_answer = λ more.
            let m : n + k + more ≡ n + (k + more) = omega arith in
            rw m (p.same_answer (k + more) ∙ q.same_answer more);
        between = p.between ++ q.between;
        whole = λ more.
            let m : n + k + more ≡ n + (k + more) = omega arith in
            rw m
            (p.whole (k + more)
            ∙ ap (λ (l : Store). p.between ++ l) (q.whole more)
            ∙ sym (append_assoc p.between q.between (entries more (drop at'' s))));
        distance = omega arith;
      }

  pub failed-append : {k : ℕ} → Failed s prev' at' k → Failed s prev at (n + k)
  failed-append {k} q =
      record {
        answer = λ more.
            let m : n + k + more ≡ n + (k + more) = omega arith in
            rw m (p.same_answer (k + more) ∙ q.answer more);
      }

-- ---- from the front of the rows

-- the walk is where a row begins, or at the end of all
pub passed-boundary : {s : Bytes} {n prev at : ℕ} → Passed s 0 0 n prev at → (left count : ℕ) → n + left ≡ count
    → Boundary (entries count s) at
passed-boundary {s} {n} {prev} {at} p left count e =
    let d = p.distance in
    record {
      front = p.between;
      rest = entries left (drop at s);
      whole = rw (← e) (p.whole left);
      place = omega arith;
    }

-- all rows have passed: nothing may be behind them
pub passed-end : {s : Bytes} {n prev at : ℕ} → Passed s 0 0 n prev at → rows_fine none n s ≡ eqb at (length s)
unfolding rows_fine
passed-end {s} {n} {prev} {at} p =
    let w = p.reached.within in
    let d = length-drop at s in
    rw (key_before-first s 0 0 refl, add-zero n) at (p.same_answer 0)
    ∙ either (eqb at (length s))
    (λ e. let q = eqb-true at (length s) e in rw e (eq-eqb (length (drop at s)) 0 (omega arith)))
    (λ e. let z : length (drop at s) ≡ 0 → ⊥ = λ z. eqb-false at (length s) e (omega arith) in
    rw e (ne_eqb (length (drop at s)) 0 z))

pub failed-end : {s : Bytes} {n : ℕ} → Failed s 0 0 n → (more count : ℕ) → n + more ≡ count
    → rows_fine none count s ≡ false
failed-end {s} {n} f more count e = rw (key_before-first s 0 0 refl, e) at (f.answer more)
