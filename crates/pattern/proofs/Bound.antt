-- The bound on the steps: an element that is no group costs at most the key's length and 1 each time that it is tried,
-- and each is tried at most once.
use mathlib.Core.List.{[], ◌∷◌}
use mathlib.Core.Bool.{Bool, true, false, cond}
use Prim.Native.Nat.{ℕ, ◌+◌, ◌*◌, ◌≤◌}
use native.Mathlib.Nat.{add-mul, one-mul, mul-le-mul, le_trans}
use native.Mathlib.Omega.{arith}
use lib.ListN.{length, drop, length-drop}
use lib.Dec.{eqb}
use Rattle.octets.specs.Octets.{Bytes}
use Rattle.pattern.specs.declared.element.Simple.{Simple}
use Rattle.pattern.specs.declared.element.Simple.TheVariants as Simples
use Rattle.pattern.specs.Tree.{Elem, Seq, Branches, simple, group, done, ◌▸◌, last, ◌or◌, branches, sequence}
use Rattle.pattern.specs.Matching.{Outcome, hit, miss, more, and_then, or_else, upto, single}
use Rattle.pattern.specs.Matching.{simple_m, elem_m, seq_m, branch_m}
use Rattle.pattern.specs.Answer.{steps_of}
use Rattle.pattern.specs.Places.{tree_at}
use Rattle.pattern.specs.Walking.{Short}
use Rattle.pattern.proofs.Weights.{weight_e, weight_s, weight_b, weight-sequence, weight-branches, weight-at}

unfoldable left_of : Outcome → ℕ
left_of (hit k n) = length k
left_of (miss n) = 0

-- at most `most` steps, and at most K bytes of the key left
record Few (most K : ℕ) (o : Outcome) : Type 0 where
  steps : steps_of o ≤ most
  left : left_of o ≤ K

few-more : (m n K : ℕ) (o : Outcome) → Few n K o → Few (m + n) K (more m o)
unfolding more steps_of left_of
few-more m n K (hit k a) f = record { steps = omega (arith, f.steps); left = f.left }
few-more m n K (miss a) f = record { steps = omega (arith, f.steps); left = f.left }

few-weaken : (m n J K : ℕ) (o : Outcome) → m ≤ n → J ≤ K → Few m J o → Few n K o
few-weaken m n J K o h l f = record { steps = le_trans f.steps h; left = le_trans f.left l }

few-then : (a b K : ℕ) (o : Outcome) (f : Bytes → Outcome) → Few a K o → ((k : Bytes) → length k ≤ K → Few b K (f k))
    → Few (a + b) K (and_then o f)
unfolding and_then steps_of left_of
few-then a b K (hit k n) f s t =
    few-weaken (n + b) (a + b) K K _ (omega (arith, s.steps)) (omega arith) (few-more n b K _ (t k s.left))
few-then a b K (miss n) f s t = record { steps = omega (arith, s.steps); left = s.left }

few-else : (a b K : ℕ) (o p : Outcome) → Few a K o → Few b K p → Few (a + b) K (or_else o p)
unfolding or_else steps_of left_of
few-else a b K (hit k n) p s t = record { steps = omega (arith, s.steps); left = s.left }
few-else a b K (miss n) p s t =
    few-weaken (n + b) (a + b) K K _ (omega (arith, s.steps)) (omega arith) (few-more n b K _ t)

few-upto : (c : ℕ) (k : Bytes) → Few (length k + 1) (length k) (upto c k)
unfolding upto more steps_of left_of
few-upto c [] = record { steps = omega arith; left = omega arith }
few-upto c (x ∷ k) = found (eqb x c) (few-upto c k)
  where
    found : (b : Bool) → Few (length k + 1) (length k) (upto c k)
        → Few (length (x ∷ k) + 1) (length (x ∷ k)) (more 1 (cond b (hit k 0) (upto c k)))
    found true f = record { steps = omega arith; left = omega arith }
    found false f =
        few-weaken (1 + (length k + 1)) _ (length k) _ _ (omega arith) (omega arith)
        (few-more 1 _ _ _ f)

few-single : (f : ℕ → Bool) (k : Bytes) → Few 1 (length k) (single f k)
unfolding single steps_of left_of
few-single f [] = record { steps = omega arith; left = omega arith }
few-single f (x ∷ k) = test (f x)
  where
    test : (b : Bool) → Few 1 (length (x ∷ k)) (cond b (hit k 1) (miss 1))
    test true = record { steps = omega arith; left = omega arith }
    test false = record { steps = omega arith; left = omega arith }

few-simple : (K : ℕ) (x : Simple) (k : Bytes) → length k ≤ K → Few (K + 1) K (simple_m x k)
unfolding simple_m steps_of left_of
few-simple K (Simples.Byte c) k h = few-weaken 1 _ (length k) _ _ (omega arith) h (few-single _ k)
few-simple K Simples.Any k h = few-weaken 1 _ (length k) _ _ (omega arith) h (few-single _ k)
few-simple K (Simples.Upto c) k h = few-weaken (length k + 1) _ (length k) _ _ (omega arith) h (few-upto c k)
few-simple K Simples.Rest k h = record { steps = omega arith; left = omega arith }

mutual
  unfolding weight_e elem_m steps_of left_of

  few-elem : (K : ℕ) (e : Elem) (k : Bytes) → length k ≤ K → Few (weight_e e * (K + 1)) K (elem_m e k)
  few-elem K (simple x) k h = rw one-mul (few-simple K x k h)
  few-elem K (group b) k h = few-branch K b k h

  few-seq : (K : ℕ) (s : Seq) (k : Bytes) → length k ≤ K → Few (weight_s s * (K + 1)) K (seq_m s k)
  few-seq K done k h = record { steps = omega arith; left = h }
  few-seq K (e ▸ s) k h = rw add-mul (few-then _ _ K _ _ (few-elem K e k h) (few-seq K s))

  few-branch : (K : ℕ) (b : Branches) (k : Bytes) → length k ≤ K → Few (weight_b b * (K + 1)) K (branch_m b k)
  few-branch K (last s) k h = few-seq K s k h
  few-branch K (s or b) k h = rw add-mul (few-else _ _ K _ _ (few-seq K s k h) (few-branch K b k h))

-- from every place of every pattern on, at every key of at most K bytes
module _ (p : Bytes) (at K : ℕ) (k : Bytes) (h : length k ≤ K) where
  pub steps-sequence : steps_of (seq_m (sequence (tree_at p at)) k) ≤ length p * (K + 1)
  steps-sequence =
      le_trans (few-seq K (sequence (tree_at p at)) k h).steps
      (mul-le-mul (le_trans (weight-sequence (tree_at p at)) (weight-at p at)) (omega arith))

  pub steps-branches : steps_of (branch_m (branches (tree_at p at)) k) ≤ length p * (K + 1)
  steps-branches =
      le_trans (few-branch K (branches (tree_at p at)) k h).steps
      (mul-le-mul (le_trans (weight-branches (tree_at p at)) (weight-at p at)) (omega arith))

-- a walk's steps fit a number of 64 bits
module _ (p key : Bytes) (at k : ℕ) (s : Short p key at k) where
  most : length p * (length key + 1) ≤ 16711680
  most =
      let h : length key + 1 ≤ 65536 = omega (arith, s.key-short) in
      mul-le-mul s.p-short h

  key_left : length (drop k key) ≤ length key
  key_left = omega (arith, length-drop k key)

  pub sequence-most : steps_of (seq_m (sequence (tree_at p at)) (drop k key)) ≤ 16711680
  sequence-most = le_trans (steps-sequence p at (length key) (drop k key) key_left) most

  pub branches-most : steps_of (branch_m (branches (tree_at p at)) (drop k key)) ≤ 16711680
  branches-most = le_trans (steps-branches p at (length key) (drop k key) key_left) most
