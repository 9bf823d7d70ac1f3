-- Demand 1 as one theorem over every call and every memory that is lent, from the simple server's laws of answers and
-- refusals on what the memory means.
use mathlib.Core.Path.{◌≡◌, refl, ap, ◌∙◌}
use mathlib.Core.List.{[]}
use mathlib.Core.Bool.{true}
use mathlib.Core.Logic.{inl}
use Prim.Native.Nat.{ℕ, ◌≤◌}
use native.Mathlib.Omega.{arith}
use lib.Dec.{leb}
use lib.ListN.{length}
use lib.Seq.{sets}
use Rattle.octets.specs.Octets.{Bytes}
use Rattle.model.specs.State.{Sizes, in_range, slot_at}
use Rattle.model.specs.Decision.{Call, takes, Reply, Decision}
use Rattle.model.specs.Calls.{decide, serve}
use Rattle.model.proofs.Tests.{either, by-test}
use Rattle.model.proofs.Answers.{answers, unaltered-decision, refused-alone}
use Rattle.memory.specs.Layout.{memory_size}
use Rattle.memory.specs.Image.{Image, image_of}
use Rattle.memory.specs.Rules.{memory_fine}
use Rattle.infod3.specs.Infod3.{infod3}
use Rattle.refinement.specs.Promises.{set_up_answer, reply_to, image_after, Serves}
use Rattle.guarantee.specs.Demand1.{Asked, call, Called, sets-up, serves, gives, Numbered, RefusedAlone}
use Rattle.guarantee.specs.Demand1.{Demand1}

-- ---- the answers

-- set up answers 0, 5 or 8
set_up_answer-most : (z : Sizes) (m : Bytes) → set_up_answer z m ≤ 8
unfolding set_up_answer
set_up_answer-most z m =
    by-test (λ (n : ℕ). n ≤ 8) (in_range z)
    (λ e. by-test (λ (n : ℕ). n ≤ 8) (leb (memory_size z) (length m)) (λ t. omega arith) (λ t. omega arith))
    (λ e. omega arith)

decided-numbered : (x : Call) (im : Image) → Numbered (decide infod3 x im).reply.answer
unfolding serve
decided-numbered x im = answers infod3 im x

reply-numbered : (x : Call) (m : Bytes) → Numbered (reply_to infod3 x m).answer
unfolding reply_to
reply-numbered x m =
    by-test (λ (r : Reply). Numbered r.answer) (memory_fine m)
    (λ e. decided-numbered x (image_of m)) (λ e. inl (omega arith))

-- a call answered 1 to 8 gives no bytes
reply-no-bytes : (x : Call) (m : Bytes) → 1 ≤ (reply_to infod3 x m).answer → (reply_to infod3 x m).answer ≤ 8
    → (reply_to infod3 x m).bytes ≡ []
unfolding reply_to serve
reply-no-bytes x m =
    by-test (λ (r : Reply). 1 ≤ r.answer → r.answer ≤ 8 → r.bytes ≡ []) (memory_fine m)
    (λ e p q. ap (λ (d : Decision). d.reply.bytes) (unaltered-decision infod3 (image_of m) x p q))
    (λ e p q. refl)

-- ---- refusals

module _ {x : Call} {answer count : ℕ} {m m' : Bytes} (s : Serves infod3 x m answer count m') (h : 100 ≤ answer) where
  abbrev im : Image
  im = image_of m

  -- 7 is no refusal, so the memory keeps its rules
  fine : memory_fine m ≡ true
  unfolding reply_to
  fine =
      either (memory_fine m) (λ e. e)
      (λ e. let a : answer ≡ 7 = rw e at s.answered in absurd (omega arith))

  same_answer : answer ≡ (serve infod3 x im).reply.answer
  unfolding reply_to serve
  same_answer = rw fine at s.answered

  same-image : image_of m' ≡ (serve infod3 x im).next
  unfolding image_after serve
  same-image = (s.next fine).means

  -- what the simple server says of a refusal holds of what the memory means
  refused : RefusedAlone (call x) answer m m'
  refused =
      let l : 100 ≤ (serve infod3 x im).reply.answer = omega (arith, same_answer) in
      let r = refused-alone infod3 im x l in
      record {
        slot = r.slot;
        input = r.input;
        fed = ap call r.fed;
        reason = r.reason;
        numbered = same_answer ∙ r.numbered;
        client = r.client;
        before = r.touched.before;
        was-open = r.touched.was-open;
        consumed = r.consumed;
        kind = r.kind-now;
        reading = r.reading;
        reads = r.reads;
        left = r.left;
        leaves = r.leaves;
        after = ap (slot_at r.slot) same-image ∙ r.touched.after;
        store_kept = ap (λ (i : Image). i.store) same-image ∙ r.touched.store_kept;
        sizes-kept = ap (λ (i : Image). i.sizes) same-image ∙ r.touched.sizes-kept;
        others-kept = λ j n. ap (slot_at j) same-image ∙ r.touched.others-kept j n;
      }

-- ---- all of it

-- Demand 1: every call, set up included, whatever memory and whatever arguments it is given.
pub demand-1 : {asked : Asked} {m out m' out' : Bytes} {answer count : ℕ} → Called asked m out answer count m' out'
    → Demand1 asked m out answer m' out'
demand-1 (sets-up {z} {m} {answer = answer} s) =
    let most : answer ≤ 8 = rw s.answered (set_up_answer-most z m) in
    record {
      numbered = inl most;
      unaltered = λ p q. (s.unaltered p, refl);
      refused = λ h. absurd (omega arith);
    }
demand-1 (serves {x} {m} silent s) =
    record {
      numbered = rw s.answered (reply-numbered x m);
      unaltered = λ p q. (s.unaltered p q, refl);
      refused = refused s;
    }
demand-1 (gives {i} {m} {out} {answer = answer} t) =
    let x : Call = takes i (length out) in
    let s = t.serves in
    record {
      numbered = rw s.answered (reply-numbered x m);
      unaltered = λ p q. (
        s.unaltered p q,
        t.written ∙ ap (sets out 0) (reply-no-bytes x m (rw s.answered at p) (rw s.answered at q)),
      );
      refused = refused s;
    }
