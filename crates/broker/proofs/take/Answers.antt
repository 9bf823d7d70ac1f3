-- `broker::take` meets its contract.
use mathlib.Core.Path.{◌≡◌, refl, sym, ap, ◌∙◌}
use mathlib.Core.Bool.{true}
use Prim.Native.Nat.{ℕ}
use native.Mathlib.Omega.{arith}
use lib.ListN.{length}
use borrow.Author.Tests.{not-true, not-false}
use Rattle.octets.specs.Octets.{Bytes}
use Rattle.model.specs.Decision.{takes, Reply, unaltered}
use Rattle.model.specs.Calls.{decide}
use Rattle.model.specs.State.{slot_at}
use Rattle.model.proofs.Decisions.{take-free}
use Rattle.memory.specs.Image.{is_used, client_at, image_of}
use Rattle.memory.specs.Rules.{memory_fine}
use Rattle.memory.specs.Promises.{InResting}
use Rattle.memory.proofs.Fine.{fine-sound, fine-client}
use Rattle.infod3.specs.Infod3.{infod3}
use Rattle.refinement.specs.Promises.{Takes}
use Rattle.refinement.proofs.Events.{after_event-took}
use Rattle.refinement.proofs.Ends.{becomes-as}
use Rattle.broker.proofs.Serving.{failed, takes-as, takes-nothing, serves-broken, serves-unaltered, serves-done}
use Rattle.broker.proofs.Serving.{never-answered, slot-inside, client-is, reply-decided, reply-broken}
use Rattle.broker.proofs.Deciding.{not-used, take-empty, take_short, take-first}
use Rattle.broker.proofs.take.Goals as goal

-- the client rests
resting : {m : Bytes} {i : ℕ} → memory_fine m ≡ true → is_used (slot_at i (image_of m)) ≡ true → InResting m i
resting {m} {i} f u = fine-client m i f (slot-inside f u).inside u

-- a take that alters nothing
nothing : {m out : Bytes} {i k : ℕ} → memory_fine m ≡ true
    → decide infod3 (takes i (length out)) (image_of m) ≡ unaltered k → Takes infod3 i m out k 0 m out
nothing {m} {out} {i} {k} f d =
    takes-nothing (serves-unaltered k f d refl refl refl)
    (ap (λ (r : Reply). r.bytes) (reply-decided (takes i (length out)) m _ f d)) refl

pub returns-in_err-check : goal.returns-in_err-check
returns-in_err-check c =
    let f = c.in_err-check.ensures in
    takes-as (failed c.from_residual.ensures.1 f.1)
    (takes-nothing (serves-broken f.0 refl refl refl) (ap (λ (r : Reply). r.bytes) (reply-broken _ _ f.0)) refl)

pub client_in-requires : goal.client_in-requires
client_in-requires c = fine-sound c.args.mem.now c.in_ok-check.ensures

pub returns-in_err-client_in : goal.returns-in_err-client_in
returns-in_err-client_in c =
    let im = image_of c.args.mem.now in
    let i = c.args.slot in
    let f = c.in_err-client_in.ensures in
    takes-as (failed c.from_residual-in_err-client_in.ensures.1 f.1)
    (nothing c.in_ok-check.ensures
    (take-free infod3 im i (length c.args.out.now) (not-used (slot_at i im) f.0)))

pub has_message-requires : goal.has_message-requires
has_message-requires c = resting c.in_ok-check.ensures c.in_ok-client_in.ensures

pub returns-then-not-has_message : goal.returns-then-not-has_message
returns-then-not-has_message c =
    let im = image_of c.args.mem.now in
    let i = c.args.slot in
    nothing c.in_ok-check.ensures
    (take-empty infod3 im i (length c.args.out.now) (client_at i im) (client-is i im c.in_ok-client_in.ensures)
    (not-false _ (sym c.has_message.ensures ∙ c.if-not-has_message.true)))

pub first_length-requires : goal.first_length-requires
first_length-requires c = resting c.in_ok-check.ensures c.in_ok-client_in.ensures

pub returns-then-out-first_length : goal.returns-then-out-first_length
returns-then-out-first_length c =
    let im = image_of c.args.mem.now in
    let i = c.args.slot in
    let short = c.if-out-first_length.true in
    nothing c.in_ok-check.ensures
    (take_short infod3 im i (length c.args.out.now) (client_at i im) (client-is i im c.in_ok-client_in.ensures)
    (not-true _ (sym c.has_message.ensures ∙ c.if-not-has_message.false))
    (omega (arith, short, c.first_length.ensures)))

pub take-requires : goal.take-requires
take-requires c =
    let long = c.if-out-first_length.false in
    record {
      in-resting = resting c.in_ok-check.ensures c.in_ok-client_in.ensures;
      room = omega (arith, long, c.first_length.ensures);
    }

pub returns : goal.returns
returns c =
    let m = c.args.mem.now in
    let i = c.args.slot in
    let len = length c.args.out.now in
    let f = c.in_ok-check.ensures in
    let long = c.if-out-first_length.false in
    let t = c.take.ensures in
    let d =
    take-first infod3 (image_of m) i len (client_at i (image_of m)) (client-is i (image_of m) c.in_ok-client_in.ensures)
    (not-true _ (sym c.has_message.ensures ∙ c.if-not-has_message.false))
    (omega (arith, long, c.first_length.ensures)) in
    record {
      serves =
          serves-done _ f d refl t.count (λ l h. absurd (never-answered l refl))
          (becomes-as (sym (after_event-took infod3 (image_of m) i)) t.left);
      written = rw (reply-decided (takes i len) m _ f d) t.copied;
    }
