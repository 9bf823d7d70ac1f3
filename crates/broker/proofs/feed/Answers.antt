-- `broker::feed` meets its contract.
use mathlib.Core.Path.{◌≡◌, refl, sym, ap, ◌∙◌}
use mathlib.Core.Bool.{true, false, not}
use Prim.Native.Nat.{ℕ}
use lib.ListN.{length}
use borrow.Author.Tests.{not-true, not-false}
use Rattle.octets.specs.Octets.{Bytes}
use Rattle.protocol.specs.declared.Kind.{Kind}
use Rattle.framing.specs.Framing.{message}
use Rattle.wire.specs.Received.{is_whole}
use Rattle.store.proofs.Indexing.{zeros-indexed}
use Rattle.model.specs.State.{slot_at}
use Rattle.model.proofs.Decisions.{feed-free, feed-shut}
use Rattle.memory.specs.Image.{is_used, client_at, image_of}
use Rattle.memory.specs.Rules.{memory_fine}
use Rattle.memory.proofs.Fine.{fine-sound}
use Rattle.infod3.specs.Infod3.{infod3}
use Rattle.broker.specs.FeedParts.{Speaking}
use Rattle.broker.proofs.Serving.{failed, serves-as, serves-broken, serves-unaltered, slot-inside, client-is}
use Rattle.broker.proofs.Deciding.{not-used}
use Rattle.broker.proofs.Cuts.{cut-kind, cut-limited, feed-partial}
use Rattle.broker.proofs.Fed.{open-client, sending-as, serves-fed}
use Rattle.broker.proofs.feed.Goals as goal
use Rattle.broker.proofs.feed.Goals.{After-is_partial, Else-is_shut, Else-not-is_fine_indexing}

fine : (c : Else-not-is_fine_indexing) → memory_fine c.args.mem.now ≡ true
fine c = sym c.is_fine_indexing.ensures.0 ∙ c.if-not-is_fine_indexing.false

not-shut : (c : Else-is_shut) → (client_at c.args.slot (image_of c.args.mem.now)).shut ≡ false
not-shut c = sym c.is_shut.ensures ∙ c.if-is_shut.false

-- an open client in a fine memory
spoken : (m : Bytes) (i : ℕ) → memory_fine m ≡ true → is_used (slot_at i (image_of m)) ≡ true
    → (client_at i (image_of m)).shut ≡ false → Speaking m i
spoken m i f u s =
    record {
      fine = f;
      in-open = record { in-slot = slot-inside f u; has-open = open-client i (image_of m) u s };
    }

-- the kind of the client in a slot
abbrev kind-of : Bytes → ℕ → Kind
kind-of m i = (client_at i (image_of m)).kind

-- the message that was cut is the first of the client's kind
is_cut : (c : After-is_partial)
    → c.cut-m.result.now ≡ message (kind-of c.args.mem.now c.args.slot) c.args.input.now
is_cut c = c.cut-m.ensures ∙ ap (λ (k : Kind). message k c.args.input.now) c.kind-kind.ensures

-- whether it is whole
whole-test : (c : After-is_partial)
    → c.is_partial.result
    ≡ not (is_whole (kind-of c.args.mem.now c.args.slot)
    (length (message (kind-of c.args.mem.now c.args.slot) c.args.input.now)))
whole-test c =
    c.is_partial.ensures
    ∙ ap (λ (k : Kind). not (is_whole k (length c.cut-m.result.now))) c.kind-kind.ensures
    ∙ ap (λ (b : Bytes). not (is_whole (kind-of c.args.mem.now c.args.slot) (length b))) (is_cut c)

pub is_fine_indexing-requires : goal.is_fine_indexing-requires
is_fine_indexing-requires c = zeros-indexed 32

pub returns-then-not-is_fine_indexing : goal.returns-then-not-is_fine_indexing
returns-then-not-is_fine_indexing c =
    serves-broken (sym c.is_fine_indexing.ensures.0 ∙ c.if-not-is_fine_indexing.true) refl refl refl

pub client_in-requires : goal.client_in-requires
client_in-requires c = fine-sound c.args.mem.now (fine (goal.at.client_in-requires c).Else-not-is_fine_indexing)

pub returns-in_err-client_in : goal.returns-in_err-client_in
returns-in_err-client_in c =
    let im = image_of c.args.mem.now in
    let i = c.args.slot in
    let f = c.in_err-client_in.ensures in
    serves-as (failed c.from_residual.ensures.1 f.1)
    (serves-unaltered 2 (fine (goal.at.returns-in_err-client_in c).Else-not-is_fine_indexing)
    (feed-free infod3 im i c.args.input.now (not-used (slot_at i im) f.0)) refl refl refl)

pub is_shut-requires : goal.is_shut-requires
is_shut-requires c =
    slot-inside (fine (goal.at.is_shut-requires c).Else-not-is_fine_indexing) c.in_ok-client_in.ensures

pub returns-then-is_shut : goal.returns-then-is_shut
returns-then-is_shut c =
    let im = image_of c.args.mem.now in
    let i = c.args.slot in
    serves-unaltered 3 (fine (goal.at.returns-then-is_shut c).Else-not-is_fine_indexing)
    (feed-shut infod3 im i c.args.input.now (client_at i im) (client-is i im c.in_ok-client_in.ensures)
    (sym c.is_shut.ensures ∙ c.if-is_shut.true))
    refl refl refl

pub kind-kind-requires : goal.kind-kind-requires
kind-kind-requires c =
    record {
      in-slot = slot-inside (fine (goal.at.kind-kind-requires c).Else-not-is_fine_indexing) c.in_ok-client_in.ensures;
      has-client = c.in_ok-client_in.ensures;
    }

pub returns-then-is_partial : goal.returns-then-is_partial
returns-then-is_partial c =
    let w = goal.at.returns-then-is_partial c in
    let im = image_of c.args.mem.now in
    let i = c.args.slot in
    serves-unaltered 1 (fine w.Else-not-is_fine_indexing)
    (feed-partial im i c.args.input.now (client_at i im) (client-is i im c.in_ok-client_in.ensures)
    (not-shut w.Else-is_shut) (not-true _ (sym (whole-test w.After-is_partial) ∙ c.if-is_partial.true)))
    refl refl refl

pub feed_message-requires : goal.feed_message-requires
feed_message-requires c =
    let w = goal.at.feed_message-requires c in
    let k = kind-of c.args.mem.now c.args.slot in
    let whole = not-false _ (sym (whole-test w.After-is_partial) ∙ c.if-is_partial.false) in (
      sending-as c.kind-kind.ensures (is_cut w.After-is_partial)
          (record {
            speaking = spoken c.args.mem.now c.args.slot (fine w.Else-not-is_fine_indexing) c.in_ok-client_in.ensures
                (not-shut w.Else-is_shut);
            whole = whole;
            limited = rw (cut-kind k c.args.input.now whole) (cut-limited k c.args.input.now);
          }),
      c.is_fine_indexing.ensures.1,
    )

pub returns-in-Ok : goal.returns-in-Ok
returns-in-Ok c =
    let w = goal.at.returns-in-Ok c in
    serves-fed
    (spoken c.args.mem.now c.args.slot (fine w.Else-not-is_fine_indexing) c.in_ok-client_in.ensures
    (not-shut w.Else-is_shut))
    c.args.input.now (not-false _ (sym (whole-test w.After-is_partial) ∙ c.if-is_partial.false))
    c.kind-kind.ensures (is_cut w.After-is_partial)
    c.in-Ok.ensures

pub returns-in-Err : goal.returns-in-Err
returns-in-Err c =
    let w = goal.at.returns-in-Err c in
    serves-fed
    (spoken c.args.mem.now c.args.slot (fine w.Else-not-is_fine_indexing) c.in_ok-client_in.ensures
    (not-shut w.Else-is_shut))
    c.args.input.now (not-false _ (sym (whole-test w.After-is_partial) ∙ c.if-is_partial.false))
    c.kind-kind.ensures (is_cut w.After-is_partial)
    c.in-Err.ensures
