-- `broker::feeding::feed_message` meets its contract.
use mathlib.Core.Path.{◌≡◌, sym, ap, subst, ◌∙◌}
use mathlib.Core.Bool.{true}
use mathlib.Core.Logic.{◌⊎◌, inl, inr}
use native.Mathlib.Omega.{arith}
use lib.ListN.{length}
use Rattle.octets.specs.Octets.{Bytes}
use Rattle.protocol.specs.declared.Kind.{Kind}
use Rattle.protocol.specs.declared.Kind.TheVariants.{Packets, Framed}
use Rattle.framing.specs.Framing.{kind_of}
use Rattle.wire.specs.Received.{is_whole}
use Rattle.wire.specs.Post.{room_in}
use Rattle.wire.proofs.ReadLaws.{room_in-le}
use Rattle.broker.proofs.Cuts.{rank, rank-kind_of, kind_of-fixed, kind_of-twice}
use Rattle.broker.proofs.Fed.{sending-feeding, sending-fixed, obeys-kind}
use Rattle.broker.proofs.feeding.+feed_message.Goals as goal

-- ---- packets and frames

-- a packet or a frame fixes no kind, and asks for no room
binary-rank : {k : Kind} → (k ≡ Packets) ⊎ (k ≡ Framed) → rank k ≡ 0
binary-rank (inl e) = ap rank e
binary-rank (inr e) = ap rank e

binary-room : {k : Kind} (m : Bytes) → (k ≡ Packets) ⊎ (k ≡ Framed) → room_in k m ≡ 0
binary-room m (inl e) = ap (λ (k : Kind). room_in k m) e
binary-room m (inr e) = ap (λ (k : Kind). room_in k m) e

pub feed_with-requires : goal.feed_with-requires
feed_with-requires t c = (
  sending-feeding c.requires.0 (kind_of-fixed _ _ (binary-rank c.in-Packets.is)),
  omega (arith, binary-room c.args.m.now c.in-Packets.is),
  omega arith,
  c.requires.1,
)

pub returns-in-Packets : goal.returns-in-Packets
returns-in-Packets t c =
    obeys-kind c.args.slot c.args.m.now (kind_of-fixed _ _ (binary-rank c.in-Packets.is)) c.feed_with.ensures

-- ---- a stream

pub feed_message-requires : goal.feed_message-requires
feed_message-requires t c =
    let A = c.args in
    let e = c.in-Stream.is in
    let f = c.kind_of.ensures in
    let w = subst (λ (k : Kind). is_whole k (length A.m.now) ≡ true) e c.requires.0.whole in
    let g = ap rank (f ∙ ap (λ (k : Kind). kind_of k A.m.now) e) in
    (omega (arith, g, rank-kind_of A.m.now w, ap rank e), (sending-fixed c.requires.0 f, c.requires.1))

pub returns-in-Stream : goal.returns-in-Stream
returns-in-Stream t c =
    let A = c.args in
    obeys-kind A.slot A.m.now
    (sym (ap (λ (k : Kind). kind_of k A.m.now) c.kind_of.ensures ∙ kind_of-twice A.kind A.m.now))
    c.feed_message.ensures

-- ---- a text line

pub feed_with-requires-in-Text : goal.feed_with-requires-in-Text
feed_with-requires-in-Text t c = (
  sending-feeding c.requires.0 (kind_of-fixed _ _ (ap rank c.in-Text.is)),
  omega (arith, room_in-le c.args.kind c.args.m.now),
  omega arith,
  c.requires.1,
)

pub returns-in-Text : goal.returns-in-Text
returns-in-Text t c =
    obeys-kind c.args.slot c.args.m.now (kind_of-fixed _ _ (ap rank c.in-Text.is)) c.feed_with-in-Text.ensures

pub feed_with-requires-in-Text-2 : goal.feed_with-requires-in-Text-2
feed_with-requires-in-Text-2 t c =
    let f = sending-feeding c.requires.0 (kind_of-fixed _ _ (ap rank c.in-Text-2.is)) in
    (f, f.limited, omega arith, c.requires.1)

pub returns-in-Text-2 : goal.returns-in-Text-2
returns-in-Text-2 t c =
    obeys-kind c.args.slot c.args.m.now (kind_of-fixed _ _ (ap rank c.in-Text-2.is)) c.feed_with-in-Text-2.ensures
