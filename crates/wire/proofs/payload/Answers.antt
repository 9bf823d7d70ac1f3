-- `wire::payload` goes by the kind.
use mathlib.Core.Logic.{inl, inr}
use Rattle.wire.specs.Post.{payload_in}
use Rattle.wire.proofs.payload.Goals as goal

pub returns-in-Packets : goal.returns-in-Packets
unfolding payload_in
returns-in-Packets c =
    elim c.in-Packets.is [
      | inl e ↦ rw (← c.kind_of.ensures, e, ← c.tail.ensures) c.front.ensures
      | inr e ↦ rw (← c.kind_of.ensures, e, ← c.tail.ensures) c.front.ensures
    ]

pub returns-in-Framed : goal.returns-in-Framed
unfolding payload_in
returns-in-Framed c =
    rw (← c.kind_of.ensures, c.in-Framed.is, ← c.tail-in-Framed.ensures) c.front-in-Framed.ensures

pub returns-in-Text : goal.returns-in-Text
unfolding payload_in
returns-in-Text c = rw (← c.kind_of.ensures, c.in-Text.is) c.front-in-Text.ensures
