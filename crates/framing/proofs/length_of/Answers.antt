-- `framing::length_of` goes by the kind.
use Rattle.std.proofs.Common.{◌∙◌}
use Rattle.framing.specs.Framing.{length_of}
use Rattle.framing.proofs.length_of.Goals as goal

pub returns-in-Packets : goal.returns-in-Packets
unfolding length_of
returns-in-Packets c = rw c.in-Packets.is

pub returns-in-Stream : goal.returns-in-Stream
unfolding length_of
returns-in-Stream c = rw c.in-Stream.is

pub returns-in-Framed : goal.returns-in-Framed
unfolding length_of
returns-in-Framed c = rw c.in-Framed.is (c.unwrap_or.ensures ∙ c.frame_length.ensures)

pub returns-in-Text : goal.returns-in-Text
unfolding length_of
returns-in-Text c = rw c.in-Text.is (c.unwrap_or-in-Text.ensures ∙ c.line_length.ensures)
