-- The first whole message of an input (document 01, "From bytes to one command", its first paragraph and the line's
-- limit). A message of a stream is never empty, so there an empty one means that it is not whole yet.
use Rattle.std.specs.Prelude.{[], ◌∷◌, Bool, cond, ◌&&◌, ◌||◌, ℕ, ◌+◌, ◌*◌, eqb, leb, ltb, length, take}
use Rattle.octets.specs.Octets.{Bytes}
use Rattle.protocol.specs.declared.Kind.{Kind}
use Rattle.protocol.specs.declared.Kind.TheVariants.{Packets, Stream, Framed, Text}

-- 0x0A, 0x0D, 0x20 or 0x40 to 0x7E means text, all else means framed
unfoldable pub starts_text : ℕ → Bool
starts_text c = eqb c 10 || (eqb c 13 || (eqb c 32 || (leb 64 c && leb c 126)))

-- the first byte decides how a stream is read; an empty one leaves it open; every other kind stays
unfoldable pub kind_of : Kind → Bytes → Kind
kind_of Packets s = Packets
kind_of Stream [] = Stream
kind_of Stream (c ∷ s) = cond (starts_text c) Text Framed
kind_of Framed s = Framed
kind_of Text s = Text

-- CR and LF each end a line
unfoldable pub ends_line : ℕ → Bool
ends_line c = eqb c 10 || eqb c 13

-- the index of the first byte that ends a line, or the length where none does
unfoldable pub line_end : Bytes → ℕ
line_end [] = 0
line_end (c ∷ s) = cond (ends_line c) 0 (line_end s + 1)

-- so many bytes without a line end are over-long
abbrev pub longest_line : ℕ
longest_line = 262152

-- a line with its one ending byte; the first 262,152 bytes where none of them ends a line; 0 where it is not whole
-- yet
unfoldable pub line_length : Bytes → ℕ
line_length s =
    cond (leb longest_line (line_end s)) longest_line
    (cond (ltb (line_end s) (length s)) (line_end s + 1) 0)

-- ID, two-byte big-endian length, payload; 0 where it is not whole yet
unfoldable pub frame_length : Bytes → ℕ
frame_length [] = 0
frame_length (id ∷ []) = 0
frame_length (id ∷ high ∷ []) = 0
frame_length (id ∷ high ∷ low ∷ p) = cond (leb (high * 256 + low) (length p)) (3 + (high * 256 + low)) 0

-- the length of the first whole message in a kind; a packet is all of its input
unfoldable pub length_of : Kind → Bytes → ℕ
length_of Packets s = length s
length_of Stream s = 0
length_of Framed s = frame_length s
length_of Text s = line_length s

-- the same, where the first byte of a stream decides
abbrev pub message_length : Kind → Bytes → ℕ
message_length k s = length_of (kind_of k s) s

-- the first whole message
abbrev pub message : Kind → Bytes → Bytes
message k s = take (message_length k s) s
