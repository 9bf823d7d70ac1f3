-- Reading: the first message of an input as what it says, for packets, framed bytes and text alike (document 01,
-- "From bytes to one command"). A message is decoded to an ID and a payload in binary form, whichever form it came
-- in; from there on one rule serves all forms.
use Rattle.std.specs.Prelude.{[], ◌∷◌, Bool, true, cond, ℕ, ◌-◌, ltb, length, take, drop, get_or}
use Rattle.octets.specs.Octets.{Bytes}
use Rattle.protocol.specs.declared.Kind.{Kind}
use Rattle.protocol.specs.declared.Kind.TheVariants.{Packets, Stream, Framed, Text}
use Rattle.protocol.specs.declared.Refusal.TheVariants.{Unknown, Room}
use Rattle.protocol.specs.Terms.{Reading, invalid, Cut, incomplete, whole}
use Rattle.protocol.specs.Terms as Terms
use Rattle.framing.specs.Framing.{kind_of, ends_line, message_length}
use Rattle.framing.specs.Framing as Framing
use Rattle.text.specs.Line.{Line, blank, refused, message, line_of}
use Rattle.command.specs.Meaning.{reading_of}

-- an ID, and the payload that begins `skip` bytes behind it; without an ID it is an unknown message
unfoldable pub binary : ℕ → Bytes → Line
binary skip [] = refused Unknown
binary skip (id ∷ rest) = message id (drop skip rest)

-- the bytes of a message but its last one
abbrev pub front : Bytes → Bytes
front m = take (length m - 1) m

-- the last byte of a message
abbrev pub last_byte : Bytes → ℕ
last_byte m = get_or m (length m - 1) 0

-- a line loses its one ending byte; a line without one is over-long
unfoldable pub text_line : Bytes → Line
text_line m = cond (ends_line (last_byte m)) (line_of (front m)) (refused Room)

-- a whole message decoded: blank, refused, or its ID and payload. A frame has two bytes of length behind its ID. Of a
-- stream only an empty message has no other kind.
unfoldable pub decoded_in : Kind → Bytes → Line
decoded_in Packets m = binary 0 m
decoded_in Stream m = refused Unknown
decoded_in Framed m = binary 2 m
decoded_in Text m = text_line m

-- the same, where the first byte of a stream decides
abbrev pub decoded : Kind → Bytes → Line
decoded k m = decoded_in (kind_of k m) m

-- what a decoded message says
abbrev pub reading_line : Line → Reading
reading_line blank = Terms.blank
reading_line (refused r) = invalid r
reading_line (message id p) = reading_of id p

-- what a whole message says
abbrev pub reading : Kind → Bytes → Reading
reading k m = reading_line (decoded k m)

-- a packet is always whole, also an empty one; a message of a stream is whole when it is not empty
abbrev pub is_whole : Kind → ℕ → Bool
is_whole Packets n = true
is_whole Stream n = ltb 0 n
is_whole Framed n = ltb 0 n
is_whole Text n = ltb 0 n

-- the first message of an input: its length, the client's kind from it on, and what it says. Taken or refused, a
-- blank line too, it fixes the kind of a stream.
unfoldable pub received : Kind → Bytes → Cut
received k s =
    cond (is_whole k (message_length k s))
    (whole (message_length k s) (kind_of k s) (reading k (Framing.message k s)))
    incomplete
