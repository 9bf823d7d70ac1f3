-- Inputs and their first messages, computed.
use mathlib.Core.Path.{◌≡◌, refl}
use mathlib.Core.Bool.{true, false}
use mathlib.Core.List.{List, [], ◌∷◌, map}
use Rattle.octets.specs.Octets.{Bytes}
use Rattle.protocol.specs.declared.Kind.{Kind}
use Rattle.protocol.specs.declared.Kind.TheVariants.{Packets, Stream, Framed, Text}
use Rattle.framing.specs.Framing.{starts_text, kind_of, ends_line, line_end, line_length, frame_length, length_of}
use Rattle.framing.specs.Framing.{message}

abbrev computed : Kind × Bytes × Bytes → Bytes
computed e = message e.0 e.1

abbrev given : Kind × Bytes × Bytes → Bytes
given e = e.2

-- a packet is all of its input; an unfinished frame or line waits; CR LF is a line and a blank line; an end between
-- quotes ends the line; the first byte of a stream decides
abbrev examples : List (Kind × Bytes × Bytes)
examples =
    (Packets, [], [])
    ∷ (Packets, 7 ∷ 120 ∷ 10 ∷ [], 7 ∷ 120 ∷ 10 ∷ [])
    ∷ (Framed, 7 ∷ 0 ∷ 1 ∷ 120 ∷ 9 ∷ [], 7 ∷ 0 ∷ 1 ∷ 120 ∷ [])
    ∷ (Framed, 5 ∷ 0 ∷ 0 ∷ [], 5 ∷ 0 ∷ 0 ∷ [])
    ∷ (Framed, 5 ∷ 0 ∷ [], [])
    ∷ (Framed, 7 ∷ 0 ∷ 2 ∷ 120 ∷ [], [])
    ∷ (Framed, 99 ∷ 1 ∷ 0 ∷ 120 ∷ [], [])
    ∷ (Framed, 80 ∷ 0 ∷ 0 ∷ 10 ∷ [], 80 ∷ 0 ∷ 0 ∷ [])
    ∷ (Text, 112 ∷ 13 ∷ 10 ∷ [], 112 ∷ 13 ∷ [])
    ∷ (Text, 10 ∷ 112 ∷ [], 10 ∷ [])
    ∷ (Text, 112 ∷ 32 ∷ 34 ∷ 10 ∷ 34 ∷ 10 ∷ [], 112 ∷ 32 ∷ 34 ∷ 10 ∷ [])
    ∷ (Text, 112 ∷ 32 ∷ [], [])
    ∷ (Text, [], [])
    ∷ (Text, 0 ∷ 0 ∷ 0 ∷ [], [])
    ∷ (Stream, [], [])
    ∷ (Stream, 112 ∷ [], [])
    ∷ (Stream, 112 ∷ 10 ∷ 112 ∷ 10 ∷ [], 112 ∷ 10 ∷ [])
    ∷ (Stream, 34 ∷ 0 ∷ 0 ∷ 10 ∷ [], 34 ∷ 0 ∷ 0 ∷ [])
    ∷ (Stream, 6 ∷ 0 ∷ 0 ∷ 10 ∷ [], 6 ∷ 0 ∷ 0 ∷ [])
    ∷ []

pub examples-hold : map computed examples ≡ map given examples
unfolding starts_text kind_of ends_line line_end line_length frame_length length_of
examples-hold = refl

-- LF, CR, space, `@` and `~`; NUL, PING's ID, a quote, a digit, `?`, DEL, 0x80 and 0xFF
pub first-bytes : map starts_text (10 ∷ 13 ∷ 32 ∷ 64 ∷ 126 ∷ 0 ∷ 7 ∷ 34 ∷ 48 ∷ 63 ∷ 127 ∷ 128 ∷ 255 ∷ [])
    ≡ true ∷ true ∷ true ∷ true ∷ true ∷ false ∷ false ∷ false ∷ false ∷ false ∷ false ∷ false ∷ false ∷ []
unfolding starts_text
first-bytes = refl
