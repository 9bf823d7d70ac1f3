-- Inputs and what is received of them, computed: document 01's examples, then cases that are easy to get wrong. Each
-- row is a kind, an input, and its first message.
use mathlib.Core.Path.{◌≡◌, refl}
use mathlib.Core.List.{List, [], ◌∷◌, ◌++◌, map}
use mathlib.Core.Option.{none, some}
use Prim.Native.String.{String}
use lib.ListN.{replicate}
use Rattle.octets.specs.Octets.{Bytes, ascii, has_nul, first_nul}
use Rattle.octets.specs.Order.{same}
use Rattle.protocol.specs.declared.Kind.{Kind}
use Rattle.protocol.specs.declared.Kind.TheVariants.{Packets, Stream, Framed, Text}
use Rattle.protocol.specs.declared.Refusal.TheVariants.{Unknown, Parameter, Room}
use Rattle.protocol.specs.Terms.{Action, hello, sub, unsub, read, write, ping, Reading, command, begin, commit, plain}
use Rattle.protocol.specs.Terms.{invalid, Cut, whole, incomplete}
use Rattle.protocol.specs.Terms as Terms
use Rattle.pattern.specs.Tokens.{single, tokens}
use Rattle.pattern.specs.Syntax.{valid, fits, star_fits}
use Rattle.framing.specs.Framing.{starts_text, kind_of, ends_line, line_end, line_length, frame_length, length_of}
use Rattle.words.specs.Words.{lower, look_up, id_of}
use Rattle.text.specs.Fields.{trim, word, after_word, octal, onto, closed, quoted, escaped, starting, next, fields}
use Rattle.text.specs.Payload.{decimal, all_digits, number_from, version, keyed, by_count, payload_for}
use Rattle.text.specs.Line.{payload_of, begun, line_of}
use Rattle.command.specs.Commands.{fitting, hello_of, pattern_of, read_of, written_of, write_of, empty_of, command_of}
use Rattle.command.specs.Meaning.{meant}
use Rattle.wire.specs.Received.{binary, text_line, decoded_in, received}

abbrev Example : Type 0
Example = Kind × Bytes × Cut

abbrev computed : Example → Cut
computed e = received e.0 e.1

abbrev given : Example → Cut
given e = e.2

abbrev line : String → Bytes
line s = ascii s ++ 10 ∷ []

abbrev does : Action → Reading
does a = command (plain a)

-- packets and frames: an empty packet; the ID alone; a value, an empty value and a deletion; an unknown ID waits for
-- its frame; a server's ID; what follows is not looked at
abbrev binaries : List Example
binaries =
    (Packets, [], whole 0 Packets (invalid Unknown))
    ∷ (Packets, 7 ∷ [], whole 1 Packets (does (ping [])))
    ∷ (Packets, 10 ∷ [], whole 1 Packets (invalid Unknown))
    ∷ (Packets, 112 ∷ 10 ∷ [], whole 2 Packets (invalid Unknown))
    ∷ (Packets, 0 ∷ [], whole 1 Packets (invalid Parameter))
    ∷ (Packets, 4 ∷ 107 ∷ 0 ∷ 0 ∷ [], whole 4 Packets (does (write (107 ∷ []) (some (0 ∷ [])))))
    ∷ (Stream, 7 ∷ 0 ∷ 1 ∷ 120 ∷ [], whole 4 Framed (does (ping (120 ∷ []))))
    ∷ (Stream, 0 ∷ 0 ∷ 1 ∷ 5 ∷ [], whole 4 Framed (does (hello (5 ∷ []))))
    ∷ (Framed, 4 ∷ 0 ∷ 1 ∷ 107 ∷ [], whole 4 Framed (does (write (107 ∷ []) none)))
    ∷ (Framed, 4 ∷ 0 ∷ 2 ∷ 107 ∷ 0 ∷ [], whole 5 Framed (does (write (107 ∷ []) (some []))))
    ∷ (Framed, 5 ∷ 0 ∷ 1 ∷ 0 ∷ [], whole 4 Framed (invalid Parameter))
    ∷ (Framed, 9 ∷ 0 ∷ 2 ∷ 1 ∷ [], incomplete)
    ∷ (Framed, 9 ∷ 0 ∷ 2 ∷ 1 ∷ 2 ∷ [], whole 5 Framed (invalid Unknown))
    ∷ (Framed, 128 ∷ 0 ∷ 0 ∷ [], whole 3 Framed (invalid Unknown))
    ∷ (Framed, 80 ∷ 0 ∷ 0 ∷ [], whole 3 Framed (invalid Unknown))
    ∷ (Framed, 6 ∷ 0 ∷ 0 ∷ 6 ∷ 0 ∷ 9 ∷ [], whole 3 Framed (command commit))
    ∷ (Framed, 3 ∷ 0 ∷ 2 ∷ 97 ∷ 0 ∷ [], whole 5 Framed (invalid Parameter))
    ∷ (Framed, 1 ∷ 1 ∷ 0 ∷ replicate 256 97, whole 259 Framed (invalid Room))
    ∷ (Framed, 2 ∷ 1 ∷ 0 ∷ replicate 256 42, whole 259 Framed (invalid Parameter))
    ∷ (Stream, [], incomplete)
    ∷ (Stream, 34 ∷ 0 ∷ 0 ∷ [], whole 3 Framed (invalid Unknown))
    ∷ []

pub binaries-hold : map computed binaries ≡ map given binaries
unfolding has_nul first_nul single tokens valid fits star_fits starts_text kind_of ends_line line_end line_length frame_length
    length_of fitting hello_of pattern_of read_of written_of write_of empty_of command_of meant binary decoded_in received
binaries-hold = refl

-- text: the first line and its ending byte; a blank line fixes the kind; CR LF is a line and a blank line; an unknown
-- word before a bad field; an unfinished line waits, also for an unknown word
abbrev lines : List Example
lines =
    (Text, line "w k \"a\\040b\"", whole 13 Text (does (write (107 ∷ []) (some (97 ∷ 32 ∷ 98 ∷ [])))))
    ∷ (Text, line "w k \"\\400\"", whole 11 Text (invalid Parameter))
    ∷ (Text, line "w k \"\\8\"", whole 9 Text (invalid Parameter))
    ∷ (Stream, 13 ∷ 10 ∷ [], whole 1 Text Terms.blank)
    ∷ (Stream, 32 ∷ 32 ∷ 10 ∷ [], whole 3 Text Terms.blank)
    ∷ (Stream, line "SUB site.*.state", whole 17 Text (does (sub (ascii "site.*.state"))))
    ∷ (Stream, ascii "BEGIN", incomplete)
    ∷ (Stream, ascii "?", incomplete)
    ∷ (Text, line "begin" ++ line "x", whole 6 Text (command begin))
    ∷ (Text, line "s **", whole 5 Text (invalid Parameter))
    ∷ (Text, line "u a|b", whole 6 Text (invalid Parameter))
    ∷ (Text, line "s \"a\\000\"", whole 10 Text (invalid Parameter))
    ∷ (Text, line "r \"a\\000\"", whole 10 Text (invalid Parameter))
    ∷ (Text, line "w \"a\\000\"", whole 10 Text (invalid Parameter))
    ∷ (Text, line "w a \"\\000\"", whole 11 Text (does (write (97 ∷ []) (some (0 ∷ [])))))
    ∷ (Text, line "p \"\\000\"", whole 9 Text (does (ping (0 ∷ []))))
    ∷ (Text, line "r \"\"", whole 5 Text (does (read [])))
    ∷ (Text, line "w \"\"", whole 5 Text (does (write [] none)))
    ∷ (Text, line "hello", whole 6 Text (does (hello (0 ∷ []))))
    ∷ (Text, line "x \"", whole 4 Text (invalid Unknown))
    ∷ (Text, line "\"p\"", whole 4 Text (invalid Unknown))
    ∷ (Text, line "help", whole 5 Text (invalid Unknown))
    ∷ (Text, line "u \\", whole 4 Text (invalid Parameter))
    ∷ (Text, line "u \\*", whole 5 Text (does (unsub (92 ∷ 42 ∷ []))))
    ∷ (Text, 0 ∷ 10 ∷ [], whole 2 Text (invalid Unknown))
    ∷ (Text, ascii "s " ++ replicate 256 97 ++ 10 ∷ [], whole 259 Text (invalid Room))
    ∷ (Text, ascii "s " ++ replicate 256 42 ++ 13 ∷ [], whole 259 Text (invalid Parameter))
    ∷ []

pub lines-hold : map computed lines ≡ map given lines
unfolding has_nul first_nul ascii same single tokens valid fits star_fits starts_text kind_of ends_line line_end line_length
    frame_length length_of lower look_up id_of trim word after_word octal onto closed quoted escaped starting next fields
    decimal all_digits number_from version keyed by_count payload_for payload_of begun line_of fitting hello_of pattern_of
    read_of written_of write_of empty_of command_of meant binary text_line decoded_in received
lines-hold = refl
