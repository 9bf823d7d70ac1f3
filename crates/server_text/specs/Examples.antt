-- Lines of the server read back, computed: each message, and the forms that are refused. Lines are without their LF.
use Prim.Native.String.{String}
use Rattle.std.specs.Prelude.{◌≡◌, refl, List, [], ◌∷◌, ◌++◌, map}
use Rattle.octets.specs.Octets.{Bytes, ascii, has_nul}
use Rattle.octets.specs.Order.{same}
use Rattle.protocol.specs.declared.Refusal.TheVariants.{Unknown, Parameter}
use Rattle.text.specs.Fields.{octal, word, after_word, onto}
use Rattle.text.specs.Payload.{decimal, all_digits, number_from}
use Rattle.message.specs.Quoting.{is_escaped}
use Rattle.server_text.specs.Strings.{escaped_only, exact, exact_escape}
use Rattle.server_text.specs.Fields.{string_in, last_of, number_in, numbered, numbered_in, value_in, keyed_in}
use Rattle.server_text.specs.Fields.{bare_in, payload_in}
use Rattle.server_text.specs.Lines.{Decoded, refused, message, row_named, decoded_body, decoded_line}

-- a line before its LF
abbrev cr : String → Bytes
cr s = ascii s ++ 13 ∷ []

abbrev Example : Type 0
Example = Bytes × Decoded

abbrev lines : List Example
lines =
    (cr "PONG \"x\"", message 130 (120 ∷ []))
    ∷ (cr "PONG \"\"", message 130 [])
    ∷ (cr "PONG \"\\000\\012\\015\\042\\134\"", message 130 (0 ∷ 10 ∷ 13 ∷ 34 ∷ 92 ∷ []))
    ∷ (cr "PONG \"\\0120\"", message 130 (10 ∷ 48 ∷ []))
    ∷ (cr "VERSION 0 \"\"", message 128 (0 ∷ []))
    ∷ (cr "ERROR 7 \"x\"", message 131 (7 ∷ 120 ∷ []))
    ∷ (cr "ERROR 255 \"\"", message 131 (255 ∷ []))
    ∷ (cr "ERROR 103 \"bad state\"", message 131 (103 ∷ ascii "bad state"))
    ∷ (cr "INFO \"k\"", message 129 (107 ∷ []))
    ∷ (cr "INFO \"k\" \"\"", message 129 (107 ∷ 0 ∷ []))
    ∷ (cr "INFO \"k\" \"\\000\"", message 129 (107 ∷ 0 ∷ 0 ∷ []))
    ∷ (cr "INFO \"\" \"v\"", message 129 (0 ∷ 118 ∷ []))
    ∷ []

-- words
abbrev unknown : List Example
unknown =
    ([], refused Unknown)
    ∷ (cr "", refused Unknown)
    ∷ (cr "pong \"x\"", refused Unknown)
    ∷ (cr " PONG \"x\"", refused Unknown)
    ∷ (cr "PING \"x\"", refused Unknown)
    ∷ (cr "PONG\"x\"", refused Unknown)
    ∷ (ascii "PONG" ++ 13 ∷ 88 ∷ [], refused Unknown)
    ∷ (ascii "pong \"x\"", refused Unknown)
    ∷ []

-- ends, strings and numbers
abbrev bad : List Example
bad =
    (ascii "PONG \"x\"", refused Parameter)
    ∷ (cr "PONG", refused Parameter)
    ∷ (cr "PONG ", refused Parameter)
    ∷ (cr "PONG x", refused Parameter)
    ∷ (cr "PONG  \"x\"", refused Parameter)
    ∷ (cr "PONG \"x\" ", refused Parameter)
    ∷ (cr "PONG \"x\" \"y\"", refused Parameter)
    ∷ (cr "PONG \"x", refused Parameter)
    ∷ (cr "PONG \"x\"y", refused Parameter)
    ∷ (cr "PONG \"\\101\"", refused Parameter)
    ∷ (cr "PONG \"\\12\"", refused Parameter)
    ∷ (cr "PONG \"\\412\"", refused Parameter)
    ∷ (cr "PONG \"\"x\"", refused Parameter)
    ∷ (ascii "PONG \"" ++ 13 ∷ 34 ∷ 13 ∷ [], refused Parameter)
    ∷ (ascii "PONG \"" ++ 0 ∷ 34 ∷ 13 ∷ [], refused Parameter)
    ∷ (cr "VERSION \"\"", refused Parameter)
    ∷ (cr "VERSION 0", refused Parameter)
    ∷ (cr "VERSION 00 \"\"", refused Parameter)
    ∷ (cr "VERSION 01 \"\"", refused Parameter)
    ∷ (cr "VERSION 256 \"\"", refused Parameter)
    ∷ (cr "VERSION 1000 \"\"", refused Parameter)
    ∷ (cr "VERSION 1x \"\"", refused Parameter)
    ∷ (cr "VERSION  \"\"", refused Parameter)
    ∷ (cr "VERSION -1 \"\"", refused Parameter)
    ∷ (cr "VERSION 4294967296 \"\"", refused Parameter)
    ∷ (cr "ERROR 7  \"x\"", refused Parameter)
    ∷ (cr "INFO \"a\\000b\"", refused Parameter)
    ∷ (cr "INFO \"a\" \"b\" \"c\"", refused Parameter)
    ∷ []

abbrev computed : Example → Decoded
computed e = decoded_line e.0

abbrev given : Example → Decoded
given e = e.1

pub lines-read : map computed lines ≡ map given lines
unfolding ascii has_nul same word after_word octal onto decimal all_digits number_from is_escaped escaped_only exact
    exact_escape string_in last_of number_in numbered numbered_in value_in keyed_in bare_in payload_in row_named decoded_body
    decoded_line
lines-read = refl

pub unknown-refused : map computed unknown ≡ map given unknown
unfolding ascii same word after_word row_named decoded_body decoded_line
unknown-refused = refl

pub bad-refused : map computed bad ≡ map given bad
unfolding ascii has_nul same word after_word octal onto decimal all_digits number_from is_escaped escaped_only exact
    exact_escape string_in last_of number_in numbered numbered_in value_in keyed_in bare_in payload_in row_named decoded_body
    decoded_line
bad-refused = refl
