-- Server messages read and commands written, computed: each form, every refusal and the order of refusals.
use Prim.Native.String.{String}
use Rattle.std.specs.Prelude.{ℕ, ◌≡◌, refl, List, [], ◌∷◌, ◌++◌, map, replicate}
use Rattle.octets.specs.Octets.{Bytes, ascii, has_nul}
use Rattle.octets.specs.Order.{same}
use Rattle.text.specs.Fields.{octal, word, after_word, onto}
use Rattle.text.specs.Payload as Payload
use Rattle.text.specs.Payload.{all_digits, number_from}
use Rattle.framing.specs.Framing.{frame_length}
use Rattle.message.specs.Quoting.{is_escaped}
use Rattle.server_text.specs.Strings.{escaped_only, exact, exact_escape}
use Rattle.server_text.specs.Fields.{string_in, last_of, number_in, numbered, numbered_in, value_in, keyed_in, bare_in}
use Rattle.server_text.specs.Fields.{payload_in, suits}
use Rattle.server_text.specs.Lines.{row_named, row_with, decoded_body, decoded_line}
use Rattle.client.specs.Reading.{kind_of_form, first_lf, lf_length, length_in, decoded_binary, message_in, Result}
use Rattle.client.specs.Reading.{read_of, read_in, read_message}
use Rattle.client.specs.Writing.{outcome_of, write_in, write_command}
use Rattle.octets.specs.Octets.{first_nul}
use Rattle.pattern.specs.Tokens.{single, tokens}
use Rattle.pattern.specs.Syntax.{valid, fits, star_fits}
use Rattle.command.specs.Refusals.{is_unknown, is_bad, is_long, verdict}
use Rattle.message.specs.Quoting.{escape, escapes, quote, decimal}
use Rattle.message.specs.Rows.{row_in, row_of}
use Rattle.message.specs.Forms.{value_of, value_field, number_fields, fields, ending, line, form, encoded}
use Rattle.message.specs.Writing.{Outcome, outcome}

abbrev crlf : String → Bytes
crlf s = ascii s ++ 13 ∷ 10 ∷ []

-- form, input, out slice, result
abbrev Example : Type 0
Example = ℕ × Bytes × Bytes × Result

abbrev three : Bytes
three = 9 ∷ 9 ∷ 9 ∷ []

abbrev texts : List Example
texts =
    (2, crlf "PONG \"x\"", three, read_of 0 10 2 (130 ∷ 120 ∷ 9 ∷ []))
    ∷ (2, crlf "PONG \"x\"" ++ ascii "PO", three, read_of 0 10 2 (130 ∷ 120 ∷ 9 ∷ []))
    ∷ (2, ascii "PONG \"x\"" ++ 10 ∷ [], three, read_of 101 9 0 three)
    ∷ (2, crlf "pong \"x\"", three, read_of 100 10 0 three)
    ∷ (2, 10 ∷ [], three, read_of 100 1 0 three)
    ∷ (2, crlf " PONG \"x\"", three, read_of 100 11 0 three)
    ∷ (2, crlf "PONG", three, read_of 101 6 0 three)
    ∷ (2, ascii "PONG \"x\"", three, read_of 1 0 0 three)
    ∷ (2, [], three, read_of 1 0 0 three)
    ∷ (2, crlf "PONG \"\\101\"", three, read_of 101 13 0 three)
    ∷ (2, crlf "ERROR 7 \"x\"", three, read_of 0 13 3 (131 ∷ 7 ∷ 120 ∷ []))
    ∷ (2, crlf "ERROR 7 \"xy\"", three, read_of 5 0 0 three)
    ∷ (2, crlf "INFO \"a\\000b\"", [], read_of 101 15 0 [])
    ∷ (2, ascii "PONG" ++ 13 ∷ 88 ∷ 10 ∷ [], three, read_of 100 7 0 three)
    ∷ []

abbrev binaries : List Example
binaries =
    (1, 128 ∷ 0 ∷ 0 ∷ [], three, read_of 101 3 0 three)
    ∷ (1, 7 ∷ 0 ∷ 0 ∷ [], three, read_of 100 3 0 three)
    ∷ (1, 130 ∷ 0 ∷ [], three, read_of 1 0 0 three)
    ∷ (1, 130 ∷ 0 ∷ 1 ∷ [], three, read_of 1 0 0 three)
    ∷ (1, 130 ∷ 0 ∷ 1 ∷ 120 ∷ 130 ∷ [], three, read_of 0 4 2 (130 ∷ 120 ∷ 9 ∷ []))
    ∷ (1, 129 ∷ 0 ∷ 3 ∷ 107 ∷ 0 ∷ 0 ∷ [], three, read_of 5 0 0 three)
    ∷ (0, [], three, read_of 100 0 0 three)
    ∷ (0, 130 ∷ 120 ∷ [], 9 ∷ [], read_of 5 0 0 (9 ∷ []))
    ∷ (0, 131 ∷ [], [], read_of 101 1 0 [])
    ∷ (0, 130 ∷ [], three, read_of 0 1 1 (130 ∷ 9 ∷ 9 ∷ []))
    ∷ (3, [], three, read_of 8 0 0 three)
    ∷ []

abbrev computed : Example → Result
computed e = read_message e.0 e.1 e.2

abbrev given : Example → Result
given e = e.3

pub read-texts : map computed texts ≡ map given texts
unfolding ascii has_nul same word after_word octal onto Payload.decimal all_digits number_from is_escaped escaped_only exact
    exact_escape string_in last_of number_in numbered numbered_in value_in keyed_in bare_in payload_in row_named decoded_body
    decoded_line kind_of_form first_lf lf_length length_in message_in read_in read_message
read-texts = refl

pub read-binaries : map computed binaries ≡ map given binaries
unfolding ascii frame_length suits row_with kind_of_form length_in decoded_binary message_in read_in read_message
read-binaries = refl

-- ---- the writer

-- form, command, out slice, outcome
abbrev Write : Type 0
Write = ℕ × Bytes × Bytes × Outcome

abbrev lf : String → Bytes
lf s = ascii s ++ 10 ∷ []

-- twelve bytes, and thirty
abbrev twelve : Bytes
twelve = replicate 12 9

abbrev thirty : Bytes
thirty = replicate 30 9

abbrev writes : List Write
writes =
    (2, 0 ∷ 7 ∷ [], twelve, outcome_of 0 11 (lf "HELLO 7 \"\"" ++ 9 ∷ []))
    ∷ (2, 4 ∷ 107 ∷ [], twelve, outcome_of 0 10 (lf "WRITE \"k\"" ++ 9 ∷ 9 ∷ []))
    ∷ (2, 4 ∷ 107 ∷ 0 ∷ [], replicate 13 9, outcome_of 0 13 (lf "WRITE \"k\" \"\""))
    ∷ (
      2,
      7 ∷ 0 ∷ 10 ∷ 13 ∷ 34 ∷ 92 ∷ [],
      thirty,
      outcome_of 0 28 (lf "PING \"\\000\\012\\015\\042\\134\"" ++ 9 ∷ 9 ∷ []),
    )
    ∷ (2, 5 ∷ [], twelve, outcome_of 0 6 (lf "BEGIN" ++ replicate 6 9))
    ∷ (1, 5 ∷ [], 9 ∷ 9 ∷ 9 ∷ 9 ∷ [], outcome_of 0 3 (5 ∷ 0 ∷ 0 ∷ 9 ∷ []))
    ∷ (0, 7 ∷ 120 ∷ [], 9 ∷ 9 ∷ [], outcome_of 0 2 (7 ∷ 120 ∷ []))
    ∷ (2, [], three, outcome_of 100 0 three)
    ∷ (1, 8 ∷ [], three, outcome_of 100 0 three)
    ∷ (0, 130 ∷ [], three, outcome_of 100 0 three)
    ∷ (0, 0 ∷ [], three, outcome_of 101 0 three)
    ∷ (1, 5 ∷ 1 ∷ [], three, outcome_of 101 0 three)
    ∷ (2, 3 ∷ 97 ∷ 0 ∷ [], three, outcome_of 101 0 three)
    ∷ (0, 1 ∷ 42 ∷ 42 ∷ replicate 254 97, three, outcome_of 101 0 three)
    ∷ (0, 1 ∷ replicate 256 97, three, outcome_of 102 0 three)
    ∷ (2, 7 ∷ 120 ∷ [], three, outcome_of 5 0 three)
    ∷ (3, 7 ∷ [], three, outcome_of 8 0 three)
    ∷ []

abbrev computed_write : Write → Outcome
computed_write e = write_command e.0 e.1 e.2

abbrev given_write : Write → Outcome
given_write e = e.3

pub written-commands : map computed_write writes ≡ map given_write writes
unfolding ascii has_nul first_nul single tokens valid fits star_fits is_unknown is_bad is_long verdict is_escaped escape
    escapes
    quote decimal row_in row_of value_of value_field number_fields fields ending line form encoded outcome kind_of_form
    write_in write_command
written-commands = refl

-- ---- a payload of 65,536 bytes, which is refused before a slice that is too short

-- one byte more than a payload may have
abbrev long : Bytes
long = replicate 65536 97

pub long-packet : read_message 0 (130 ∷ long) [] ≡ read_of 102 65537 0 []
unfolding suits row_with kind_of_form length_in decoded_binary message_in read_in read_message
long-packet = refl

pub long-commands : map (λ f. write_command f (7 ∷ long) []) (0 ∷ 1 ∷ 2 ∷ [])
    ≡ outcome_of 102 0 [] ∷ outcome_of 102 0 [] ∷ outcome_of 102 0 [] ∷ []
unfolding is_unknown is_bad is_long verdict kind_of_form write_in write_command
long-commands = refl
