-- Document 01's script program as a function from its standard input to its standard output, and the paper's script
-- computed: whole input, whole output.
use Prim.Native.Nat.{◌+◌, ◌-◌}
use Prim.Native.String.{String}
use mathlib.Core.Path.{◌≡◌, refl}
use mathlib.Core.List.{List, [], ◌∷◌, ◌++◌, map}
use mathlib.Core.Bool.{cond}
use lib.Dec.{eqb}
use lib.ListN.{get_or, drop}
use Rattle.octets.specs.Octets.{Bytes, ascii, has_nul, first_nul}
use Rattle.octets.specs.Order.{same}
use Rattle.octets.specs.Number.{big_endian}
use Rattle.pattern.specs.Tokens.{single, tokens}
use Rattle.pattern.specs.Syntax.{valid, fits, star_fits}
use Rattle.pattern.specs.Parts.{parts}
use Rattle.pattern.specs.Tree.{branches, above, on_first, on_seq, grow, tree, first, sequence, tree_of}
use Rattle.pattern.specs.Matching as Matching
use Rattle.pattern.specs.Answer.{outcome, whole, too_long, accepted}
use Rattle.framing.specs.Framing.{starts_text, kind_of, ends_line, line_end, line_length, frame_length, length_of}
use Rattle.words.specs.Words.{lower, look_up, id_of}
use Rattle.text.specs.Fields.{trim, word, after_word, octal, onto, closed, quoted, escaped, starting, next, fields}
use Rattle.text.specs.Payload.{decimal, all_digits, number_from, version, keyed, by_count, payload_for}
use Rattle.text.specs.Line.{payload_of, begun, line_of}
use Rattle.command.specs.Commands.{fitting, hello_of, pattern_of, read_of, written_of, write_of, empty_of, command_of}
use Rattle.command.specs.Meaning.{meant}
use Rattle.wire.specs.Received.{binary, text_line, decoded_in, received}
use Rattle.message.specs.Quoting.{is_escaped, escape, escapes, quote}
use Rattle.message.specs.Quoting as Quoting
use Rattle.message.specs.Rows.{row_in, row_of}
use Rattle.message.specs.Forms as Forms
use Rattle.model.specs.State.{empty_server}
use Rattle.model.specs.Decision.{opens}
use Rattle.model.specs.Calls.{after_calls}
use Rattle.model.proofs.Definitions.{definitions}
use Rattle.model.proofs.Sessions.{Delivery, session, session-definitions}
use Rattle.infod3.specs.Infod3.{infod3}

-- ---- the program

-- the lines of an input, each with its LF; `begun` is what the first line has already
unfoldable pub lines_of : Bytes → Bytes → List Bytes
lines_of begun [] = []
lines_of begun (c ∷ s) = cond (eqb c 10) ((begun ++ 10 ∷ []) ∷ lines_of [] s) (lines_of (begun ++ c ∷ []) s)

-- a line is a digit, a space and a command line, which is fed to the digit's slot
unfoldable pub fed : Bytes → Delivery
fed l = (get_or l 0 0 - 48, drop 2 l)

-- the digit, a space and each message taken
unfoldable pub printed : List Delivery → Bytes
printed [] = []
printed (d ∷ ds) = ((48 + d.0) ∷ 32 ∷ d.1) ++ printed ds

-- N 2, S 1,024, Q 1,024, R 256; slots 0 and 1 are opened in form 1; after each line all messages are taken, slot 0
-- first
unfoldable pub program : Bytes → Bytes
program input =
    printed
    (session infod3 9 1024 2 (map fed (lines_of [] input))
    (after_calls infod3 (opens 0 1 ∷ opens 1 1 ∷ [])
    (empty_server (record { slot_count = 2; store_room = 1024; queue_room = 1024; record_room = 256 }))))

-- ---- the paper's script

-- lines of ASCII, each with this end
unfoldable pub text : Bytes → List String → Bytes
text end [] = []
text end (l ∷ ls) = (ascii l ++ end) ++ text end ls

abbrev pub input : List String
input =
    "1 SUB site.*.state"
    ∷ "0 WRITE site.7.state alert"
    ∷ "0 BEGIN"
    ∷ "0 WRITE site.7.km 4"
    ∷ "0 WRITE site.7.state clear"
    ∷ "1 READ site.7.km"
    ∷ "0 COMMIT"
    ∷ "1 PING x"
    ∷ []

abbrev pub output : List String
output =
    "1 INFO \"site.7.state\" \"alert\""
    ∷ "1 INFO \"site.7.km\""
    ∷ "1 INFO \"site.7.state\" \"clear\""
    ∷ "1 PONG \"x\""
    ∷ []

pub script-right : program (text (10 ∷ []) input) ≡ text (13 ∷ 10 ∷ []) output
unfolding definitions session-definitions lines_of fed printed program text
    has_nul first_nul same big_endian single tokens valid fits star_fits parts
    branches above on_first on_seq grow tree first sequence tree_of outcome whole too_long accepted
    starts_text kind_of ends_line line_end line_length frame_length length_of lower look_up id_of
    trim word after_word octal onto closed quoted escaped starting next fields
    decimal all_digits number_from version keyed by_count payload_for payload_of begun line_of
    fitting hello_of pattern_of read_of written_of write_of empty_of command_of meant binary text_line decoded_in received
    is_escaped escape escapes quote Quoting.decimal row_in row_of
    Forms.value_of Forms.value_field Forms.number_fields Forms.fields Forms.ending Forms.line Forms.form Forms.encoded
    Forms.written
    Matching.more Matching.and_then Matching.or_else Matching.upto Matching.single Matching.simple_m
    Matching.elem_m Matching.seq_m Matching.branch_m
script-right = refl
