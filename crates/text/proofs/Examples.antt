-- Lines and the messages that they are, computed: document 01's own, then cases that are easy to get wrong.
use mathlib.Core.Path.{◌≡◌, refl}
use mathlib.Core.Bool.{Bool, true, false}
use mathlib.Core.List.{List, [], ◌∷◌, map}
use Prim.Native.String.{String}
use Rattle.octets.specs.Octets.{ascii, has_nul}
use Rattle.octets.specs.Order.{same}
use Rattle.protocol.specs.declared.Refusal.TheVariants.{Unknown, Parameter}
use Rattle.words.specs.Words.{lower, look_up, id_of}
use Rattle.text.specs.Fields.{trim, word, after_word, octal, onto, closed, quoted, escaped, starting, next}
use Rattle.text.specs.Fields.{fields}
use Rattle.text.specs.Payload.{decimal, all_digits, number_from, version, keyed, by_count, payload_for}
use Rattle.text.specs.Line.{Line, blank, refused, message, payload_of, begun, line_of}
use Rattle.text.specs.PayloadPost.{stores}
use Rattle.text.specs.LinePost.{stores_line}

abbrev computed : String × Line → Line
computed e = line_of (ascii e.0)

abbrev given : String × Line → Line
given e = e.1

-- values and deletions, escapes, blank lines
abbrev strings : List (String × Line)
strings =
    ("w k \"a\\040b\"", message 4 (107 ∷ 0 ∷ 97 ∷ 32 ∷ 98 ∷ []))
    ∷ ("w k \"\\400\"", refused Parameter)
    ∷ ("w k \"\\8\"", refused Parameter)
    ∷ ("w k \"\\1234\"", message 4 (107 ∷ 0 ∷ 83 ∷ 52 ∷ []))
    ∷ ("w k \"\\12\"", refused Parameter)
    ∷ ("w k", message 4 (107 ∷ []))
    ∷ ("w k \"\"", message 4 (107 ∷ 0 ∷ []))
    ∷ ("w \"\" v", message 4 (0 ∷ 118 ∷ []))
    ∷ ("w \"a\\000b\" v", refused Parameter)
    ∷ ("w a \"\\000\\377\"", message 4 (97 ∷ 0 ∷ 0 ∷ 255 ∷ []))
    ∷ ("r \"\\000\"", message 3 (0 ∷ []))
    ∷ ("p \"x", refused Parameter)
    ∷ ("p \"a\"b", refused Parameter)
    ∷ ("p \"a\"\"b\"", refused Parameter)
    ∷ ("p a\"b\\", message 7 (ascii "a\"b\\"))
    ∷ ("p \"a b\" ", message 7 (ascii "a b"))
    ∷ ("", blank)
    ∷ ("   ", blank)
    ∷ []

pub strings-hold : map computed strings ≡ map given strings
unfolding has_nul trim word after_word octal onto closed quoted escaped starting next fields ascii lower same look_up
    id_of decimal all_digits number_from version keyed by_count payload_for payload_of begun line_of
strings-hold = refl

-- words, letters, numbers of fields, versions
abbrev commands : List (String × Line)
commands =
    ("SUB site.*", message 1 (ascii "site.*"))
    ∷ ("unSub a", message 2 (ascii "a"))
    ∷ ("  pInG   x  ", message 7 (ascii "x"))
    ∷ ("p", message 7 [])
    ∷ ("U a", message 2 (ascii "a"))
    ∷ ("\"PING\"", refused Unknown)
    ∷ ("PING\"x\"", refused Unknown)
    ∷ ("HELP", refused Unknown)
    ∷ ("h 1", refused Unknown)
    ∷ ("commit x", refused Parameter)
    ∷ ("nope \"", refused Unknown)
    ∷ ("p a b", refused Parameter)
    ∷ ("p a b \"", refused Parameter)
    ∷ ("r", refused Parameter)
    ∷ ("BEGIN", message 5 [])
    ∷ ("BEGIN \"\"", refused Parameter)
    ∷ ("c x", refused Parameter)
    ∷ ("HELLO", message 0 (0 ∷ []))
    ∷ ("hello 0007", message 0 (7 ∷ []))
    ∷ ("hello 255 \"a b\"", message 0 (255 ∷ ascii "a b"))
    ∷ ("hello 256", refused Parameter)
    ∷ ("hello 000000000000000000000000000000000255", message 0 (255 ∷ []))
    ∷ ("hello \"1\"", refused Parameter)
    ∷ ("hello \"\"", refused Parameter)
    ∷ ("hello +1", refused Parameter)
    ∷ ("hello 1 a b", refused Parameter)
    ∷ []

pub commands-hold : map computed commands ≡ map given commands
unfolding has_nul trim word after_word octal onto closed quoted escaped starting next fields ascii lower same look_up
    id_of decimal all_digits number_from version keyed by_count payload_for payload_of begun line_of
commands-hold = refl

-- refused lines, and whether each can have stored a byte in the buffer
abbrev refusals : List (String × Bool)
refusals =
    ("nope x", false)
    ∷ ("BEGIN x", false)
    ∷ ("c \"", false)
    ∷ ("hello 256 x", false)
    ∷ ("hello \"1\"", false)
    ∷ ("r", false)
    ∷ ("w  ", false)
    ∷ ("hello 1 a b", true)
    ∷ ("r a b", true)
    ∷ ("p \"a", true)
    ∷ ("w k a b", true)
    ∷ []

abbrev stored : String × Bool → Bool
stored e = stores_line (ascii e.0)

abbrev stored_given : String × Bool → Bool
stored_given e = e.1

pub refusals-hold : map stored refusals ≡ map stored_given refusals
unfolding trim word after_word octal onto closed quoted escaped starting next ascii lower same look_up id_of decimal
    all_digits number_from version stores stores_line
refusals-hold = refl
