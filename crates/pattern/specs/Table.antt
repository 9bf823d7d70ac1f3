-- Document 01's table of patterns under "Checked examples", by computation, as one statement.
use Rattle.std.specs.Prelude.{ℕ, ◌≡◌, refl, List, [], ◌∷◌, map, Bool, true, false}
use Prim.Native.String.{String}
use Rattle.octets.specs.Octets.{ascii}
use Rattle.pattern.specs.Tokens.{single, tokens}
use Rattle.pattern.specs.Syntax.{star_fits, fits, valid}
use Rattle.pattern.specs.Parts.{parts}
use Rattle.pattern.specs.Tree.{branches, above, on_first, on_seq, grow, tree, first, sequence, tree_of}
use Rattle.pattern.specs.Matching as M
use Rattle.pattern.specs.Answer.{Match, outcome, whole, steps_of, too_long, answer}

-- A pattern, a key, yes or no, and the steps.
abbrev Row : Type 0
Row = String × String × Bool × ℕ

abbrev pub yes : Bool
yes = true

abbrev pub no : Bool
no = false

abbrev table : List Row
table =
    ("iface.*.mtu", "iface.eth0.mtu", yes, 14)
    ∷ ("iface.*.mtu", "iface.bridge0.port1.mtu", no, 15)
    ∷ ("iface.*", "iface.bridge0.port1.mtu", yes, 7)
    ∷ ("iface.*", "iface.", yes, 7)
    ∷ ("(a|ab)c", "abc", no, 2)
    ∷ ("(ab|a)c", "ac", yes, 4)
    ∷ ("", "", yes, 0)
    ∷ ("", "a", no, 0)
    ∷ ("*?", "xy", no, 1)
    ∷ ("*.b", "a.x.b", no, 3)
    ∷ ("*", "", yes, 1)
    ∷ ("((((a))))", "a", yes, 1)
    ∷ []

abbrev stated : Row → Match
stated r = record { answer = 0; matched = r.2; steps = r.3 }

abbrev computed : Row → Match
computed r = answer (ascii r.0) (ascii r.1)

-- Every row of the table is what the definitions give.
pub table-holds : map computed table ≡ map stated table
unfolding ascii answer too_long outcome whole steps_of M.seq_m M.simple_m M.single M.upto M.more M.and_then M.or_else single
    tokens star_fits fits valid parts branches above on_first on_seq grow tree first sequence tree_of
table-holds = refl
