use mathlib.Core.Path.{◌≡◌}
use mathlib.Core.List.{map}
use lib.ListN.{drop}
use Rattle.message.specs.Rows.{row_in_code}
use Rattle.server_text.specs.Lines.{server_rows, row_named}
use Rattle.server_text.proofs.word_of.Given as goal

-- the rows before this one do not have the word
abbrev pub invariant-loop-row : goal.invariant-loop-row
invariant-loop-row l = row_named l.w server_rows ≡ row_named l.w (map row_in_code (drop l.row-index l.row-items))
