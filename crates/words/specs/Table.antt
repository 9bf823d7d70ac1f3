-- The constant table of the code, row by row the table of words.
use Rattle.protocol.specs.Ids
use Rattle.words.specs.Words.{Entry}
use Rattle.words.specs.declared.Row.{Row}

-- a row of the code as one of the table of words
abbrev pub entry_of : Row → Entry
entry_of r = record { word = r.word.now; letter = r.letter; id = Ids.id_of r.id }
