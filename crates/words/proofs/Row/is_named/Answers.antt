-- `words::Row::is_named` asks for the row's word, then for its letter.
use Rattle.words.specs.Table.{entry_of}
use Rattle.words.proofs.Laws.{word-small, letter-small}
use Rattle.words.proofs.Row.is_named.Goals as goal

pub is_word-requires : goal.is_word-requires
is_word-requires c = word-small (entry_of c.args.self.now) c.requires

pub is_word-requires-else-is_word : goal.is_word-requires-else-is_word
is_word-requires-else-is_word c =
    letter-small (entry_of c.args.self.now) c.in-Some.letter c.requires c.in-Some.is
