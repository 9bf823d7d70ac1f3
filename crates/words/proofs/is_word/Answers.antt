use Rattle.std.proofs.Common.{rules}
use Rattle.words.proofs.Laws.{any_case}
use Rattle.words.proofs.is_word.Goals as goal

pub returns : goal.returns
returns c = search (rules, any_case)
