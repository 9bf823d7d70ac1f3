-- `pattern::part::star_at` meets its contract: a token follows the `*`, or none does.
use Rattle.std.proofs.Common.{arith}
use Rattle.pattern.proofs.Parts.{star-before, star-end}
use Rattle.pattern.proofs.part.star_at.Goals as goal

pub returns-then-at-pattern : goal.returns-then-at-pattern
returns-then-at-pattern c = star-end _ _ (omega arith) c.requires

pub returns : goal.returns
returns c =
    let y = c.token_at-token.ensures in
    rw c.star_part.ensures (star-before _ _ _ y.on y.within _ y.is)
