-- `pattern::syntax::star_fits` meets its contract: no token is fine before the pattern's end.
use Rattle.std.proofs.Common.{arith}
use Rattle.std.proofs.lemmas.Bool.Decides.{nat_tests}
use Rattle.pattern.specs.Syntax.{star_fits}
use Rattle.pattern.proofs.Lexing.{tokens-end}
use Rattle.pattern.proofs.syntax.star_fits.Goals as goal

pub returns-then-at-pattern : goal.returns-then-at-pattern
unfolding star_fits
returns-then-at-pattern c = rw (tokens-end _ _ c.if-at-pattern.true) (grind (arith, nat_tests))
