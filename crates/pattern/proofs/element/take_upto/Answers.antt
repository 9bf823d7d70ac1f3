-- `pattern::element::take_upto` meets its contract, by the first c in what is left of the key.
use Rattle.std.proofs.Common.{◌≡◌, rules, tests, sym, ◌∙◌, eqb, drop}
use Rattle.std.proofs.lemmas.Iterator.{YieldsList-from_slice}
use Rattle.std.proofs.lemmas.Iterator.Search.{position_from_yields_List}
use Rattle.std.specs.Prelude.{position}
use Rattle.pattern.proofs.Keys.{rest, upto-some, upto-none}
use Rattle.pattern.proofs.element.take_upto.Goals.{After-position}
use Rattle.pattern.proofs.element.take_upto.Goals as goal

first : (c : After-position) → c.position.result ≡ position (λ x. eqb x c.args.c) (drop c.args.k c.args.key.now)
first c =
    position_from_yields_List (λ x. eqb x c.args.c) _ _ c.position.result c.position.ensures.ran
    (YieldsList-from_slice _ (c.iter.ensures.rest ∙ rest c.args.key.now c.args.k)) (λ x b q k. search (rules, tests))

pub returns-in-Some : goal.returns-in-Some
returns-in-Some c =
    upto-some _ _ _ c.requires _ (sym (first (goal.at.returns-in-Some c).After-position) ∙ c.in-Some.is)

pub returns-in-None : goal.returns-in-None
returns-in-None c =
    upto-none _ _ _ c.requires (sym (first (goal.at.returns-in-None c).After-position) ∙ c.in-None.is)
