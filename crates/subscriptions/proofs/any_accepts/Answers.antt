use mathlib.Core.Path.{refl, ◌∙◌}
use native.Mathlib.Nat.{sub-zero}
use native.Mathlib.Omega.{arith}
use Rattle.std.proofs.Common.{rules, tests}
use Rattle.std.proofs.lemmas.Iterator.{serves_from_Range, YieldsList-from_range}
use Rattle.std.proofs.lemmas.Iterator.Search.{any_from_yields_List}
use Rattle.pattern.specs.Answer.{accepted}
use Rattle.subscriptions.specs.Region.{cell_at}
use Rattle.subscriptions.proofs.Cells.{cell_of}
use Rattle.subscriptions.proofs.Lists.{subscribed-cells}
use Rattle.subscriptions.proofs.any_accepts.Goals as goal

pub any-requires-clause-callable : goal.any-requires-clause-callable
any-requires-clause-callable c =
    serves_from_Range (λ x q k. search rules)
    (λ x lo hi κs p g e r l u v κ. cell_of c.args.s.now x c.requires (omega arith))

pub returns : goal.returns
returns c =
    any_from_yields_List (λ i. accepted (cell_at c.args.s.now i) c.args.key.now) _ _ _ c.any.ensures.ran
    (YieldsList-from_range 0 c.count.result c.count.result refl (sub-zero c.count.result)) (λ x b q k. search (rules, tests))
    ∙ subscribed-cells c.args.key.now c.args.s.now c.count.result c.count.ensures
