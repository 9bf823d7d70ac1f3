-- `text::fields::skip_spaces`: up to the first byte that is no space.
use Rattle.std.proofs.Common.{rules, tests}
use native.Mathlib.Omega.{arith}
use mathlib.Core.Path.{◌≡◌, ap, ◌∙◌}
use Prim.Native.Nat.{◌+◌}
use lib.ListN.{drop}
use Rattle.std.specs.Option.{option_map}
use Rattle.std.specs.List.{position}
use Rattle.std.proofs.lemmas.Iterator.{YieldsList-from_slice}
use Rattle.std.proofs.lemmas.Iterator.Search.{position_from_yields_List}
use Rattle.text.proofs.ScanLaws.{tail_whole, no_space, skips}
use Rattle.text.proofs.fields.skip_spaces.Goals as goal

pub returns : goal.returns
returns c =
    let A = c.args in
    let rest = c.iter.ensures.rest ∙ tail_whole A.line.now A.at in
    let e : c.position.result ≡ position no_space (drop A.at A.line.now) =
    position_from_yields_List no_space _ _ _ c.position.ensures.ran (YieldsList-from_slice (drop A.at A.line.now) rest)
    (λ x b q k. search (rules, tests))
    in
    let f : c.map.result ≡ option_map (λ n. A.at + n) c.position.result = search rules in
    skips A.line.now A.at (omega arith) _ (f ∙ ap (option_map (λ n. A.at + n)) e)
