-- `text::fields::word_end`: up to the first space.
use Rattle.std.proofs.Common.{rules, tests}
use native.Mathlib.Omega.{arith}
use mathlib.Core.Path.{◌≡◌, ap, ◌∙◌}
use Prim.Native.Nat.{◌+◌}
use lib.ListN.{drop}
use Rattle.std.specs.List.{position}
use Rattle.std.proofs.lemmas.Iterator.{YieldsList-from_slice}
use Rattle.std.proofs.lemmas.Iterator.Search.{position_from_yields_List}
use Rattle.text.proofs.ScanLaws.{tail_whole, space, spells}
use Rattle.text.proofs.fields.word_end.Goals as goal

pub returns : goal.returns
returns c =
    let A = c.args in
    let rest = c.iter.ensures.rest ∙ tail_whole A.line.now A.at in
    let e : c.position.result ≡ position space (drop A.at A.line.now) =
    position_from_yields_List space _ _ _ c.position.ensures.ran (YieldsList-from_slice (drop A.at A.line.now) rest)
    (λ x b q k. search (rules, tests))
    in
    spells A.line.now A.at (omega arith) _
    (ap (◌+◌ A.at) (c.unwrap_or.ensures ∙ rw (e, tail_whole A.line.now A.at)))
