-- `broker::setting::memory_size` meets its contract.
use mathlib.Core.Path.{sym, ◌∙◌}
use Rattle.refinement.specs.Promises.{size_for}
use Rattle.broker.proofs.setting.memory_size.Goals as goal

pub returns-then-not-in_range : goal.returns-then-not-in_range
unfolding size_for
returns-then-not-in_range c = let e = sym c.in_range.ensures ∙ c.if-not-in_range.true in rw e

pub size-requires : goal.size-requires
size-requires c = sym c.in_range.ensures ∙ c.if-not-in_range.false

pub returns : goal.returns
unfolding size_for
returns c =
    let e = sym c.in_range.ensures ∙ c.if-not-in_range.false in
    rw e c.size.ensures
