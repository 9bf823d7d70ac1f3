use mathlib.Core.Path.{sym, ◌∙◌}
use Rattle.queue.proofs.Regions.{is_overflown-flag}
use Rattle.queue.proofs.owing.is_overflown.Goals as goal

pub returns : goal.returns
returns c = sym (is_overflown-flag c.args.q.now ∙ cc)
