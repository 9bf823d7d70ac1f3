use Rattle.memory.specs.Promises.{pattern_removed}
use Rattle.memory.proofs.Lent.{open-used, lent-open, lent_placed}
use Rattle.memory.proofs.Returned.{lent-changes}
use Rattle.memory.proofs.patterns.remove_pattern.Goals as goal

pub remove_pattern-requires : goal.remove_pattern-requires
remove_pattern-requires c =
    let h = c.requires.in-slot in
    let p = c.slot_extent-s.ensures in
    record { room = c.slot_extent-s.result.room; client = lent-open (lent_placed h p) c.requires.has-open }

pub returns : goal.returns
unfolding pattern_removed
returns c =
    let h = c.requires.in-slot in
    let p = c.slot_extent-s.ensures in
    lent-changes h p (pattern_removed c.args.pattern.now) (open-used _ c.requires.has-open)
    (c.remove_pattern.ensures c.slot_extent-s.result.room (lent-open (lent_placed h p) c.requires.has-open))
