use Rattle.memory.specs.Promises.{pattern_added}
use Rattle.memory.proofs.Lent.{open-used, lent-open, lent_placed}
use Rattle.memory.proofs.Returned.{lent-addable, lent-changes}
use Rattle.memory.proofs.patterns.add_pattern.Goals as goal

pub add_pattern-requires : goal.add_pattern-requires
add_pattern-requires c =
    let h = c.requires.in-open.in-slot in
    let p = c.slot_extent-s.ensures in
    record { room = c.slot_extent-s.result.room; addable = lent-addable h p c.requires }

pub returns : goal.returns
unfolding pattern_added
returns c =
    let h = c.requires.in-open.in-slot in
    let p = c.slot_extent-s.ensures in
    lent-changes h p (pattern_added c.args.pattern.now) (open-used _ c.requires.in-open.has-open)
    (c.add_pattern.ensures c.slot_extent-s.result.room (lent-open (lent_placed h p) c.requires.in-open.has-open))
