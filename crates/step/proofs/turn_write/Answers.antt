-- `step::turn_write` meets its contract.
use mathlib.Core.Path.{sym}
use lib.Seq.{length-take-le}
use Rattle.memory.specs.Image.{image_of}
use Rattle.step.specs.TurnParts.{WritingAt}
use Rattle.commit.proofs.Parts.{splits-within}
use Rattle.step.proofs.Indexing.{write-short, write-movable, write-indexed}
use Rattle.step.proofs.turn_write.Goals as goal
use Rattle.step.proofs.turn_write.Goals.{After-find-at}

-- the parts and the place of the key are known
placed : (c : After-find-at)
    → WritingAt c.args.mem.now c.args.p.now
    c.split-key.result.key c.split-key.result.written
    c.find-at.result.at c.find-at.result.len
placed c =
    let h = c.requires.0 in
    let s = c.split-key.ensures in
    record {
      writing = h;
      key = s.key;
      place = record {
        fine = h.sound.store;
        written = s.written;
        found = rw (← s.key) (rw c.store_part.ensures at c.find-at.ensures);
      };
    }

pub slice_bounds-find-end : goal.slice_bounds-find-end
slice_bounds-find-end c =
    sym (length-take-le _ c.args.p.now (splits-within c.split-key.ensures))

pub find-at-requires : goal.find-at-requires
unfolding image_of
find-at-requires c =
    let h = c.requires in
    rw c.store_part.ensures (h.0.sound.store, h.1)

pub written_size-requires : goal.written_size-requires
written_size-requires c =
    write-short (placed (goal.at.written_size-requires c).After-find-at) c.requires.1

pub move_index-requires : goal.move_index-requires
move_index-requires c =
    write-movable (placed (goal.at.move_index-requires c).After-find-at) c.requires.1 c.written_size.ensures

pub returns : goal.returns
returns c =
    write-indexed (placed (goal.at.returns c).After-find-at) c.requires.1 c.written_size.ensures
    c.move_index.ensures c.write_at.ensures
