-- `step::write_at` meets its contract.
use mathlib.Core.Path.{◌≡◌, sym, ◌∙◌}
use mathlib.Core.Bool.{true, not}
use lib.ListN.{take}
use borrow.Author.Tests.{not-true, not-false}
use Rattle.model.specs.Step.{store_after}
use Rattle.recording.specs.Encoding.{key_in, write_from}
use Rattle.memory.specs.Image.{image_of, with_store}
use Rattle.memory.specs.Rules.{Becomes}
use Rattle.step.specs.TurnParts.{changed_by}
use Rattle.step.proofs.Writes.{key-behind, key-value, found-key, row-present}
use Rattle.step.proofs.Writes.{write-within, write-ready, stored_some, stored-none}
use Rattle.step.proofs.Writes.{wrote-same, wrote}
use Rattle.step.proofs.write_at.Goals as goal
use Rattle.step.proofs.write_at.Goals.{in-Delete, in-Value, After-is_unchanged, Else-is_unchanged, Joined-written}

-- the test is that of the memory's store
tested : (c : After-is_unchanged)
    → c.is_unchanged.result
    ≡ not (changed_by c.args.p.now (image_of c.args.mem.now).store)
unfolding image_of
tested c = rw c.store_part.ensures at c.is_unchanged.ensures

-- the test is that of the memory's store
tested-2 : (c : Else-is_unchanged)
    → c.is_unchanged.result
    ≡ not (changed_by c.args.p.now (image_of c.args.mem.now).store)
unfolding image_of
tested-2 c = rw c.store_part.ensures at c.is_unchanged.ensures

changed : (c : Else-is_unchanged)
    → changed_by c.args.p.now (image_of c.args.mem.now).store ≡ true
changed c = not-false _ (sym (tested-2 c) ∙ c.if-is_unchanged.false)

-- either way the store is what the WRITE makes of it
stored : (c : Joined-written)
    → Becomes c.args.mem.now c.match-written.mem
    (with_store (store_after (write_from c.args.p.now) (image_of c.args.mem.now).store)
    (image_of c.args.mem.now))
stored c =
    let a = c.args in
    let h = c.requires in
    elim c.match-written.branch [
      | in-Delete w ↦
          rw w.mem-is
          (stored-none h.writing h.key (key-behind h.place w.in-Delete.is)
          (w.delete_at.ensures (take a.key a.p.now) (found-key h.key h.place)))
      | in-Value w ↦
          rw w.mem-is (stored_some h.writing h.key (key-value _ _ h.place w.in-Value.is) w.write_at.ensures)
    ]

pub returns-then-is_unchanged : goal.returns-then-is_unchanged
returns-then-is_unchanged c =
    let h = c.requires in
    wrote-same h.writing h.key (not-true _ (sym (tested (goal.at.returns-then-is_unchanged c).After-is_unchanged) ∙ c.if-is_unchanged.true))

pub delete_at-requires : goal.delete_at-requires
unfolding image_of
delete_at-requires c =
    let h = c.requires in (
      h.writing.sound,
      record {
        fine = h.place.fine;
        key = key_in c.args.p.now;
        found = h.place.found;
        present = row-present h.place c.in-Delete.is (changed (goal.at.delete_at-requires c).Else-is_unchanged);
      },
    )

pub write_at-requires : goal.write_at-requires
write_at-requires c =
    let h = c.requires in (
      h.writing.sound,
      record {
        writable = write-ready h.writing h.key (key-value _ _ h.place c.in-Value.is);
        found = found-key h.key h.place;
      },
    )

pub notify_all-requires : goal.notify_all-requires
notify_all-requires c =
    let h = c.requires in
    ((stored (goal.at.notify_all-requires c).Joined-written).sound, write-within h.writing h.key, h.writing.short)

pub returns : goal.returns
returns c =
    let h = c.requires in
    wrote h.writing h.key (changed (goal.at.returns c).Else-is_unchanged) (stored (goal.at.returns c).Joined-written) c.notify_all.ensures
