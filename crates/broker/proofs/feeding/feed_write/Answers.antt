use mathlib.Core.Path.{◌≡◌, refl, sym, ◌∙◌}
use mathlib.Core.List.{[], ◌∷◌}
use lib.ListN.{length}
use lib.Seq.{length-take-le}
use Rattle.recording.specs.Encoding.{action_of}
use Rattle.recording.proofs.Packed.{action_fine-short}
use Rattle.memory.specs.Layout.{sizes_of, store_part}
use Rattle.memory.specs.Image.{image_of}
use Rattle.commit.specs.Promises.{Writing}
use Rattle.commit.proofs.Parts.{splits-within}
use Rattle.commit.proofs.Plain.{replacement}
use Rattle.step.specs.TurnParts.{KeyAt, refused_in}
use Rattle.step.proofs.Turns.{turn-writing}
use Rattle.broker.proofs.Decided.{obeys-as, obeys-stepped}
use Rattle.broker.proofs.Actions.{write-refused_in, action-refused, action-done, action-stepped}
use Rattle.broker.proofs.feeding.feed_write.Goals as goal
use Rattle.broker.proofs.feeding.feed_write.Goals.{After-find-place, After-write_refused}

-- the key's place in the memory's store
place : (c : After-find-place)
    → KeyAt (store_part (sizes_of c.args.mem.now) c.args.mem.now) c.args.p.now
    c.args.written c.find-place.result.at c.find-place.result.len
place c =
    let s = c.requires.2 in
    record {
      fine = c.requires.0.in-open.in-slot.sound.store;
      written = s.written;
      found = rw (← s.key) (rw c.store_part.ensures at c.find-place.ensures);
    }

-- the parts of the payload, with the size of the key's row
sized : (c : After-find-place)
    → Writing (store_part (sizes_of c.args.mem.now) c.args.mem.now) c.args.p.now
    c.args.key c.args.written c.find-place.result.len
sized c =
    record {
      parts = c.requires.2;
      row = (rw c.store_part.ensures at c.find-place.ensures).size;
    }

-- the parts of the payload, with the size of the key's row
sized-2 : (c : After-write_refused)
    → Writing (store_part (sizes_of c.args.mem.now) c.args.mem.now) c.args.p.now
    c.args.key c.args.written c.find-place.result.len
sized-2 c =
    record {
      parts = c.requires.2;
      row = (rw c.store_part.ensures at c.find-place.ensures).size;
    }

-- whether it is refused
refused : (c : After-write_refused)
    → c.write_refused.result
    ≡ refused_in c.args.mem.now c.args.slot
    (action_of 4 c.args.p.now)
unfolding action_of
refused c =
    let part = c.store_part-2.ensures in
    write-refused_in c.args.mem.now c.args.slot c.requires.0.in-open.in-slot.sound part
    (rw part (sized-2 c)) c.write_refused.ensures

pub slice_bounds-find-end : goal.slice_bounds-find-end
slice_bounds-find-end c =
    sym (length-take-le _ c.args.p.now (splits-within c.requires.2))

pub find-place-requires : goal.find-place-requires
unfolding image_of
find-place-requires c =
    rw c.store_part.ensures (c.requires.0.in-open.in-slot.sound.store, c.requires.4)

pub write_refused-requires : goal.write_refused-requires
write_refused-requires c =
    rw c.store_part-2.ensures
    (replacement (place (goal.at.write_refused-requires c).After-find-place).fine (action_fine-short 4 (length c.args.p.now) c.requires.1) (sized (goal.at.write_refused-requires c).After-find-place))

pub returns-then-write_refused : goal.returns-then-write_refused
returns-then-write_refused c =
    let A = c.args in
    λ n. obeys-as
    (action-refused A.mem.now A.slot n (action_of 4 A.p.now) c.requires.3
    (sym (refused (goal.at.returns-then-write_refused c).After-write_refused) ∙ c.if-write_refused.true))
    (c.shut.ensures n)

pub write_at-requires : goal.write_at-requires
write_at-requires c =
    record {
      writing = turn-writing
          (record {
            in-open = c.requires.0.in-open;
            known = c.requires.1;
            allowed = sym (refused (goal.at.write_at-requires c).After-write_refused) ∙ c.if-write_refused.false;
          });
      key = c.requires.2.key;
      place = place (goal.at.write_at-requires c).After-find-place;
    }

pub settle_all-requires : goal.settle_all-requires
settle_all-requires c =
    (c.write_at.ensures c.args.slot).sound

pub returns : goal.returns
unfolding action_of
returns c =
    let A = c.args in
    let a = action_of 4 A.p.now in
    let off = c.requires.3 in
    λ n. obeys-as
    (action-done A.mem.now A.slot n a off (sym (refused (goal.at.returns c).After-write_refused) ∙ c.if-write_refused.false))
    (obeys-stepped A.slot n c.requires.0.fine (a ∷ []) refl refl
    (action-stepped A.mem.now A.slot n a off c.requires.0 (c.write_at.ensures A.slot)
    c.settle_all.ensures))
