-- `commit::turn` meets its contract.
use Rattle.protocol.specs.Ids.{id_of}
use Rattle.store.specs.Region.{room_of}
use Rattle.commit.specs.Promises.{store_before}
use Rattle.commit.proofs.Steps.{row-action, row-known, write-action, turn-place, write-short}
use Rattle.commit.proofs.turn.Goals as goal

pub write_turn-requires : goal.write_turn-requires
write_turn-requires c =
    let A = c.args in
    let g = c.requires in
    record {
      place = turn-place g;
      short = write-short _
          (row-known A.trial.recording.now A.at g.row 4 _ c.in-Write.ensures c.payload_at-payload.ensures);
      tally = g.tally;
    }

pub returns-in-Write : goal.returns-in-Write
returns-in-Write c =
    let A = c.args in
    let g = c.requires in
    let p = c.payload_at-payload in
    rw (row-action A.trial.recording.now A.at g.row 4 _ c.in-Write.ensures p.ensures, write-action p.result.now)
    (c.write_turn.ensures.value A.patterns.now g.patterns-fine)

pub pattern_turn-requires : goal.pattern_turn-requires
pattern_turn-requires c =
    let A = c.args in
    let g = c.requires in
    let i = c.id_at in
    record {
      patterns-fine = g.patterns-fine;
      known = row-known A.trial.recording.now A.at g.row (id_of i.result) _ i.ensures c.payload_at-payload.ensures;
      other = c.in_default.not-Write;
    }

pub returns-in_default : goal.returns-in_default
returns-in_default c =
    let A = c.args in
    let g = c.requires in
    let i = c.id_at in
    let r = A.trial.recording.now in
    rw (row-action r A.at g.row (id_of i.result) _ i.ensures c.payload_at-payload.ensures)
    (c.pattern_turn.ensures.value (room_of A.trial.store.now) (store_before A.trial.store.now r A.at) g.tally)
