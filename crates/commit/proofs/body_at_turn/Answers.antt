-- What the recording and the store give is cut where it is no longer than the key: it gives no value then.
use native.Mathlib.Omega.{arith}
use Rattle.recording.specs.Turn.{earlier}
use Rattle.store.specs.Region.{store_of}
use Rattle.commit.proofs.Turns.{turn-none, turn-value}
use Rattle.commit.proofs.body_at_turn.Goals as goal

pub returns-then-body-key : goal.returns-then-body-key
returns-then-body-key c =
    let A = c.args in
    turn-none A.key.now (earlier A.trial.recording.now A.at) (store_of A.trial.store.now)
    c.look_up-stored.ensures c.turn_finds-body.ensures (omega arith)

pub returns : goal.returns
returns c =
    let A = c.args in
    turn-value A.key.now (earlier A.trial.recording.now A.at) (store_of A.trial.store.now)
    c.look_up-stored.ensures c.turn_finds-body.ensures (omega arith)
