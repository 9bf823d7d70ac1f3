-- The tally is that of a row exchanged for another, and as it was where the two bodies are equal.
use mathlib.Core.Path.{sym, ◌∙◌}
use native.Mathlib.Omega.{arith}
use lib.Seq.{length-take-le}
use Rattle.octets.proofs.Orders.{same-eq}
use Rattle.store.specs.Region.{room_of}
use Rattle.store.proofs.Region.{represents}
use Rattle.commit.specs.Promises.{store_before}
use Rattle.commit.proofs.Parts.{splits-within, written_size-le}
use Rattle.commit.proofs.Turns.{AtTurn, exchangeable, write-taken, same_taken}
use Rattle.commit.proofs.Steps.{ascending-store_before, body-store_before}
use Rattle.commit.proofs.write_turn.Goals as goal
use Rattle.commit.proofs.write_turn.Goals.{After-body_at_turn-body}

-- the body is the one that the key has in the store there
at_turn : (c : After-body_at_turn-body) →
    let A = c.args in
    AtTurn (room_of A.trial.store.now) (store_before A.trial.store.now A.trial.recording.now A.at) A.t A.payload.now
    c.body_at_turn-body.result.now c.split-key.result.key c.split-key.result.written
at_turn c =
    let st = c.args.trial.store.now in
    let r = c.args.trial.recording.now in
    record {
      ascending = ascending-store_before st r c.args.at c.requires.place.store-fine;
      tally = c.requires.tally;
      parts = c.split-key.ensures;
      found = body-store_before st r _ c.args.at _ c.body_at_turn-body.ensures;
    }

pub slice_bounds-body_at_turn-end : goal.slice_bounds-body_at_turn-end
slice_bounds-body_at_turn-end c =
    let p = c.args.payload.now in
    sym (length-take-le _ p (splits-within c.split-key.ensures))

pub returns-then-equal : goal.returns-then-equal
returns-then-equal c =
    same_taken (at_turn (goal.at.returns-then-equal c).After-body_at_turn-body)
    (same-eq _ _ (sym c.equal.ensures ∙ c.if-equal.true))

pub written_size-new-requires : goal.written_size-new-requires
written_size-new-requires c =
    omega (arith, written_size-le c.split-key.ensures, c.requires.short)

pub overflow_sub-trial : goal.overflow_sub-trial
overflow_sub-trial c =
    omega (arith, (represents c.args.trial.store.now c.requires.place.store-fine).long)

pub exchanged-requires : goal.exchanged-requires
exchanged-requires c =
    rw (c.body_size-old.ensures, c.written_size-new.ensures)
    (exchangeable (at_turn (goal.at.exchanged-requires c).After-body_at_turn-body) (omega arith) c.requires.short)

pub returns : goal.returns
returns c =
    write-taken (at_turn (goal.at.returns c).After-body_at_turn-body) c.exchanged.result
    (rw (c.body_size-old.ensures, c.written_size-new.ensures) at c.exchanged.ensures)
