use lib.ListN.{drop}
use Rattle.recording.specs.Encoding.{action_at}
use Rattle.recording.specs.Region.{rows_of}
use Rattle.recording.proofs.Turns.{body_for-other, body_for-write, is_write, is_other}
use Rattle.recording.proofs.turn.write_at.Goals as goal

pub returns-then-ne : goal.returns-then-ne
returns-then-ne c =
    rw (body_for-other c.args.key.now (action_at (drop c.args.at (rows_of c.args.r.now)))
    (rw c.id_at.ensures at (is_other c.id_at.result c.if-ne.ensures)))

pub returns-then-is_write_of : goal.returns-then-is_write_of
returns-then-is_write_of c =
    rw (
      body_for-write c.args.key.now (drop c.args.at (rows_of c.args.r.now))
          (rw c.id_at.ensures at (is_write c.id_at.result c.if-ne.ensures)),
      ← c.payload_at-payload.ensures,
      ← c.if-is_write_of.ensures,
    )

pub returns-else-is_write_of : goal.returns-else-is_write_of
returns-else-is_write_of c =
    rw (
      body_for-write c.args.key.now (drop c.args.at (rows_of c.args.r.now))
          (rw c.id_at.ensures at (is_write c.id_at.result c.if-ne.ensures)),
      ← c.payload_at-payload.ensures,
      ← c.if-is_write_of.ensures,
    )
