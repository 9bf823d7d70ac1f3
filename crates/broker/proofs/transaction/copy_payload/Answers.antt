-- `broker::transaction::copy_payload` meets its contract.
use mathlib.Core.Path.{ap, ◌∙◌}
use Rattle.octets.specs.Octets.{Bytes}
use Rattle.protocol.specs.Terms.{payload}
use Rattle.recording.specs.Encoding.{action_at}
use Rattle.recording.specs.Region.{rows_of}
use lib.ListN.{drop}
use Rattle.broker.proofs.Recorded.{copied-front}
use Rattle.broker.proofs.transaction.copy_payload.Goals as goal

pub payload_at-payload-requires : goal.payload_at-payload-requires
payload_at-payload-requires c = rw c.recording_part.ensures c.requires.0.row

pub returns : goal.returns
returns c =
    copied-front c.args.buf.now c.requires.1
    (c.payload_at-payload.ensures
    ∙ ap (λ (r : Bytes). payload (action_at (drop c.args.at (rows_of r))))
    c.recording_part.ensures)
    c.copy.ensures
