-- `feed_message` calls itself in the kind that a stream's first message fixes, which is no stream's: the measure is 1 for
-- a stream, and else 0.
use Rattle.broker.proofs.Cuts.{rank}
use Rattle.broker.proofs.feeding.+feed_message.Given as goal

abbrev pub decreases-feed_message : goal.decreases-feed_message
decreases-feed_message l = rank l.kind
