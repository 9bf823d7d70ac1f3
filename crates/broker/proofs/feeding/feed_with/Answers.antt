-- `broker::feeding::feed_with` meets its contract.
use native.Mathlib.Omega.{arith}
use Rattle.broker.proofs.feeding.feed_with.Goals as goal

pub whole_as_slice-feed_read : goal.whole_as_slice-feed_read
whole_as_slice-feed_read g c = omega (arith, c.requires.2)
