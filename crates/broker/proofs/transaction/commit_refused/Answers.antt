-- `broker::transaction::commit_refused` meets its contract.
use mathlib.Core.Path.{◌≡◌, ◌∙◌}
use Prim.Native.Nat.{ℕ}
use lib.ListN.{replicate, length-replicate}
use Rattle.octets.specs.Octets.{Bytes}
use Rattle.slot.specs.Region.{subscriptions_part}
use Rattle.memory.specs.Layout.{sizes_of, slot_part}
use Rattle.memory.specs.Promises.{InUsed}
use Rattle.broker.proofs.Recorded.{copied-patterns, commit-tried, commit-test}
use Rattle.broker.proofs.transaction.commit_refused.Goals as goal
use Rattle.broker.proofs.transaction.commit_refused.Goals.{After-copy}

abbrev mem : (c : After-copy) → Bytes
mem c = c.args.mem.now

abbrev slot : (c : After-copy) → ℕ
slot c = c.args.slot

client : (c : After-copy) → InUsed (mem c) (slot c)
client c = c.requires.0

-- the array holds the client's patterns
copied : (c : After-copy)
    → c.copy.new.dst ≡ subscriptions_part (slot_part (sizes_of (mem c)) (slot c) (mem c))
copied c =
    let s = c.subscriptions_part.ensures in
    copied-patterns (client c) (replicate 4100 0) (length-replicate {A = ℕ} 4100 0) s c.copy.ensures

pub refuses_any-requires : goal.refuses_any-requires
refuses_any-requires c =
    let s = c.store_part.ensures in
    commit-tried (client (goal.at.refuses_any-requires c).After-copy) s c.recording_part-recording.ensures (copied (goal.at.refuses_any-requires c).After-copy) c.requires.1

pub returns : goal.returns
returns c =
    let s = c.store_part.ensures in
    let r = c.recording_part-recording.ensures in
    c.refuses_any.ensures ∙ commit-test (client (goal.at.returns c).After-copy) s r (copied (goal.at.returns c).After-copy)
