-- `step::owe_long_entry` meets its contract.
use native.Mathlib.Omega.{arith}
use Prim.Native.Nat.{ℕ, ◌+◌, ◌≤◌}
use lib.ListN.{length}
use Rattle.step.specs.TurnParts.{entry_body}
use Rattle.step.proofs.Entries.{row-body, body-short}
use Rattle.step.proofs.owe_long_entry.Goals as goal
use Rattle.step.proofs.owe_long_entry.Goals.{After-row_size}

-- a body goes into a buffer that is 7 bytes shorter than its row at most
fits : (c : After-row_size) (k : ℕ) → c.row_size.result ≤ 7 + k
    → length (entry_body c.args.mem.now c.args.at) ≤ k
fits c k l =
    let n = rw c.store_part.ensures at c.row_size.ensures in
    omega (arith, row-body _ c.requires.row, n)

pub owe_entry_by-requires : goal.owe_entry_by-requires
owe_entry_by-requires c =
    (c.requires, fits (goal.at.owe_entry_by-requires c).After-row_size 2048 (omega arith), omega arith)

pub owe_entry_by-requires-in-0-to-8199 : goal.owe_entry_by-requires-in-0-to-8199
owe_entry_by-requires-in-0-to-8199 c =
    (c.requires, fits (goal.at.owe_entry_by-requires-in-0-to-8199 c).After-row_size 8192 (omega arith), omega arith)

pub owe_entry_by-requires-in-0-to-32775 : goal.owe_entry_by-requires-in-0-to-32775
owe_entry_by-requires-in-0-to-32775 c =
    (c.requires, fits (goal.at.owe_entry_by-requires-in-0-to-32775 c).After-row_size 32768 (omega arith), omega arith)

pub owe_entry_by-requires-in_default : goal.owe_entry_by-requires-in_default
owe_entry_by-requires-in_default c = (c.requires, body-short _ c.requires.row, omega arith)
