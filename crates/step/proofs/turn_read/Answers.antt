-- `step::turn_read` meets its contract.
use native.Mathlib.Omega.{arith}
use Rattle.octets.specs.Octets.{Bytes}
use Rattle.protocol.specs.Terms.{read}
use Rattle.store.specs.Operation.{Found}
use Rattle.infod3.specs.Infod3.{infod3}
use Rattle.memory.specs.Layout.{sizes_of, store_part}
use Rattle.memory.specs.Image.{image_of}
use Rattle.memory.specs.Rules.{Becomes}
use Rattle.memory.specs.Promises.{Owing}
use Rattle.refinement.specs.Turn.{after_turn}
use Rattle.step.specs.TurnParts.{EntryAt, entry_body, entry_info}
use Rattle.step.proofs.Entries.{found-entry, found-body, found-size, absent-body}
use Rattle.step.proofs.Turns.{turn-short, read-becomes}
use Rattle.step.proofs.turn_read.Goals as goal
use Rattle.step.proofs.turn_read.Goals.{After-find-at, Else-len-eq0}

-- where the key is found in the memory's store
place : (c : After-find-at)
    → Found (store_part (sizes_of c.args.mem.now) c.args.mem.now) c.args.key.now
    c.find-at.result.at c.find-at.result.len
place c = rw c.store_part.ensures at c.find-at.ensures

-- where the key is found in the memory's store
place-2 : (c : Else-len-eq0)
    → Found (store_part (sizes_of c.args.mem.now) c.args.mem.now) c.args.key.now
    c.find-at.result.at c.find-at.result.len
place-2 c = rw c.store_part.ensures at c.find-at.ensures

-- the key has an entry
entry : (c : Else-len-eq0)
    → EntryAt c.args.mem.now c.args.slot c.find-at.result.at
entry c =
    let o = c.requires.0.in-open in
    record { in-open = o; row = found-entry o.in-slot.sound (place-2 c) (omega (arith, c.if-len-eq0.false)) }

-- the INFO is that of the key
told : (c : Else-len-eq0) {m : Bytes}
    → Owing c.args.slot
    (entry_info c.args.mem.now c.find-at.result.at) c.args.mem.now m
    → Becomes c.args.mem.now m
    (after_turn infod3 c.args.slot (read c.args.key.now)
    (image_of c.args.mem.now))
told c w =
    let a = c.args in
    let o = c.requires.0.in-open in
    read-becomes o a.key.now (entry_body a.mem.now c.find-at.result.at)
    (found-body o.in-slot.sound (place-2 c) (omega (arith, c.if-len-eq0.false))) w

pub find-at-requires : goal.find-at-requires
unfolding image_of
find-at-requires c =
    rw c.store_part.ensures (c.requires.0.in-open.in-slot.sound.store, c.requires.1)

pub owe-requires : goal.owe-requires
owe-requires c =
    record { in-open = c.requires.0.in-open; short = turn-short c.requires.0 }

pub returns-then-len-eq0 : goal.returns-then-len-eq0
returns-then-len-eq0 c =
    let a = c.args in
    let o = c.requires.0.in-open in
    read-becomes o a.key.now a.key.now (absent-body o.in-slot.sound (place (goal.at.returns-then-len-eq0 c).After-find-at) c.if-len-eq0.true)
    c.owe.ensures

pub owe_long_entry-requires : goal.owe_long_entry-requires
owe_long_entry-requires c = entry (goal.at.owe_long_entry-requires c).Else-len-eq0

pub returns-then-len-gt519 : goal.returns-then-len-gt519
returns-then-len-gt519 c =
    told (goal.at.returns-then-len-gt519 c).Else-len-eq0 c.owe_long_entry.ensures

pub owe_entry_by-requires : goal.owe_entry_by-requires
owe_entry_by-requires c =
    let h = c.requires.0.in-open.in-slot.sound in
    let n = found-size h (place (goal.at.owe_entry_by-requires c).After-find-at) (omega (arith, c.if-len-eq0.false)) in
    (entry (goal.at.owe_entry_by-requires c).Else-len-eq0, omega (arith, n, c.if-len-gt519.false), omega arith)

pub returns-else-len-gt519 : goal.returns-else-len-gt519
returns-else-len-gt519 c =
    told (goal.at.returns-else-len-gt519 c).Else-len-eq0 c.owe_entry_by.ensures
