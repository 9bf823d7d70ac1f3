-- `step::turn` meets its contract.
use mathlib.Core.Path.{◌≡◌, refl, sym, ap}
use mathlib.Core.Bool.{true, true≢false}
use mathlib.Core.Logic.{◌⊎◌, inl, inr}
use Prim.Native.Nat.{ℕ}
use Rattle.protocol.specs.declared.command_id.CommandId.{CommandId}
use Rattle.protocol.specs.declared.command_id.CommandId.TheVariants.{Begin, Commit}
use Rattle.protocol.specs.Ids.{id_of}
use Rattle.protocol.specs.Terms.{hello, sub, unsub, read, ping}
use Rattle.model.specs.Step.{store_after}
use Rattle.recording.specs.Encoding.{action_of, action_fine}
use Rattle.step.proofs.Turns.{turn-as, turn-short, turn-writing}
use Rattle.step.proofs.Turns.{hello-becomes, unsub-becomes, ping-becomes}
use Rattle.step.proofs.Indexing.{indexed-kept}
use Rattle.step.proofs.turn.Goals as goal

pub turn_write-requires : goal.turn_write-requires
turn_write-requires c =
    let h = c.requires in
    (turn-writing (turn-as (ap id_of c.in-Write.is) h.0), h.1)

pub owe-requires-in-Ping : goal.owe-requires-in-Ping
owe-requires-in-Ping c =
    let h = c.requires.0 in
    record { in-open = h.in-open; short = turn-short h }

pub returns-in-Hello : goal.returns-in-Hello
unfolding action_of store_after
returns-in-Hello c =
    let a = c.args in
    rw c.in-Hello.is
    (indexed-kept a.slot (hello a.p.now) refl c.requires.1
    (hello-becomes c.requires.0.in-open a.p.now _ c.owe.ensures))

pub returns-in-Sub : goal.returns-in-Sub
unfolding action_of store_after
returns-in-Sub c =
    let a = c.args in
    rw c.in-Sub.is
    (indexed-kept a.slot (sub a.p.now) refl c.requires.1 c.turn_sub.ensures)

pub returns-in-Unsub : goal.returns-in-Unsub
unfolding action_of store_after
returns-in-Unsub c =
    let a = c.args in
    rw c.in-Unsub.is
    (indexed-kept a.slot (unsub a.p.now) refl c.requires.1
    (unsub-becomes c.requires.0.in-open a.p.now c.remove_pattern.ensures))

pub returns-in-Read : goal.returns-in-Read
unfolding action_of store_after
returns-in-Read c =
    let a = c.args in
    rw c.in-Read.is
    (indexed-kept a.slot (read a.p.now) refl c.requires.1 c.turn_read.ensures)

pub returns-in-Write : goal.returns-in-Write
unfolding action_of
returns-in-Write c =
    let h = c.turn_write.ensures in
    rw c.in-Write.is (h.0 c.args.slot, h.1)

pub returns-in-Ping : goal.returns-in-Ping
unfolding action_of store_after
returns-in-Ping c =
    let a = c.args in
    rw c.in-Ping.is
    (indexed-kept a.slot (ping a.p.now) refl c.requires.1
    (ping-becomes c.requires.0.in-open a.p.now c.owe-in-Ping.ensures))

-- BEGIN and COMMIT are no actions
no-action : {id : CommandId} (n : ℕ) → (id ≡ Begin) ⊎ (id ≡ Commit) → action_fine (id_of id) n ≡ true → ⊥
unfolding action_fine
no-action n (inl e) h = true≢false (sym (rw e at h))
no-action n (inr e) h = true≢false (sym (rw e at h))

pub unreachable-requires : goal.unreachable-requires
unreachable-requires c = no-action _ c.in-Begin.is c.requires.0.known
