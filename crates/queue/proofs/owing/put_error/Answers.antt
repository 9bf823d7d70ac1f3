use mathlib.Core.Path.{◌≡◌}
use Prim.Native.Nat.{ℕ, ◌+◌, ◌≤◌}
use native.Mathlib.Omega.{arith}
use lib.ListN.{length}
use Rattle.octets.specs.Octets.{Bytes}
use Rattle.protocol.specs.Terms.{error}
use Rattle.protocol.specs.declared.Kind.{Kind}
use Rattle.protocol.specs.declared.Refusal.{Refusal}
use Rattle.message.specs.Forms.{written}
use Rattle.message.specs.Writing.{said}
use Rattle.message.proofs.Theorems.{error-fits}
use Rattle.queue.specs.Region.{InStep, head, pending_end, room}
use Rattle.queue.specs.Parts.{Dropping}
use Rattle.queue.proofs.Regions.{in-step-less}
use Rattle.queue.proofs.Steps.{is_overflown-appended, putting-error}
use Rattle.queue.specs.Owed.{encoded}
use Rattle.queue.proofs.owing.put_error.Goals as goal
use Rattle.queue.proofs.owing.put_error.Goals.{After-new-m}

-- the ERROR fits in the room kept back
room-kept : (k : Kind) (r : Refusal) {n : ℕ} {q q' : Bytes} → n ≡ length (written k (error r))
    → InStep 64 q → Dropping 0 q q' → pending_end q' + (4 + n) ≤ head q' + room q'
room-kept k r e i d = omega (arith, error-fits k r, i, d.size, d.same_head, d.end-tail)

-- its length
length-is : (c : After-new-m) → c.new-m.result.len ≡ length (written c.args.kind (error c.args.refusal))
unfolding said
length-is c = rw c.new-m.ensures at c.new-m.result.measured

pub append-requires : goal.append-requires
append-requires c =
    let d = c.drop_pending.ensures in
    record {
      fine = d.fine 0 (in-step-less (omega arith) c.requires);
      flag-clear = d.flag-set;
      enough = room-kept c.args.kind c.args.refusal (length-is (goal.at.append-requires c).After-new-m) c.requires d;
    }

pub settle-requires : goal.settle-requires
settle-requires c =
    let d = c.drop_pending in
    let a = c.append in
    let l = length-is (goal.at.settle-requires c).After-new-m in (
      a.ensures.fine 0 (omega (arith, room-kept c.args.kind c.args.refusal l c.requires d.ensures)),
      is_overflown-appended d.new.q a.new.q (encoded c.new-m.result) c.new-m.result.len a.ensures,
    )

pub returns : goal.returns
unfolding said
returns c =
    let A = c.args in
    let l = length-is (goal.at.returns c).After-new-m in
    putting-error A.kind A.refusal A.q.now c.drop_pending.new.q c.append.new.q c.settle.new.q c.new-m.result.len
    c.requires (omega (arith, error-fits A.kind A.refusal)) l c.drop_pending.ensures
    (rw c.new-m.ensures at c.append.ensures) c.settle.ensures
