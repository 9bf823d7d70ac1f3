use mathlib.Core.Path.{◌≡◌, refl, sym, ◌∙◌}
use mathlib.Core.Bool.{true}
use Prim.Native.Nat.{◌+◌}
use native.Mathlib.Omega.{arith}
use borrow.Author.Tests.{leb-true}
use Rattle.message.specs.Forms.{written}
use Rattle.message.specs.Writing.{said}
use Rattle.queue.specs.Region.{head, pending_end, flag, room}
use Rattle.queue.specs.Parts.{has_room}
use Rattle.queue.proofs.Regions.{in-step-less, kept-flag}
use Rattle.queue.proofs.Steps.{owing-overflown, owing-kept, owing-over}
use Rattle.queue.proofs.owing.owe.Goals as goal
use Rattle.queue.proofs.owing.owe.Goals.{Else-is_overflown}

-- the step has not overflown
clear-flag : (c : Else-is_overflown) → flag c.args.q.now ≡ 0
clear-flag c =
    kept-flag c.args.q.now (sym c.is_overflown.ensures ∙ c.if-is_overflown.false)

pub returns-then-is_overflown : goal.returns-then-is_overflown
returns-then-is_overflown c =
    let A = c.args in
    let t = sym c.is_overflown.ensures ∙ c.if-is_overflown.true in
    record {
      size = refl;
      fine = c.requires.0;
      meaning = owing-overflown A.q.now (written A.kind (said A.message A.body.now)) t;
    }

pub append-requires : goal.append-requires
append-requires c =
    let q = c.args.q.now in
    let n = c.new-m.result.len in
    let t : has_room n q ≡ true = sym c.has_room.ensures ∙ c.if-has_room.true in
    record {
      fine = in-step-less (omega arith) c.requires.0;
      flag-clear = clear-flag (goal.at.append-requires c).Else-is_overflown;
      enough = omega (arith, leb-true (pending_end q + (4 + n) + 64) (head q + room q) t);
    }

pub returns-then-has_room : goal.returns-then-has_room
returns-then-has_room c =
    let A = c.args in
    let t = sym c.has_room.ensures ∙ c.if-has_room.true in
    owing-kept A.q.now c.append.new.q (written A.kind (said A.message A.body.now))
    c.new-m.result.len c.requires.0 (rw c.new-m.ensures at c.new-m.result.measured) (clear-flag (goal.at.returns-then-has_room c).Else-is_overflown) t
    (rw c.new-m.ensures at c.append.ensures)

pub returns-else-has_room : goal.returns-else-has_room
returns-else-has_room c =
    let A = c.args in
    let t = sym c.has_room.ensures ∙ c.if-has_room.false in
    owing-over A.q.now c.drop_pending.new.q (written A.kind (said A.message A.body.now))
    c.new-m.result.len c.requires.0 (rw c.new-m.ensures at c.new-m.result.measured) (clear-flag (goal.at.returns-else-has_room c).Else-is_overflown) t
    c.drop_pending.ensures
