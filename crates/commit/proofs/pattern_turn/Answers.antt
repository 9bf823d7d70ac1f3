-- `commit::pattern_turn` meets its contract.
use lib.ListN.{length}
use Rattle.commit.proofs.Steps.{sub-room, sub-short}
use Rattle.commit.proofs.Steps.{sub-stopped, sub-taken, unsub-taken, command-taken}
use Rattle.commit.proofs.pattern_turn.Goals as goal

pub returns-then-sub_refused : goal.returns-then-sub_refused
returns-then-sub_refused c =
    let A = c.args in
    rw c.in-Sub.is
    (sub-stopped A.pattern.now A.patterns.now A.t _ c.requires.patterns-fine c.sub_refused.ensures c.if-sub_refused.true)

pub add-requires : goal.add-requires
add-requires c =
    let A = c.args in
    record {
      fine = c.requires.patterns-fine;
      short = sub-short (length A.pattern.now) (rw c.in-Sub.is at c.requires.known);
      few = sub-room A.patterns.now A.pattern.now _ c.sub_refused.ensures c.if-sub_refused.false;
    }

pub returns-else-sub_refused : goal.returns-else-sub_refused
returns-else-sub_refused c =
    let A = c.args in
    rw c.in-Sub.is
    (sub-taken A.pattern.now A.patterns.now _ A.t _ c.sub_refused.ensures c.if-sub_refused.false c.add.ensures)

pub returns-in-Unsub : goal.returns-in-Unsub
returns-in-Unsub c =
    let A = c.args in
    rw c.in-Unsub.is (unsub-taken A.pattern.now A.patterns.now _ A.t c.remove.ensures)

pub returns-in_default : goal.returns-in_default
returns-in_default c =
    let A = c.args in
    command-taken A.id A.pattern.now A.patterns.now A.t c.requires.patterns-fine
    c.in_default.not-Sub c.in_default.not-Unsub c.requires.other
