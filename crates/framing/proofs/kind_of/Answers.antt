-- `framing::kind_of` keeps every kind but a stream, which its first byte decides.
use Rattle.framing.proofs.Laws.{kind_of-other, kind_of-empty, kind_of-first}
use Rattle.framing.proofs.kind_of.Goals as goal

pub returns-in_default : goal.returns-in_default
returns-in_default c = kind_of-other c.args.kind c.args.input.now c.in_default.not-Stream

pub returns-in-Some : goal.returns-in-Some
returns-in-Some c =
    let A = c.args in
    let f = rw c.in-Some.is at c.first.ensures.value in
    let b = c.starts_text in
    rw c.if-starts_text.true at
    (kind_of-first A.kind A.input.now c.in-Stream.is c.in-Some.first.now b.result f b.ensures)

pub returns-in-Some-2 : goal.returns-in-Some-2
returns-in-Some-2 c =
    let A = c.args in
    let f = rw c.in-Some.is at c.first.ensures.value in
    let b = c.starts_text in
    rw c.if-starts_text.false at
    (kind_of-first A.kind A.input.now c.in-Stream.is c.in-Some.first.now b.result f b.ensures)

pub returns-in-None : goal.returns-in-None
returns-in-None c =
    kind_of-empty c.args.kind c.args.input.now c.in-Stream.is (rw c.in-None.is at c.first.ensures.value)
