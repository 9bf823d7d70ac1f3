-- `framing::line_length` looks for a line end in the first 262,152 bytes.
use Rattle.framing.proofs.Laws.{line-found, line-long, line-short}
use Rattle.framing.proofs.line_length.Goals as goal

pub returns-then-end-n : goal.returns-then-end-n
returns-then-end-n c =
    let n = c.min-n in
    let e = c.line_end-end in
    line-found c.args.s.now n.result n.ensures e.result e.ensures c.if-end-n.true

pub returns-then-s-lt-LONGEST_LINE : goal.returns-then-s-lt-LONGEST_LINE
returns-then-s-lt-LONGEST_LINE c =
    let n = c.min-n in
    let e = c.line_end-end in
    line-short c.args.s.now n.result n.ensures e.result e.ensures c.if-end-n.false c.if-s-lt-LONGEST_LINE.true

pub returns-else-s-lt-LONGEST_LINE : goal.returns-else-s-lt-LONGEST_LINE
returns-else-s-lt-LONGEST_LINE c =
    let n = c.min-n in
    let e = c.line_end-end in
    line-long c.args.s.now n.result n.ensures e.result e.ensures c.if-end-n.false c.if-s-lt-LONGEST_LINE.false
