-- `server_text::word_of`: no row before this one has the word.
use native.Mathlib.Omega.{arith}
use Rattle.server_text.specs.Lines.{server_rows, row_named}
use Rattle.server_text.proofs.LineLaws.{rows-length, row-found, row-passed, rows-ended}
use Rattle.server_text.proofs.word_of.Goals as goal

pub returns-then-equal : goal.returns-then-equal
returns-then-equal c =
    let w = c.args.w.now in
    let L = c.loop-row in
    let n = rows-length c.rows-row-items.result c.rows-row-items.ensures in
    row-found w c.rows-row-items.result L.row-index (row_named w server_rows) L.invariant c.equal.result
    (omega arith) c.equal.ensures c.if-equal.true

pub loop-row-preserved : goal.loop-row-preserved
loop-row-preserved c =
    let w = c.args.w.now in
    let L = c.loop-row in
    let n = rows-length c.rows-row-items.result c.rows-row-items.ensures in
    row-passed w c.rows-row-items.result L.row-index (row_named w server_rows) L.invariant c.equal.result
    (omega arith) c.equal.ensures c.if-equal.false

pub returns : goal.returns
returns c =
    let w = c.args.w.now in
    let L = c.loop-row in
    let n = rows-length c.rows-row-items.result c.rows-row-items.ensures in
    rows-ended w c.rows-row-items.result L.row-index (row_named w server_rows) L.invariant (omega arith)
