-- `words::id_of`: no row before this one names the word.
use Rattle.std.proofs.Common.{map, sym, ap}
use Rattle.words.specs.Words.{lower, id_of, look_up}
use Rattle.words.proofs.Laws.{row_of-words, row-found, row-passed, rows-ended}
use Rattle.words.proofs.id_of.Goals as goal

pub loop-row-init : goal.loop-row-init
unfolding id_of
loop-row-init c = ap (look_up (map lower c.args.w.now)) (sym c.rows-row-items.ensures)

pub is_named-requires : goal.is_named-requires
is_named-requires c =
    let rows = c.rows-row-items in
    row_of-words rows.result.now c.loop-row.row-index rows.ensures c.loop-row-test.true

pub returns-then-is_named : goal.returns-then-is_named
returns-then-is_named c =
    let w = c.args.w.now in
    let L = c.loop-row in
    let b = c.is_named in
    row-found (map lower w) c.rows-row-items.result.now L.row-index (id_of w) L.invariant b.result c.loop-row-test.true
    b.ensures c.if-is_named.true

pub loop-row-preserved : goal.loop-row-preserved
loop-row-preserved c =
    let w = c.args.w.now in
    let L = c.loop-row in
    let b = c.is_named in
    row-passed (map lower w) c.rows-row-items.result.now L.row-index (id_of w) L.invariant b.result c.loop-row-test.true
    b.ensures c.if-is_named.false

pub returns : goal.returns
returns c =
    let w = c.args.w.now in
    let L = c.loop-row in
    rows-ended (map lower w) c.rows-row-items.result.now L.row-index (id_of w) L.invariant c.loop-row-test.false
