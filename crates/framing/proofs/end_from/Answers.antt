use Rattle.std.proofs.Common.{sym, ◌∙◌, arith}
use Rattle.framing.proofs.Laws.{line_end-here, line_end-on, line_end-none}
use Rattle.framing.proofs.end_from.Goals as goal

pub returns-then-ends_line : goal.returns-then-ends_line
returns-then-ends_line c =
    let s = c.args.s.now in
    let e = sym c.ends_line.ensures ∙ c.if-ends_line.true in
    omega (arith, line_end-here s c.loop-i.i (omega arith) e)

pub loop-i-preserved : goal.loop-i-preserved
loop-i-preserved c =
    let s = c.args.s.now in
    let e = sym c.ends_line.ensures ∙ c.if-ends_line.false in
    omega (arith, line_end-on s c.loop-i.i (omega arith) e)

pub returns : goal.returns
returns c = omega (arith, line_end-none c.args.s.now c.loop-i.i (omega arith))
