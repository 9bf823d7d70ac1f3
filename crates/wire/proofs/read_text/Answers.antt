-- `wire::read_text` looks at the last byte.
use mathlib.Core.Path.{refl, sym, ◌∙◌}
use native.Mathlib.Omega.{arith}
use Prim.Native.Nat.{◌-◌}
use lib.ListN.{length}
use lib.Seq.{length-take-le}
use Rattle.wire.proofs.Laws.{text-nil, text-long, text-line}
use Rattle.wire.proofs.read_text.Goals as goal

pub returns-in_default : goal.returns-in_default
returns-in_default c =
    text-nil c.args.m.now c.args.buf.now c.refused.result (omega (arith, c.in_default.len_below)) c.refused.ensures

pub returns-then-not-ends_line : goal.returns-then-not-ends_line
returns-then-not-ends_line c =
    text-long c.args.m.now c.args.buf.now c.refused-then-not-ends_line.result
    (sym c.ends_line.ensures ∙ c.if-not-ends_line.true) c.refused-then-not-ends_line.ensures

pub returns : goal.returns
returns c =
    let m = c.args.m.now in
    let long = c.if-buf-line.false in
    text-line m c.args.buf.now (length m - 1) refl
    (sym c.ends_line.ensures ∙ c.if-not-ends_line.false) c.read_line.result
    c.read_line.new.buf (omega (arith, long, length-take-le (length m - 1) m (omega arith)))
    c.read_line.ensures
