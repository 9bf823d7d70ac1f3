use Rattle.std.proofs.Common.{◌≡◌, ◌∙◌, ◌*◌, ◌+◌, ◌-◌, ◌/◌, length, sym, arith}
use Rattle.octets.proofs.Nul.{nul-in-block, no-block-left, block-clear}
use Rattle.octets.proofs.block.clear_blocks.Goals as goal

pub returns-then-holds_nul : goal.returns-then-holds_nul
returns-then-holds_nul c =
    let L = c.loop-k in
    let s = c.args.s.now in
    let n : 16 * L.k + 16 - 16 * L.k ≡ 16 = omega arith in
    nul-in-block s (16 * L.k) L.invariant (omega arith) (omega arith)
    (rw n at (sym c.holds_nul.ensures ∙ c.if-holds_nul.true))

pub loop-k-preserved : goal.loop-k-preserved
loop-k-preserved c =
    let L = c.loop-k in
    let s = c.args.s.now in
    let n : 16 * L.k + 16 - 16 * L.k ≡ 16 = omega arith in
    omega (
      arith,
      block-clear s (16 * L.k) L.invariant (omega arith) (omega arith)
          (rw n at (sym c.holds_nul.ensures ∙ c.if-holds_nul.false)),
    )

pub returns : goal.returns
returns c =
    let L = c.loop-k in
    let s = c.args.s.now in
    let e : length s / 16 * 16 ≡ 16 * L.k = omega arith in
    e ∙ no-block-left s (16 * L.k) L.invariant (omega arith) (omega arith)
