-- `framing::cut` gives the part that the message's length says.
use Rattle.std.proofs.Common.{sym, arith}
use lib.Seq.{length-take-le}
use Rattle.framing.proofs.Laws.{length_of-le}
use Rattle.framing.proofs.cut.Goals as goal

pub slice_bounds-result-end : goal.slice_bounds-result-end
slice_bounds-result-end c =
    let s = c.args.input.now in
    let h = length_of-le c.kind_of.result s in
    sym (length-take-le c.length_of.result s (omega (arith, c.length_of.ensures)))
