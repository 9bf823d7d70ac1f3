use mathlib.Core.Path.{sym}
use native.Mathlib.Omega.{arith}
use lib.Seq.{length-take-le}
use Rattle.protocol.specs.declared.Kind.TheVariants.{Text}
use Rattle.client.specs.Reading.{length_in}
use Rattle.client.proofs.ReadLaws.{length_in-le}
use Rattle.client.proofs.reading.first_line.Goals as goal

pub slice_bounds-result-end : goal.slice_bounds-result-end
unfolding length_in
slice_bounds-result-end c =
    let s = c.args.s.now in
    let h = length_in-le Text s in
    sym (length-take-le c.lf_length.result s (omega arith))
