use mathlib.Core.Path.{refl}
use mathlib.Core.List.{[]}
use native.Mathlib.Omega.{arith}
use Rattle.server_text.proofs.PayloadLaws.{bare-end, bare-more}
use Rattle.server_text.proofs.fields.no_fields.Goals as goal

pub returns-then-at-line : goal.returns-then-at-line
returns-then-at-line c = λ buf to. bare-more c.args.line.now c.args.at c.if-at-line.true

pub returns : goal.returns
returns c =
    λ buf to. record {
      value = [];
      is = bare-end c.args.line.now c.args.at c.if-at-line.false;
      count = refl;
      held = refl;
      short = omega arith;
    }
