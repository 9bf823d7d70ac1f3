-- `server_text::strings::raw_from`: all bytes from `at` to i stand raw.
use Rattle.std.proofs.Common.{◌≡◌, length, rules, arith}
use mathlib.Core.Path.{sym, ◌∙◌}
use Rattle.server_text.proofs.ScanLaws.{raw-start, raw-on, raw-stop, raw-all}
use Rattle.server_text.proofs.strings.raw_from.Goals as goal

pub loop-i-init : goal.loop-i-init
loop-i-init c = raw-start _ _ (search rules)

pub returns-then-is_escaped : goal.returns-then-is_escaped
returns-then-is_escaped c = raw-stop c.loop-i.invariant (sym c.is_escaped.ensures ∙ c.if-is_escaped.true)

pub loop-i-preserved : goal.loop-i-preserved
loop-i-preserved c = raw-on c.loop-i.invariant (omega arith) (sym c.is_escaped.ensures ∙ c.if-is_escaped.false)

pub returns : goal.returns
returns c =
    let e : c.loop-i.i ≡ length c.args.line.now = omega (arith, c.loop-i.invariant.place.within) in
    rw e at (raw-all c.loop-i.invariant (omega arith))
