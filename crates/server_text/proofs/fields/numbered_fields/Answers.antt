-- `server_text::fields::numbered_fields`: a space, a number up to the next space, and a string.
use Rattle.std.proofs.Common.{rules}
use native.Mathlib.Omega.{arith}
use mathlib.Core.Path.{sym, ◌∙◌}
use mathlib.Core.List.{◌∷◌}
use mathlib.Core.Option.{map}
use Prim.Native.Nat.{◌+◌, ◌-◌, ◌≤◌}
use lib.ListN.{length, drop}
use Rattle.text.proofs.ScanLaws.{on-err}
use Rattle.server_text.specs.Fields.{string_in, last_of, numbered_in}
use Rattle.server_text.specs.Promises.{Builds}
use Rattle.server_text.proofs.PayloadLaws.{numbered-not, numbered_is}
use Rattle.server_text.proofs.LineLaws.{builds-most}
use Rattle.server_text.proofs.fields.numbered_fields.Goals as goal

pub returns-in_err-number : goal.returns-in_err-number
returns-in_err-number c =
    let A = c.args in
    on-err (λ r. Builds (numbered_in (drop A.at A.line.now)) (length A.line.now) A.buf.now A.to r A.buf.now)
    c.from_residual.result c.from_residual.ensures.0
    (numbered-not A.line.now A.at (search rules) (search rules) _ c.word_end-e.ensures
    (sym c.number_in.ensures ∙ c.in_err-number.ensures.ok_part))

pub returns : goal.returns
returns c =
    let l = c.args.line.now in
    let w = c.word_end-e.ensures in
    let e = c.word_end-e.result in
    let f : length l - e + 1 ≤ length l = omega (arith, w.place.on, w.place.within) in
    rw (numbered_is l c.args.at (search rules) (search rules) e w _
    (sym c.number_in.ensures ∙ c.in_ok-number.ensures.ok_part))
    (builds-most (map (◌∷◌ c.in_ok-number.number) (last_of (string_in (drop e l)))) (length l - e + 1) (length l)
    c.args.buf.now c.args.to c.led_string.result _ c.led_string.ensures f)
