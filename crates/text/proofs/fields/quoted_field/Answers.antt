-- `text::fields::quoted_field`: the bytes that stand from `at` to i are stored from `to` on.
use Rattle.std.proofs.Common.{rules}
use mathlib.Core.Path.{refl}
use Rattle.text.specs.Fields.{quoted}
use Rattle.text.specs.FieldPost.{ScannedAt}
use Rattle.text.proofs.ScanLaws.{on-err, scan-start, scan-byte, scan-close, scan-bad, quoted-end}
use Rattle.text.proofs.fields.quoted_field.Goals as goal

pub loop-i-init : goal.loop-i-init
loop-i-init c = scan-start quoted _ _ _ _ (search rules)

pub returns-in_err-byte : goal.returns-in_err-byte
returns-in_err-byte c =
    let A = c.args in
    on-err (λ r. ScannedAt A.line.now A.at A.buf.now A.to r c.loop-i.buf) c.from_residual.result
    c.from_residual.ensures.0 (scan-bad c.loop-i.invariant c.in_err-byte.ensures)

pub loop-i-preserved : goal.loop-i-preserved
loop-i-preserved c =
    scan-byte c.loop-i.invariant _ _ _ _ (rw c.in-Byte.is at c.in_ok-byte.ensures) c.put.ensures refl

pub returns-in-Close : goal.returns-in-Close
returns-in-Close c = scan-close c.loop-i.invariant _ (rw c.in-Close.is at c.in_ok-byte.ensures)

pub returns : goal.returns
returns c = scan-bad c.loop-i.invariant (quoted-end _ _ c.loop-i-test.false)
