use native.Mathlib.Omega.{arith}
use Prim.Native.Nat.{◌-◌}
use lib.ListN.{length, drop}
use Rattle.text.proofs.ScanLaws.{on-err}
use Rattle.server_text.specs.Fields.{string_in, last_of}
use Rattle.server_text.specs.Promises.{Builds}
use Rattle.server_text.proofs.PayloadLaws.{last-is, last_more, last-bad}
use Rattle.server_text.proofs.fields.last_string.Goals as goal

pub returns-in_err-string : goal.returns-in_err-string
returns-in_err-string c =
    let A = c.args in
    on-err
    (λ r. Builds (last_of (string_in (drop A.at A.line.now))) (length A.line.now - A.at) A.buf.now A.to r
    c.string_field.new.buf) c.from_residual.result c.from_residual.ensures.0
    (last-bad _ c.in_err-string.ensures)

pub returns-then-string-line : goal.returns-then-string-line
returns-then-string-line c = last_more c.in_ok-string.ensures c.if-string-line.true

pub returns : goal.returns
returns c = last-is c.in_ok-string.ensures c.args.at (omega arith) c.if-string-line.false
