-- `server_text::strings::string_at`: in each turn a run of raw bytes is copied, and behind it stands a mark.
use Rattle.std.proofs.Common.{rules}
use mathlib.Core.Path.{refl}
use lib.ListN.{drop}
use Rattle.text.specs.FieldPost.{StringAt}
use Rattle.text.proofs.ScanLaws.{on-err, scan-start, scan-byte, scan-close, scan-bad}
use Rattle.server_text.specs.Strings.{exact}
use Rattle.server_text.proofs.ScanLaws.{scan-raw, exact-end}
use Rattle.server_text.proofs.strings.string_at.Goals as goal

pub loop-i-init : goal.loop-i-init
loop-i-init c = scan-start exact _ _ _ _ (search rules)

pub returns-then-line-e : goal.returns-then-line-e
returns-then-line-e c =
    scan-bad (scan-raw c.loop-i.invariant c.copy_raw-e.ensures) (exact-end _ _ c.if-line-e.true)

pub returns-in_err-byte : goal.returns-in_err-byte
returns-in_err-byte c =
    let A = c.args in
    on-err (λ r. StringAt (exact (drop A.at A.line.now)) A.line.now A.at A.buf.now A.to r c.copy_raw-e.new.buf)
    c.from_residual.result c.from_residual.ensures.0
    (scan-bad (scan-raw c.loop-i.invariant c.copy_raw-e.ensures) c.in_err-byte.ensures)

pub loop-i-preserved : goal.loop-i-preserved
loop-i-preserved c =
    scan-byte (scan-raw c.loop-i.invariant c.copy_raw-e.ensures) _ _ _ _
    (rw c.in-Byte.is at c.in_ok-byte.ensures) c.put.ensures refl

pub returns-in-Close : goal.returns-in-Close
returns-in-Close c =
    scan-close (scan-raw c.loop-i.invariant c.copy_raw-e.ensures) _ (rw c.in-Close.is at c.in_ok-byte.ensures)

pub returns : goal.returns
returns c = scan-bad c.loop-i.invariant (exact-end _ _ c.loop-i-test.false)
