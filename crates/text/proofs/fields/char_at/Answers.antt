-- `text::fields::char_at`: what three digits behind a backslash spell.
use native.Mathlib.Omega.{arith}
use mathlib.Core.Path.{sym, ◌∙◌}
use Rattle.text.proofs.ScanLaws.{escape-byte, escape-bad}
use Rattle.text.proofs.fields.char_at.Goals as goal

pub returns-in-Some : goal.returns-in-Some
returns-in-Some c =
    let A = c.args in
    record {
      on = omega arith;
      within = omega arith;
      is = escape-byte A.line.now A.i (omega arith) c.in-92.is _ (sym c.octal_of.ensures ∙ c.in-Some.is);
    }

pub returns-in_default-octal_of : goal.returns-in_default-octal_of
returns-in_default-octal_of c =
    let A = c.args in
    let none = sym c.octal_of.ensures ∙ c.in_default-octal_of.is in
    escape-bad A.line.now A.i (omega arith) c.in-92.is none
