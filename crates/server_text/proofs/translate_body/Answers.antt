use mathlib.Core.Path.{refl}
use Rattle.server_text.proofs.LineLaws.{body-unknown, body_open, body-row}
use Rattle.server_text.proofs.translate_body.Goals as goal

pub returns-in_default : goal.returns-in_default
returns-in_default c =
    rw (body-unknown c.args.line.now _ c.word_end-e.ensures c.args.cr c.in_default.ensures)
    (record { answer = refl; held = refl })

pub returns-then-not-cr : goal.returns-then-not-cr
returns-then-not-cr c =
    rw (c.if-not-cr.true, body_open c.args.line.now _ c.word_end-e.ensures c.in-Some.row c.in-Some.ensures)
    (record { answer = refl; held = refl })

pub returns : goal.returns
returns c =
    rw (c.if-not-cr.false, body-row c.args.line.now _ c.word_end-e.ensures c.in-Some.row c.in-Some.ensures)
    c.build.ensures
