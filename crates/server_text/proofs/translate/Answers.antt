use Rattle.server_text.proofs.LineLaws.{line-cr, line-open}
use Rattle.server_text.proofs.translate.Goals as goal

pub returns-in-Some : goal.returns-in-Some
returns-in-Some c =
    let e = c.in-Some.ensures.cases in
    rw (line-cr c.args.line.now _ e.0 e.1) c.translate_body.ensures

pub returns-in-None : goal.returns-in-None
returns-in-None c = rw (line-open c.args.line.now c.in-None.ensures.cases) c.translate_body-in-None.ensures
