use Rattle.message.proofs.Laws.{writes-escape}
use Rattle.message.proofs.quoting.put_escaped.Goals as goal

pub loop-c-preserved : goal.loop-c-preserved
loop-c-preserved c =
    let L = c.loop-c in
    writes-escape c.args.s.now L.c-index c.loop-c-test.true L.invariant c.put_char-to.ensures
