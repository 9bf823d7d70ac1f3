-- `pattern::token::token_at` meets its contract: an escaped byte, a `\` at the end, or a byte by itself.
use Rattle.pattern.proofs.Lexing.{token-escape, token-last, token-plain}
use native.Mathlib.Omega.{arith}
use Rattle.pattern.proofs.token.token_at.Goals as goal
use Rattle.pattern.proofs.token.token_at.Goals.{else-pattern-at-eq92-via-then-pattern-at-eq92+else-at-pattern}
use Rattle.pattern.proofs.token.token_at.Goals.{else-pattern-at-eq92-via-else-pattern-at-eq92}

pub returns-then-at-pattern : goal.returns-then-at-pattern
returns-then-at-pattern c = record {
  is = token-escape _ _ c.if-at-pattern.true c.if-pattern-at-eq92.true;
  on = omega arith;
  within = omega arith;
}

pub returns : goal.returns
returns c = record {
  is = rw c.single.ensures (elim c.else-pattern-at-eq92.branch [
    | else-pattern-at-eq92-via-then-pattern-at-eq92+else-at-pattern w ↦
        token-last _ _ c.requires w.if-at-pattern.false
    | else-pattern-at-eq92-via-else-pattern-at-eq92 w ↦
        token-plain _ _ c.requires w.if-pattern-at-eq92.false
  ]);
  on = omega arith;
  within = omega arith;
}
