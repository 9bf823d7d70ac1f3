-- `server_text::strings::raw_end`: the blocks so far may all stand raw.
use Rattle.std.proofs.Common.{◌≡◌, ℕ, ◌+◌, ◌*◌, ◌-◌, ◌/◌, length, take, drop, sym, ap, ◌∙◌, rules, arith}
use Rattle.message.specs.Quoting.{escaped}
use Rattle.server_text.proofs.ScanLaws.{raw-start, raw-more, raw-then}
use Rattle.server_text.proofs.strings.raw_end.Goals as goal

pub loop-k-init : goal.loop-k-init
loop-k-init c =
    let e : c.args.at + 32 * 0 ≡ c.args.at = omega arith in
    rw e (raw-start _ _ (search rules))

pub returns-then-escaped_in-ne0 : goal.returns-then-escaped_in-ne0
returns-then-escaped_in-ne0 c = raw-then c.loop-k.invariant c.raw_from.ensures

pub loop-k-preserved : goal.loop-k-preserved
loop-k-preserved c =
    let A = c.args in
    let line = A.line.now in
    let i : ℕ = A.at + 32 * c.loop-k.k in
    let n : i + 32 - i ≡ 32 = omega arith in
    let e : escaped (take 32 (drop i line)) ≡ 0 =
    sym (ap (λ (k : ℕ). escaped (take k (drop i line))) n) ∙ sym c.escaped_in.ensures ∙ omega arith in
    let m : A.at + 32 * (c.loop-k.k + 1) ≡ i + 32 = omega arith in
    rw m (raw-more c.loop-k.invariant 32 (omega arith) e)

pub returns : goal.returns
returns c =
    let e : c.args.at + 32 * c.loop-k.k ≡ c.args.at + 32 * ((length c.args.line.now - c.args.at) / 32) = omega arith in
    raw-then (rw e at c.loop-k.invariant) c.raw_from-2.ensures
