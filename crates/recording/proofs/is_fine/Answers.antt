use mathlib.Core.Path.{◌≡◌, sym, ◌∙◌}
use Prim.Native.Nat.{◌+◌, ◌-◌}
use native.Mathlib.Omega.{arith}
use mathlib.Core.Bool.{◌&&◌}
use Rattle.octets.specs.Part.{part}
use Rattle.recording.specs.Encoding.{rows_fine}
use Rattle.recording.specs.Region.{state_of, used_of, count_of, rows_of, recording_fine}
use Rattle.recording.proofs.Checks.{fine-unsized, fine-over, fine-many, fine-rest}
use Rattle.recording.proofs.is_fine.Goals as goal
use Rattle.recording.proofs.is_fine.Goals.{After-is_state}

-- with the numbers in their ranges, the state and the rows decide
rest : (c : After-is_state)
    → recording_fine c.args.r.now
    ≡ c.is_state.result && rows_fine c.number_at-n.result (part c.args.r.now 12 c.number_at-used.result)
unfolding state_of used_of count_of rows_of
rest c =
    let r = c.args.r.now in
    let eu : c.number_at-used.result ≡ used_of r = c.number_at-used.ensures.value in
    let en : c.number_at-n.result ≡ count_of r = c.number_at-n.ensures.value in
    let es : c.number_at.result ≡ state_of r = c.number_at.ensures.value in
    fine-rest r (omega arith) (omega arith) (omega arith) (omega arith)
    ∙ rw (c.is_state.ensures, ← es, ← en, ← eu)

pub returns-then-r-lt12 : goal.returns-then-r-lt12
returns-then-r-lt12 c = sym (fine-unsized c.args.r.now (λ h k. omega (arith, c.then-r-lt12.either)))

pub returns-then-r-used : goal.returns-then-r-used
unfolding used_of
returns-then-r-used c =
    sym (fine-over c.args.r.now (omega arith) (omega arith) (omega (arith, c.number_at-used.ensures.value)))

pub returns-then-n-gt64 : goal.returns-then-n-gt64
unfolding used_of count_of
returns-then-n-gt64 c =
    sym (fine-many c.args.r.now (omega arith) (omega arith)
    (omega (arith, c.number_at-used.ensures.value))
    (omega (arith, c.number_at-n.ensures.value)))

pub returns-then-not-is_state : goal.returns-then-not-is_state
returns-then-not-is_state c = sym (rest (goal.at.returns-then-not-is_state c).After-is_state ∙ rw (c.if-not-is_state.true))

pub returns : goal.returns
returns c =
    let used = c.number_at-used.result in
    let e : 12 + used - 12 ≡ used = omega arith in
    rw e at c.rows_fine.ensures
    ∙ sym (rest (goal.at.returns c).After-is_state ∙ rw (c.if-not-is_state.false))
