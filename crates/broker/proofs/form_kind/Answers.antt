-- `broker::form_kind` meets its contract.
use mathlib.Core.Path.{refl}
use native.Mathlib.Omega.{arith}
use Rattle.model.specs.Calls.{opening_of}
use Rattle.broker.proofs.Deciding.{form-stream, form-unknown}
use Rattle.broker.proofs.form_kind.Goals as goal

pub returns-in-0 : goal.returns-in-0
unfolding opening_of
returns-in-0 c = rw c.in-0.is

pub returns-in_default : goal.returns-in_default
returns-in_default c =
    (form-unknown c.args.form (omega arith), refl)

pub returns-in-1 : goal.returns-in-1
returns-in-1 c = form-stream c.args.form (omega arith) (λ e. omega arith)
