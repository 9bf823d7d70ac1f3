-- What the tests of a call promise.
use Rattle.std.specs.Prelude.{◌≡◌, Bool, true, false, ℕ, eqb, Result, Ok, Err}
use Rattle.std.proofs.Math.Option.{none, some}
use Rattle.protocol.specs.declared.Kind.{Kind}
use Rattle.protocol.specs.declared.failure.Failure.{Failure}
use Rattle.protocol.specs.declared.failure.Failure.TheVariants.{Range}
use Rattle.model.specs.State.{opening_with}
use Rattle.model.specs.Calls.{opening_of}

-- a test is passed, or fails as said
abbrev pub Passes : {T : Type 0} → Bool → Failure → Result T Failure → Type 0
Passes b f (Ok t) = b ≡ true
Passes b f (Err e) = (b ≡ false) × (e ≡ f)

-- the kind of a client that is opened in a form, or out of range for none of the forms
abbrev pub Opens : ℕ → Result Kind Failure → Type 0
Opens form (Ok k) = opening_of form ≡ some (opening_with k (eqb form 2))
Opens form (Err e) = (opening_of form ≡ none) × (e ≡ Range)
