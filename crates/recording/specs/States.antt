-- The numbers of the states: 0 no transaction, 1 recording, 2 spoiled.
use Rattle.std.specs.Prelude.{ℕ, ◌≡◌, ◌<◌, Result, Ok, Err}
use Rattle.recording.specs.declared.State.{State}
use Rattle.recording.specs.declared.State.TheVariants.{Off, On, Spoiled}
use Rattle.recording.specs.declared.UnknownState.{UnknownState}

-- the number of a state
abbrev pub number_of : State → ℕ
number_of Off = 0
number_of On = 1
number_of Spoiled = 2

-- what is read of a number: the state that has it, or none, as of 3 on
abbrev pub Numbers : ℕ → Result State UnknownState → Type 0
Numbers n (Ok state) = number_of state ≡ n
Numbers n (Err u) = 2 < n
