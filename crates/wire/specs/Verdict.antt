-- Why a message is refused, in document 01's order ("Order for a whole message"), and what a message does to a
-- client's kind.
use Rattle.std.specs.Prelude.{◌≡◌, Bool, true, false, cond, ◌⊎◌}
use Rattle.std.proofs.Math.Option.{Option, none, some}
use Rattle.protocol.specs.declared.Kind.{Kind}
use Rattle.protocol.specs.declared.Kind.TheVariants.{Stream}
use Rattle.protocol.specs.declared.Refusal.{Refusal}
use Rattle.protocol.specs.declared.Refusal.TheVariants.{Unknown, Parameter, Room, State}
use Rattle.protocol.specs.Terms.{Reading, command, invalid}
use Rattle.protocol.specs.Terms as Terms
use Rattle.text.specs.Line.{Line, blank, refused, message}
use Rattle.command.specs.Refusals as Refusals

-- whether the word or the ID is unknown, or there is none
abbrev pub is_unknown : Line → Bool
is_unknown blank = false
is_unknown (refused Unknown) = true
is_unknown (refused Parameter) = false
is_unknown (refused Room) = false
is_unknown (refused State) = false
is_unknown (message id p) = Refusals.is_unknown id

-- whether a field, a key, a pattern, a version or a payload is bad, missing or surplus
abbrev pub is_bad : Line → Bool
is_bad blank = false
is_bad (refused Unknown) = false
is_bad (refused Parameter) = true
is_bad (refused Room) = false
is_bad (refused State) = false
is_bad (message id p) = Refusals.is_bad id p

-- whether the line, the payload or the pattern is too long
abbrev pub is_long : Line → Bool
is_long blank = false
is_long (refused Unknown) = false
is_long (refused Parameter) = false
is_long (refused Room) = true
is_long (refused State) = false
is_long (message id p) = Refusals.is_long id p

-- the first of the three that holds
abbrev pub verdict : Line → Option Refusal
verdict l = cond (is_unknown l) (some Unknown) (cond (is_bad l) (some Parameter) (cond (is_long l) (some Room) none))

-- why a reading is refused, where it is
abbrev pub refusal_of : Reading → Option Refusal
refusal_of Terms.blank = none
refusal_of (command c) = none
refusal_of (invalid r) = some r

-- a message fixes the kind of a stream, and a fixed kind never changes
pub record Fixes (old new : Kind) : Type 0 where
  pub keeps : (old ≡ Stream) ⊎ (new ≡ old)
  pub fixed : new ≡ Stream → ⊥
