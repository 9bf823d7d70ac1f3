-- The writer of commands (request P1). A command is handed in as ID and payload. Refusals in their order: 8 for a
-- form above 2, 100 for a missing or unknown ID, 101, 102, 5; each leaves the out slice as it was. What 100, 101
-- and 102 are is the server's own verdict on the ID and the payload, so that a command that is written is one that
-- the server's reader does not refuse.
use Rattle.std.specs.Prelude.{[], ◌∷◌, ℕ}
use Rattle.std.proofs.Math.Option.{Option, some, none}
use Rattle.octets.specs.Octets.{Bytes}
use Rattle.protocol.specs.declared.Kind.{Kind}
use Rattle.protocol.specs.declared.Refusal.{Refusal}
use Rattle.protocol.specs.Terms.{number}
use Rattle.command.specs.Refusals.{verdict}
use Rattle.message.specs.Forms.{encoded}
use Rattle.message.specs.Writing.{Outcome, outcome}
use Rattle.client.specs.Reading.{kind_of_form}

-- document 01's number, the length written, the out slice
abbrev pub outcome_of : ℕ → ℕ → Bytes → Outcome
outcome_of a n o = record { number = a; count = n; out = o }

-- a command on which there is a verdict, written to the slice o
abbrev pub by_verdict : Option Refusal → Kind → ℕ → Bytes → Bytes → Outcome
by_verdict (some r) k id p o = outcome_of (number r) 0 o
by_verdict none k id p o = outcome p (encoded k id p) o

-- a command in a kind, written to the slice o
unfoldable pub write_in : Kind → Bytes → Bytes → Outcome
write_in k [] o = outcome_of 100 0 o
write_in k (id ∷ p) o = by_verdict (verdict id p) k id p o

-- the same by form, where there is one
abbrev pub write_by : Option Kind → Bytes → Bytes → Outcome
write_by none c o = outcome_of 8 0 o
write_by (some k) c o = write_in k c o

-- a command in a form, written to the slice o
unfoldable pub write_command : ℕ → Bytes → Bytes → Outcome
write_command f c o = write_by (kind_of_form f) c o
