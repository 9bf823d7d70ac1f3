-- The IDs of the eight commands (document 000, "Messages").
use Rattle.std.specs.Prelude.{◌≡◌, ◌≤◌, ℕ, Result, Ok, Err}
use Rattle.protocol.specs.declared.command_id.CommandId.{CommandId}
use Rattle.protocol.specs.declared.command_id.CommandId.TheVariants.{Hello, Sub, Unsub, Read, Write}
use Rattle.protocol.specs.declared.command_id.CommandId.TheVariants.{Begin, Commit, Ping}
use Rattle.protocol.specs.declared.Refusal.{Refusal}
use Rattle.protocol.specs.declared.Refusal.TheVariants.{Unknown}

-- the ID of a command
abbrev pub id_of : CommandId → ℕ
id_of Hello = 0
id_of Sub = 1
id_of Unsub = 2
id_of Read = 3
id_of Write = 4
id_of Begin = 5
id_of Commit = 6
id_of Ping = 7

-- what is read of an ID: the command that has it, or an unknown message where none has, as of 8 on
abbrev pub Names : ℕ → Result CommandId Refusal → Type 0
Names n (Ok c) = id_of c ≡ n
Names n (Err r) = (r ≡ Unknown) × (8 ≤ n)
