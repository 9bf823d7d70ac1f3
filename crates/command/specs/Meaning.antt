-- What a command that was read means in the protocol's terms: its places become the bytes that stand there.
use Rattle.std.proofs.Math.Option.{none, some}
use Rattle.std.specs.Prelude.{ℕ, take, drop, Result, Ok, Err}
use Rattle.octets.specs.Octets.{Bytes}
use Rattle.protocol.specs.declared.Refusal.{Refusal}
use Rattle.protocol.specs.Terms.{Reading, command, invalid, plain, begin, commit, hello, sub, unsub, read, write}
use Rattle.protocol.specs.Terms.{ping}
use Rattle.command.specs.declared.Written.TheVariants.{Delete, Value}
use Rattle.command.specs.declared.Command.{Command}
use Rattle.command.specs.declared.Command.TheVariants.{Hello, Sub, Unsub, Read, Write, Begin, Commit, Ping}
use Rattle.command.specs.Commands.{command_of}

-- the reading of a payload and its command, or of why it is refused
unfoldable pub meant : Bytes → Result Command Refusal → Reading
meant p (Ok Hello) = command (plain (hello p))
meant p (Ok Sub) = command (plain (sub p))
meant p (Ok Unsub) = command (plain (unsub p))
meant p (Ok Read) = command (plain (read p))
meant p (Ok (Write k Delete)) = command (plain (write (take k p) none))
meant p (Ok (Write k (Value at n))) = command (plain (write (take k p) (some (take n (drop at p)))))
meant p (Ok Begin) = command begin
meant p (Ok Commit) = command commit
meant p (Ok Ping) = command (plain (ping p))
meant p (Err r) = invalid r

-- the reading of an ID and a payload
abbrev pub reading_of : ℕ → Bytes → Reading
reading_of id p = meant p (command_of id p)
