-- What the server asks of a client's queue (document 01, "Queues"), so that one server is stated for every form of it;
-- and the simple server's own queue, a list of messages.
use Rattle.std.specs.Prelude.{ℕ, ◌+◌, List, [], ◌∷◌, ◌++◌, length}
use Rattle.std.proofs.Math.Option.{Option, some, none}
use Rattle.octets.specs.Octets.{Bytes}

-- the untaken messages of a client in some form: none; what they charge; the first, if there is one; those behind it;
-- and with these messages, as bytes, behind them
pub record Queueing : Type 1 where
  pub Queue : Type 0
  pub empty : Queue
  pub charge : Queue → ℕ
  pub first : Queue → Option Bytes
  pub rest : Queue → Queue
  pub appended : Queue → List Bytes → Queue

-- ---- the simple server's

-- what encoded messages charge: each its length plus 4
unfoldable pub queue_charge : List Bytes → ℕ
queue_charge [] = 0
queue_charge (m ∷ ms) = length m + 4 + queue_charge ms

-- the first message
abbrev pub first : List Bytes → Option Bytes
first [] = none
first (m ∷ ms) = some m

-- the messages behind the first one, which a take removes
unfoldable pub rest : List Bytes → List Bytes
rest [] = []
rest (m ∷ ms) = ms

-- a queue is the messages not yet taken, as bytes
abbrev pub messages : Queueing
messages =
    record {
      Queue = List Bytes;
      empty = [];
      charge = queue_charge;
      first = first;
      rest = rest;
      appended = ◌++◌;
    }
