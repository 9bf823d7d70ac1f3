-- The simple server's state as the memory's image: each queue as bytes, and nothing pending.
use Rattle.std.specs.Prelude.{List, []}
use Rattle.octets.specs.Octets.{Bytes}
use Rattle.model.specs.State.{State}
use Rattle.model.specs.Forms.{state_with}
use Rattle.queue.specs.Rows.{rows}
use Rattle.queue.specs.Meaning.{Queue, kept, queue_with}
use Rattle.memory.specs.Image.{Image}

-- a client's untaken messages one behind the other, each with its length in four bytes before it
abbrev pub in_rows : List Bytes → Queue
in_rows q = queue_with (rows q) (kept [])

abbrev pub state_image : State → Image
state_image st = state_with in_rows st
