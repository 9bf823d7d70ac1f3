-- A message that is owed, as bytes.
use Rattle.octets.specs.Octets.{Bytes}
use Rattle.message.specs.Forms.{written}
use Rattle.message.specs.Writing.{said}
use Rattle.queue.specs.declared.outgoing.Owed.{Owed}

abbrev pub encoded : Owed → Bytes
encoded m = written m.kind (said m.message m.body.now)
