use Rattle.octets.specs.Octets.{ascii}
use Rattle.protocol.specs.Terms.{reason, message_payload}
use Rattle.message.proofs.reason.Goals as goal

pub returns-in-Unknown : goal.returns-in-Unknown
unfolding ascii reason message_payload
returns-in-Unknown c = rw c.in-Unknown.is

pub returns-in-Parameter : goal.returns-in-Parameter
unfolding ascii reason message_payload
returns-in-Parameter c = rw c.in-Parameter.is

pub returns-in-Room : goal.returns-in-Room
unfolding ascii reason message_payload
returns-in-Room c = rw c.in-Room.is

pub returns-in-State : goal.returns-in-State
unfolding ascii reason message_payload
returns-in-State c = rw c.in-State.is
