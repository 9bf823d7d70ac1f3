-- Each arm is the row of its message; an INFO's body is its payload.
use mathlib.Core.Path.{refl, sym}
use Rattle.octets.specs.Octets.{ascii}
use Rattle.protocol.specs.Terms.{message_payload}
use Rattle.message.specs.Rows.{row_in, row_of}
use Rattle.message.specs.Writing.{said}
use Rattle.message.proofs.FormLaws.{payload-info}
use Rattle.message.proofs.Message.content.Goals as goal

pub returns-in-Version : goal.returns-in-Version
unfolding ascii said message_payload row_in row_of
returns-in-Version c = rw c.in-Version.is (record { row = refl; payload = refl })

pub returns-in-Info : goal.returns-in-Info
unfolding ascii said row_in row_of
returns-in-Info c = rw c.in-Info.is (record { row = refl; payload = sym (payload-info c.args.body.now) })

pub returns-in-Pong : goal.returns-in-Pong
unfolding ascii said message_payload row_in row_of
returns-in-Pong c = rw c.in-Pong.is (record { row = refl; payload = refl })

pub returns-in-Error : goal.returns-in-Error
unfolding ascii said row_in row_of
returns-in-Error c = rw c.in-Error.is (record { row = refl; payload = c.reason.ensures })
