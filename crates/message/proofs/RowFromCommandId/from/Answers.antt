-- Each arm is the row of its command.
use Rattle.octets.specs.Octets.{ascii}
use Rattle.message.specs.Rows.{row_in, row_of}
use Rattle.message.proofs.RowFromCommandId.from.Goals as goal

pub returns-in-Hello : goal.returns-in-Hello
unfolding ascii row_in row_of
returns-in-Hello c = rw c.in-Hello.is

pub returns-in-Sub : goal.returns-in-Sub
unfolding ascii row_in row_of
returns-in-Sub c = rw c.in-Sub.is

pub returns-in-Unsub : goal.returns-in-Unsub
unfolding ascii row_in row_of
returns-in-Unsub c = rw c.in-Unsub.is

pub returns-in-Read : goal.returns-in-Read
unfolding ascii row_in row_of
returns-in-Read c = rw c.in-Read.is

pub returns-in-Write : goal.returns-in-Write
unfolding ascii row_in row_of
returns-in-Write c = rw c.in-Write.is

pub returns-in-Begin : goal.returns-in-Begin
unfolding ascii row_in row_of
returns-in-Begin c = rw c.in-Begin.is

pub returns-in-Commit : goal.returns-in-Commit
unfolding ascii row_in row_of
returns-in-Commit c = rw c.in-Commit.is

pub returns-in-Ping : goal.returns-in-Ping
unfolding ascii row_in row_of
returns-in-Ping c = rw c.in-Ping.is
