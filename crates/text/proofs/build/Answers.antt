-- `text::build` goes by the command.
use mathlib.Core.Logic.{inl, inr}
use Rattle.text.specs.Payload.{payload_for}
use Rattle.text.specs.PayloadPost.{stores}
use Rattle.text.proofs.build.Goals as goal

pub returns-in-Hello : goal.returns-in-Hello
unfolding payload_for stores
returns-in-Hello c = rw c.in-Hello.is c.hello_fields.ensures

pub returns-in-Write : goal.returns-in-Write
unfolding payload_for stores
returns-in-Write c = rw c.in-Write.is c.write_fields.ensures

pub returns-in-Ping : goal.returns-in-Ping
unfolding payload_for stores
returns-in-Ping c = rw c.in-Ping.is c.ping_field.ensures

pub returns-in-Sub : goal.returns-in-Sub
unfolding payload_for stores
returns-in-Sub c =
    let built = c.one_field.ensures in
    elim c.in-Sub.is [ inl e ↦ rw e built | inr o ↦ elim o [ inl e ↦ rw e built | inr e ↦ rw e built ] ]

pub returns-in-Begin : goal.returns-in-Begin
unfolding payload_for stores
returns-in-Begin c =
    let built = c.no_field.ensures c.args.buf.now in
    elim c.in-Begin.is [ inl e ↦ rw e built | inr e ↦ rw e built ]
