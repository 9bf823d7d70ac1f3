-- `broker::feeding::feed_read` meets its contract. The kind is fixed first; the message is read and obeyed from there.
use mathlib.Core.Path.{◌≡◌, refl, sym, ap, subst, ◌∙◌}
use native.Mathlib.Omega.{arith}
use lib.ListN.{length}
use Rattle.std.specs.Prelude.{Ok, Err}
use Rattle.octets.specs.Octets.{Bytes}
use Rattle.protocol.specs.declared.Kind.{Kind}
use Rattle.command.specs.Meaning.{meant}
use Rattle.wire.specs.Post.{Reads, room_in}
use Rattle.wire.proofs.ReadLaws.{says, read-command, read-blank, read-sound, read-splits, read-no-room}
use Rattle.broker.specs.FeedParts.{Says, reading_decision}
use Rattle.broker.proofs.Decided.{obeys-as}
use Rattle.broker.proofs.Messages.{reading-invalid}
use Rattle.broker.proofs.Fixed.{speaking-used, speaking-fixed, fixed-indexed, obeys-blank, obeys-fixed}
use Rattle.broker.proofs.feeding.feed_read.Goals as goal

pub fix_kind-requires : goal.fix_kind-requires
fix_kind-requires c =
    let s = c.requires.0.speaking in
    record { in-slot = s.in-open.in-slot; has-client = speaking-used s }

pub feed_command-requires : goal.feed_command-requires
feed_command-requires c =
    let A = c.args in
    let f = c.fix_kind.ensures in
    let w : Reads A.kind A.m.now A.buf.now (says (Ok c.in-Ok-Some-Ok.c) c.in-Ok-Some-Ok.field-0-0.len) c.read.new.buf =
    let e : c.in-Ok-Some-Ok.field-0-0.command ≡ Ok c.in-Ok-Some-Ok.c = cc in rw e at (rw c.in-Ok-Some-Ok.field-0-is at c.in-Ok-Some-Ok.ensures) in (
      speaking-fixed c.requires.0.speaking A.kind f,
      subst (Says c.in-Ok-Some-Ok.c) (sym c.payload-p.ensures)
          (record { sound = read-sound A.kind w; parts = λ i v e. read-splits A.kind w i v (ap Ok e) }),
      fixed-indexed A.slot A.kind f c.requires.2,
    )

pub returns-in-Ok-Some-Ok : goal.returns-in-Ok-Some-Ok
returns-in-Ok-Some-Ok c =
    let A = c.args in
    let m₁ = c.fix_kind.new.mem in
    let w : Reads A.kind A.m.now A.buf.now (says (Ok c.in-Ok-Some-Ok.c) c.in-Ok-Some-Ok.field-0-0.len) c.read.new.buf =
    let e : c.in-Ok-Some-Ok.field-0-0.command ≡ Ok c.in-Ok-Some-Ok.c = cc in rw e at (rw c.in-Ok-Some-Ok.field-0-is at c.in-Ok-Some-Ok.ensures) in
    obeys-fixed c.requires.0.speaking A.kind c.fix_kind.ensures A.m.now
    (obeys-as
    (sym (ap (reading_decision m₁ A.slot (length A.m.now))
    (ap (λ (p : Bytes). meant p (Ok c.in-Ok-Some-Ok.c)) c.payload-p.ensures ∙ sym (read-command A.kind w))))
    (c.feed_command.ensures (length A.m.now)))

pub refuse-requires : goal.refuse-requires
refuse-requires c = speaking-fixed c.requires.0.speaking c.args.kind c.fix_kind.ensures

pub returns-in-Ok-Some-Err : goal.returns-in-Ok-Some-Err
unfolding meant
returns-in-Ok-Some-Err c =
    let A = c.args in
    let m₁ = c.fix_kind.new.mem in
    let n = length A.m.now in
    let w : Reads A.kind A.m.now A.buf.now (says (Err c.in-Ok-Some-Err.refusal) c.in-Ok-Some-Err.field-0-0.len)
    c.read.new.buf =
    let e : c.in-Ok-Some-Err.field-0-0.command ≡ Err c.in-Ok-Some-Err.refusal = cc in rw e at (rw c.in-Ok-Some-Err.field-0-is at c.in-Ok-Some-Err.ensures) in
    obeys-fixed c.requires.0.speaking A.kind c.fix_kind.ensures A.m.now
    (obeys-as
    (ap (reading_decision m₁ A.slot n) (read-command A.kind w)
    ∙ reading-invalid m₁ A.slot n c.in-Ok-Some-Err.refusal)
    (c.refuse.ensures n))

pub returns-in-Ok-None : goal.returns-in-Ok-None
returns-in-Ok-None c =
    let A = c.args in
    obeys-blank c.requires.0.speaking A.kind c.fix_kind.ensures A.m.now
    (read-blank A.kind (rw c.in-Ok-None.field-0-is at c.in-Ok-None.ensures)) refl refl

pub returns-in-Err : goal.returns-in-Err
returns-in-Err c =
    let A = c.args in
    let h = read-no-room A.kind c.in-Err.ensures in
    let e = ap (λ (k : Kind). room_in k A.m.now) c.requires.0.fixed in
    absurd (omega (arith, h, e, c.requires.1))
