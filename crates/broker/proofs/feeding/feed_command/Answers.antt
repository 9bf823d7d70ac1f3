-- `broker::feeding::feed_command` meets its contract. Each command is BEGIN, COMMIT, or an action of an ID and a payload.
use mathlib.Core.Path.{sym, ap, ◌∙◌}
use Rattle.std.specs.Prelude.{Ok}
use Rattle.protocol.specs.Terms.{begin, commit}
use Rattle.command.specs.declared.Command.{Command}
use Rattle.command.specs.Meaning.{meant}
use Rattle.broker.specs.FeedParts.{named, reading_decision}
use Rattle.broker.proofs.Messages.{named-fine, named-decision, named-write, reading-command}
use Rattle.broker.proofs.Decided.{obeys-as}
use Rattle.broker.proofs.Recorded.{in-used}
use Rattle.broker.proofs.feeding.feed_command.Goals as goal

pub returns-in-Begin : goal.returns-in-Begin
unfolding meant
returns-in-Begin c =
    let A = c.args in
    λ n. obeys-as
    (ap (λ (x : Command). reading_decision A.mem.now A.slot n (meant A.p.now (Ok x))) c.in-Begin.is
    ∙ reading-command A.mem.now A.slot n begin)
    (c.feed_begin.ensures n)

pub returns-in-Commit : goal.returns-in-Commit
unfolding meant
returns-in-Commit c =
    let A = c.args in
    λ n. obeys-as
    (ap (λ (x : Command). reading_decision A.mem.now A.slot n (meant A.p.now (Ok x))) c.in-Commit.is
    ∙ reading-command A.mem.now A.slot n commit)
    (c.feed_commit.ensures n)

-- ---- an action

pub in_transaction-requires : goal.in_transaction-requires
in_transaction-requires c = in-used c.requires.0.in-open

pub feed_record-requires : goal.feed_record-requires
feed_record-requires c = (
  c.requires.0,
  named-fine c.requires.1 c.in_default.not-Begin c.in_default.not-Commit c.id_of.ensures,
  sym c.in_transaction.ensures ∙ c.if-in_transaction.true,
)

pub returns-then-in_transaction : goal.returns-then-in_transaction
returns-then-in_transaction c =
    let A = c.args in
    λ n. obeys-as
    (named-decision c.requires.1 c.in_default.not-Begin c.in_default.not-Commit c.id_of.ensures A.mem.now A.slot n)
    (c.feed_record.ensures n)

pub feed_write-requires : goal.feed_write-requires
feed_write-requires c = (
  c.requires.0,
  named-fine c.requires.1 c.in_default.not-Begin c.in_default.not-Commit (sym (ap named c.in-Write.is)),
  c.requires.1.parts _ _ c.in-Write.is,
  sym c.in_transaction.ensures ∙ c.if-in_transaction.false,
  c.requires.2,
)

pub returns-in-Write : goal.returns-in-Write
returns-in-Write c =
    let A = c.args in
    λ n. obeys-as
    (named-decision c.requires.1 c.in_default.not-Begin c.in_default.not-Commit (sym (ap named c.in-Write.is))
    A.mem.now A.slot n)
    (c.feed_write.ensures n)

pub feed_action-requires : goal.feed_action-requires
feed_action-requires c = (
  c.requires.0,
  named-fine c.requires.1 c.in_default.not-Begin c.in_default.not-Commit c.id_of-in_default-command.ensures,
  (λ e. named-write c.args.command c.in_default-command.not-Write (sym c.id_of-in_default-command.ensures ∙ e)),
  sym c.in_transaction.ensures ∙ c.if-in_transaction.false,
  c.requires.2,
)

pub returns-in_default-command : goal.returns-in_default-command
returns-in_default-command c =
    let A = c.args in
    λ n. obeys-as
    (named-decision c.requires.1 c.in_default.not-Begin c.in_default.not-Commit
    c.id_of-in_default-command.ensures A.mem.now A.slot n)
    (c.feed_action.ensures n)
