-- ---- a spoiled transaction ends, and then the COMMIT is refused
-- ---- what is recorded is refused, or runs
use mathlib.Core.Path.{◌≡◌, refl, sym, ◌∙◌}
use mathlib.Core.Bool.{true, false}
use mathlib.Core.List.{List}
use Rattle.protocol.specs.Terms.{Action}
use Rattle.protocol.specs.declared.Refusal.TheVariants.{State}
use Rattle.model.specs.State.{off, Transaction, is_on, is_spoiled}
use Rattle.model.proofs.Transactions.{is-off}
use Rattle.infod3.specs.Infod3.{infod3}
use Rattle.memory.specs.Image.{client_at, image_of}
use Rattle.broker.specs.CommitParts.{recorded_in, commit_refused_in}
use Rattle.broker.proofs.Turned.{becomes-open}
use Rattle.broker.proofs.Decided.{obeys-as, obeys-nothing, obeys-stepped, step-parts, commit-off}
use Rattle.broker.proofs.Decided.{commit-spoiled, commit-refused, commit-done}
use Rattle.broker.proofs.Fixed.{speaking-ended, obeys-ended}
use Rattle.broker.proofs.Recorded.{in-used}
use Rattle.broker.proofs.Running.{committing-start}
use Rattle.broker.proofs.transaction.feed_commit.Goals as goal
use Rattle.broker.proofs.transaction.feed_commit.Goals.{Else-commit_refused, Else-is_spoiled, Else-not-in_transaction, Start}

-- the client's transaction, and what is recorded in it
abbrev transaction : Start → Transaction
transaction k = (client_at k.args.slot (image_of k.args.mem.now)).transaction

abbrev actions : Start → List Action
actions k = recorded_in k.args.mem.now k.args.slot

on : (c : Else-not-in_transaction) → is_on (((client_at c.args.slot (image_of c.args.mem.now)).transaction)) ≡ true
on c =
    let t = c.in_transaction in
    sym t.ensures ∙ c.if-not-in_transaction.false

not-spoiled : (c : Else-is_spoiled) → is_spoiled (((client_at c.args.slot (image_of c.args.mem.now)).transaction)) ≡ false
not-spoiled c = sym c.is_spoiled.ensures ∙ c.if-is_spoiled.false

-- none of the actions is refused
allowed : (c : Else-commit_refused) → (
    let A = c.args in
    commit_refused_in A.mem.now A.slot ≡ false)
allowed c = sym c.commit_refused.ensures ∙ c.if-commit_refused.false

pub in_transaction-requires : goal.in_transaction-requires
in_transaction-requires c = in-used c.requires.0.in-open

pub returns-then-not-in_transaction : goal.returns-then-not-in_transaction
returns-then-not-in_transaction c =
    let A = c.args in
    let t = c.in_transaction in
    let e = sym t.ensures ∙ c.if-not-in_transaction.true in
    λ n. obeys-as (commit-off A.mem.now A.slot n e)
    (obeys-nothing A.slot n off c.requires.0.fine refl refl
    (is-off (transaction (goal.at.returns-then-not-in_transaction c).Start) e))

pub is_spoiled-requires : goal.is_spoiled-requires
is_spoiled-requires c = in-used c.requires.0.in-open

pub end_recording-requires : goal.end_recording-requires
end_recording-requires c = c.requires.0.in-open

pub refuse-requires : goal.refuse-requires
refuse-requires c =
    speaking-ended c.requires.0 c.end_recording.ensures

pub returns-then-is_spoiled : goal.returns-then-is_spoiled
returns-then-is_spoiled c =
    let A = c.args in
    λ n. obeys-as
    (commit-spoiled A.mem.now A.slot n (sym c.is_spoiled.ensures ∙ c.if-is_spoiled.true))
    (obeys-ended c.requires.0 c.end_recording.ensures n State (c.refuse.ensures n))

pub commit_refused-requires : goal.commit_refused-requires
commit_refused-requires c =
    (in-used c.requires.0.in-open, c.requires.1)

pub returns-then-commit_refused : goal.returns-then-commit_refused
returns-then-commit_refused c =
    let A = c.args in
    λ n. obeys-as
    (commit-refused A.mem.now A.slot n (on (goal.at.returns-then-commit_refused c).Else-not-in_transaction) (not-spoiled (goal.at.returns-then-commit_refused c).Else-is_spoiled)
    (sym c.commit_refused.ensures ∙ c.if-commit_refused.true))
    (c.shut.ensures n)

pub run_recorded-requires : goal.run_recorded-requires
run_recorded-requires c =
    (committing-start c.requires.0.in-open (allowed (goal.at.run_recorded-requires c).Else-commit_refused), c.requires.1)

pub end_recording-requires-2 : goal.end_recording-requires-2
end_recording-requires-2 c =
    becomes-open infod3 (actions (goal.at.end_recording-requires-2 c).Start) c.requires.0.in-open c.run_recorded.ensures

pub returns : goal.returns
returns c =
    let A = c.args in
    λ n. obeys-as
    (commit-done A.mem.now A.slot n (on (goal.at.returns c).Else-not-in_transaction) (not-spoiled (goal.at.returns c).Else-is_spoiled) (allowed (goal.at.returns c).Else-commit_refused))
    (obeys-stepped A.slot n c.requires.0.fine (actions (goal.at.returns c).Start) refl refl
    (step-parts A.slot (actions (goal.at.returns c).Start) c.run_recorded.ensures c.end_recording-2.ensures
    c.settle_all.ensures))
