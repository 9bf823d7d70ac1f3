use mathlib.Core.Path.{◌≡◌, refl, sym, ap, ◌∙◌}
use mathlib.Core.Bool.{false}
use mathlib.Core.List.{[], ◌∷◌, ◌++◌}
use lib.ListN.{length}
use Rattle.protocol.specs.Terms.{Action}
use Rattle.model.specs.State.{spoiled, is_spoiled, recording_fits}
use Rattle.model.proofs.Transactions.{is-spoiled}
use Rattle.protocol.specs.Ids.{id_of}
use Rattle.recording.specs.Encoding.{action_of}
use Rattle.recording.proofs.Encodings.{payload-action_of}
use Rattle.memory.specs.Image.{client_at, image_of}
use Rattle.broker.specs.CommitParts.{recorded_in}
use Rattle.broker.proofs.Decided.{obeys-as, obeys-nothing, obeys-recorded, record-spoiled, record-refused}
use Rattle.broker.proofs.Decided.{record-done}
use Rattle.broker.proofs.Recorded.{in-used}
use Rattle.broker.proofs.transaction.feed_record.Goals as goal
use Rattle.broker.proofs.transaction.feed_record.Goals.{After-record_fits, Else-is_spoiled, Start}

abbrev action : Start → Action
action k = action_of (id_of k.args.id) k.args.p.now

not-spoiled : (c : Else-is_spoiled) → (
    let A = c.args in
    is_spoiled (client_at A.slot (image_of A.mem.now)).transaction ≡ false)
not-spoiled c = sym c.is_spoiled.ensures ∙ c.if-is_spoiled.false

-- whether the action fits
fits : (c : After-record_fits) → (
    let m = c.args.mem.now in
    c.record_fits.result
    ≡ recording_fits (image_of m).sizes.record_room (recorded_in m c.args.slot ++ ((action_of (id_of c.args.id) c.args.p.now) ∷ [])))
fits c =
    c.record_fits.ensures.value ((action_of (id_of c.args.id) c.args.p.now)) (ap length (payload-action_of (id_of c.args.id) c.args.p.now))

pub is_spoiled-requires : goal.is_spoiled-requires
is_spoiled-requires c = in-used c.requires.0.in-open

pub returns-then-is_spoiled : goal.returns-then-is_spoiled
returns-then-is_spoiled c =
    let A = c.args in
    let e = sym c.is_spoiled.ensures ∙ c.if-is_spoiled.true in
    λ n. obeys-as (record-spoiled A.mem.now A.slot n (action (goal.at.returns-then-is_spoiled c).Start) e)
    (obeys-nothing A.slot n spoiled c.requires.0.fine refl refl
    (is-spoiled (client_at A.slot (image_of A.mem.now)).transaction e))

pub record_fits-requires : goal.record_fits-requires
record_fits-requires c = in-used c.requires.0.in-open

pub returns-then-not-record_fits : goal.returns-then-not-record_fits
returns-then-not-record_fits c =
    let A = c.args in
    λ n. obeys-as
    (record-refused A.mem.now A.slot n (action (goal.at.returns-then-not-record_fits c).Start) c.requires.2 (not-spoiled (goal.at.returns-then-not-record_fits c).Else-is_spoiled)
    (sym (fits (goal.at.returns-then-not-record_fits c).After-record_fits) ∙ c.if-not-record_fits.true))
    (c.shut.ensures n)

pub record-requires : goal.record-requires
record-requires c =
    record {
      in-open = c.requires.0.in-open;
      known = c.requires.1;
      fits = sym (fits (goal.at.record-requires c).After-record_fits) ∙ c.if-not-record_fits.false;
    }

pub returns : goal.returns
returns c =
    let A = c.args in
    λ n. obeys-as
    (record-done A.mem.now A.slot n (action (goal.at.returns c).Start) c.requires.2 (not-spoiled (goal.at.returns c).Else-is_spoiled)
    (sym (fits (goal.at.returns c).After-record_fits) ∙ c.if-not-record_fits.false))
    (obeys-recorded A.slot n c.requires.0.fine (action (goal.at.returns c).Start) refl refl
    c.«record».ensures)
