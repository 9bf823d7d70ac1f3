use mathlib.Core.Path.{refl, sym, ◌∙◌}
use mathlib.Core.List.{[], ◌∷◌}
use Rattle.protocol.specs.Ids.{id_of}
use Rattle.recording.specs.Encoding.{action_of}
use Rattle.broker.proofs.Decided.{obeys-as, obeys-stepped}
use Rattle.broker.proofs.Actions.{action-refused, action-done, action-stepped}
use Rattle.broker.proofs.feeding.feed_action.Goals as goal

pub is_refused-requires : goal.is_refused-requires
is_refused-requires c =
    (c.requires.0, c.requires.2)

pub returns-then-is_refused : goal.returns-then-is_refused
returns-then-is_refused c =
    let A = c.args in
    λ n. obeys-as
    (action-refused A.mem.now A.slot n (action_of (id_of A.id) A.p.now) c.requires.3
    (sym c.is_refused.ensures ∙ c.if-is_refused.true))
    (c.shut.ensures n)

pub turn-requires : goal.turn-requires
turn-requires c = (
  record {
    in-open = c.requires.0.in-open;
    known = c.requires.1;
    allowed = sym c.is_refused.ensures ∙ c.if-is_refused.false;
  },
  c.requires.4,
)

pub settle_all-requires : goal.settle_all-requires
settle_all-requires c = c.turn.ensures.0.sound

pub returns : goal.returns
returns c =
    let A = c.args in
    let a = action_of (id_of A.id) A.p.now in
    let off = c.requires.3 in
    λ n. obeys-as
    (action-done A.mem.now A.slot n a off (sym c.is_refused.ensures ∙ c.if-is_refused.false))
    (obeys-stepped A.slot n c.requires.0.fine (a ∷ []) refl refl
    (action-stepped A.mem.now A.slot n a off c.requires.0 c.turn.ensures.0
    c.settle_all.ensures))
