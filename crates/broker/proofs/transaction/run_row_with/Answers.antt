-- `broker::transaction::run_row_with` meets its contract.
use mathlib.Core.Path.{◌≡◌, sym, ap, ◌∙◌}
use lib.ListN.{length, drop}
use Rattle.octets.specs.Octets.{Bytes}
use Rattle.protocol.specs.Terms.{Action, action_id}
use Rattle.protocol.specs.Ids.{id_of}
use Rattle.recording.specs.Encoding.{action_at}
use Rattle.recording.specs.Region.{rows_of}
use Rattle.memory.specs.Image.{image_of}
use Rattle.infod3.specs.Infod3.{infod3}
use Rattle.refinement.specs.Turn.{after_turn}
use Rattle.refinement.proofs.Ends.{becomes-as}
use Rattle.broker.specs.CommitParts.{row_action}
use Rattle.broker.proofs.Recorded.{row-turning, row-action}
use Rattle.broker.proofs.transaction.run_row_with.Goals as goal
use Rattle.broker.proofs.transaction.run_row_with.Goals.{After-id_at-id}

-- the action of the row
abbrev action : (c : After-id_at-id) → Action
action c =
    let A = c.args in
    row_action A.mem.now A.slot A.at

-- its ID
named : (c : After-id_at-id) → id_of c.id_at-id.result ≡ action_id (action c)
named c =
    let at = c.args.at in
    c.id_at-id.ensures
    ∙ ap (λ (r : Bytes). action_id (action_at (drop at (rows_of r)))) c.recording_part.ensures

pub id_at-id-requires : goal.id_at-id-requires
id_at-id-requires c = rw c.recording_part.ensures c.requires.0.row

pub slice_bounds-turn-end-2 : goal.slice_bounds-turn-end-2
slice_bounds-turn-end-2 c =
    let p = c.copy_payload-n.ensures in
    p.count ∙ sym (ap length p.front)

pub turn-requires : goal.turn-requires
turn-requires c =
    (row-turning c.requires.0 (named (goal.at.turn-requires c).After-id_at-id) c.copy_payload-n.ensures.front, c.requires.2)

pub returns : goal.returns
returns c =
    let A = c.args in
    let e = row-action A.mem.now A.slot A.at (named (goal.at.returns c).After-id_at-id) c.copy_payload-n.ensures.front in
    let f = ap (λ (a : Action). after_turn infod3 A.slot a (image_of A.mem.now)) e in
    (becomes-as f c.turn.ensures.0, c.turn.ensures.1)
