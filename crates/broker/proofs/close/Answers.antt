-- `broker::close` meets its contract.
use mathlib.Core.Path.{refl, sym}
use Rattle.model.specs.State.{slot_at}
use Rattle.model.proofs.Decisions.{close-free, close-used}
use Rattle.memory.specs.Image.{client_in, image_of}
use Rattle.memory.proofs.Lent.{used-is}
use Rattle.memory.proofs.Fine.{fine-sound}
use Rattle.infod3.specs.Infod3.{infod3}
use Rattle.refinement.proofs.Events.{after_event-closed}
use Rattle.refinement.proofs.Ends.{becomes-as}
use Rattle.broker.proofs.Deciding.{not-used}
use Rattle.broker.proofs.Serving.{failed, serves-as, serves-broken, serves-unaltered, serves-done, never-answered}
use Rattle.broker.proofs.Serving.{slot-inside}
use Rattle.broker.proofs.close.Goals as goal

pub returns-in_err-check : goal.returns-in_err-check
returns-in_err-check c =
    let f = c.in_err-check.ensures in
    serves-as (failed c.from_residual.ensures.1 f.1) (serves-broken f.0 refl refl refl)

pub client_in-requires : goal.client_in-requires
client_in-requires c = fine-sound c.args.mem.now c.in_ok-check.ensures

pub returns-in_err-client_in : goal.returns-in_err-client_in
returns-in_err-client_in c =
    let im = image_of c.args.mem.now in
    let i = c.args.slot in
    let f = c.in_err-client_in.ensures in
    serves-as (failed c.from_residual-in_err-client_in.ensures.1 f.1)
    (serves-unaltered 2 c.in_ok-check.ensures (close-free infod3 im i (not-used (slot_at i im) f.0)) refl refl refl)

pub close-requires : goal.close-requires
close-requires c = slot-inside c.in_ok-check.ensures c.in_ok-client_in.ensures

pub returns : goal.returns
returns c =
    let im = image_of c.args.mem.now in
    let i = c.args.slot in
    serves-done _ c.in_ok-check.ensures
    (close-used infod3 im i (client_in (slot_at i im)) (used-is (slot_at i im) c.in_ok-client_in.ensures))
    refl refl (λ l h. absurd (never-answered l refl))
    (becomes-as (sym (after_event-closed infod3 im i)) c.close.ensures)
