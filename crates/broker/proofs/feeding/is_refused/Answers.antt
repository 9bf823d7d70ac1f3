-- `broker::feeding::is_refused` meets its contract.
use mathlib.Core.Path.{◌≡◌, sym, ap, subst, ◌∙◌}
use mathlib.Core.Bool.{true}
use denote.Enum.Bare.{same_true}
use Rattle.std.proofs.Common.{rules}
use Rattle.protocol.specs.contracts.command_id.CommandId.{the_type}
use Rattle.protocol.specs.declared.command_id.CommandId.TheVariants.{Sub}
use Rattle.octets.specs.Octets.{Bytes}
use Rattle.protocol.specs.declared.command_id.CommandId.{CommandId}
use Rattle.protocol.specs.Ids.{id_of}
use Rattle.subscriptions.specs.Region.{subscriptions_fine}
use Rattle.recording.specs.Encoding.{action_of}
use Rattle.memory.specs.Image.{client_at, image_of}
use Rattle.step.specs.TurnParts.{refused_in}
use Rattle.broker.proofs.Recorded.{in-used, client-rules}
use Rattle.broker.proofs.Actions.{sub-refused_in, command-never-refused}
use Rattle.broker.proofs.feeding.is_refused.Goals as goal

pub sub_refused-requires : goal.sub_refused-requires
sub_refused-requires c =
    subst (λ (t : Bytes). subscriptions_fine t ≡ true) (sym c.subscriptions_part.ensures)
    (client-rules (in-used c.requires.0.in-open)).subscriptions

pub returns-then-eq : goal.returns-then-eq
unfolding action_of
returns-then-eq c =
    let A = c.args in
    let named : A.id ≡ Sub = same_true the_type (search rules) _ _ (sym c.eq.ensures ∙ c.if-eq.true) in
    sub-refused_in A.mem.now A.slot (in-used c.requires.0.in-open)
    c.subscriptions_part.ensures c.sub_refused.ensures
    ∙ sym (ap (λ (k : CommandId). refused_in A.mem.now A.slot (action_of (id_of k) A.p.now)) named)

pub returns : goal.returns
unfolding refused_in
returns c =
    let A = c.args in
    let im = image_of A.mem.now in
    command-never-refused A.id A.p.now im.sizes.store_room im.store (client_at A.slot im).patterns
    c.requires.1 (λ e. let w = rw e at (sym c.eq.ensures ∙ c.if-eq.false) in cc)
