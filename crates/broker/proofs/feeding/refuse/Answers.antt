use mathlib.Core.Path.{◌≡◌, refl, sym, ap₂, ◌∙◌}
use mathlib.Core.Bool.{Bool, true}
use Rattle.protocol.specs.declared.Kind.{Kind}
use Rattle.model.specs.Feed.{stays_open}
use Rattle.memory.specs.Image.{client_at, image_of}
use Rattle.broker.proofs.Decided.{obeys-as, obeys-slip}
use Rattle.broker.proofs.Recorded.{in-used}
use Rattle.broker.proofs.Refused.{speaking-resting, refusal-shuts, refusal-full, refusal-stays}
use Rattle.broker.proofs.feeding.refuse.Goals as goal
use Rattle.broker.proofs.feeding.refuse.Goals.{After-stays_open, Else-not-stays_open, Start}

-- whether the client stays open, by its kind and form in the memory
abbrev Stays : Start → Bool
Stays k =
    let d = client_at k.args.slot (image_of k.args.mem.now) in
    stays_open d.kind d.hangs_up k.args.refusal

stays : (c : After-stays_open) → c.stays_open.result ≡ (let d = client_at c.args.slot (image_of c.args.mem.now) in stays_open d.kind d.hangs_up c.args.refusal)
stays c =
    c.stays_open.ensures
    ∙ ap₂ (λ (k : Kind) (h : Bool). stays_open k h c.args.refusal) c.kind-kind.ensures
    c.hangs_up-hangs_up.ensures

stays-2 : (c : Else-not-stays_open) → c.stays_open.result ≡ (let d = client_at c.args.slot (image_of c.args.mem.now) in stays_open d.kind d.hangs_up c.args.refusal)
stays-2 c =
    c.stays_open.ensures
    ∙ ap₂ (λ (k : Kind) (h : Bool). stays_open k h c.args.refusal) c.kind-kind.ensures
    c.hangs_up-hangs_up.ensures

stays-true : (c : Else-not-stays_open) → (let d = client_at c.args.slot (image_of c.args.mem.now) in stays_open d.kind d.hangs_up c.args.refusal) ≡ true
stays-true c = sym (stays-2 c) ∙ c.if-not-stays_open.false

pub kind-kind-requires : goal.kind-kind-requires
kind-kind-requires c = in-used c.requires.in-open

pub hangs_up-hangs_up-requires : goal.hangs_up-hangs_up-requires
hangs_up-hangs_up-requires c = in-used c.requires.in-open

pub returns-then-not-stays_open : goal.returns-then-not-stays_open
returns-then-not-stays_open c =
    λ n. obeys-as
    (refusal-shuts c.requires n c.args.refusal
    (sym (stays (goal.at.returns-then-not-stays_open c).After-stays_open) ∙ c.if-not-stays_open.true))
    (c.shut.ensures n)

pub error_fits-requires : goal.error_fits-requires
error_fits-requires c = speaking-resting c.requires

pub returns-then-not-error_fits : goal.returns-then-not-error_fits
returns-then-not-error_fits c =
    let f = c.error_fits in
    λ n. obeys-as
    (refusal-full c.requires n c.args.refusal (stays-true (goal.at.returns-then-not-error_fits c).Else-not-stays_open)
    (sym f.ensures ∙ c.if-not-error_fits.true))
    (c.shut-then-not-error_fits.ensures n)

pub slip-requires : goal.slip-requires
slip-requires c =
    let f = c.error_fits in
    record {
      in-resting = speaking-resting c.requires;
      fits = sym f.ensures ∙ c.if-not-error_fits.false;
    }

pub returns : goal.returns
returns c =
    let A = c.args in
    let f = c.error_fits in
    λ n. obeys-as
    (refusal-stays c.requires n A.refusal (stays-true (goal.at.returns c).Else-not-stays_open)
    (sym f.ensures ∙ c.if-not-error_fits.false))
    (obeys-slip A.slot n c.requires.fine A.refusal refl refl c.slip.ensures)
