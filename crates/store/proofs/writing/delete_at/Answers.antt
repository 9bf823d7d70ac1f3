-- `store::writing::delete_at` meets its contract: what is behind the row is moved down over it, and the head follows.
use mathlib.Core.Path.{◌≡◌, refl, ap, ◌∙◌}
use mathlib.Core.List.{[]}
use mathlib.Core.Option.{none}
use Prim.Native.Nat.{ℕ, ◌+◌, ◌-◌}
use native.Mathlib.Omega.{arith}
use lib.Seq.{sets}
use Rattle.octets.specs.Octets.{Bytes}
use Rattle.octets.specs.Part.{part}
use Rattle.model.specs.Store.{store_after_write}
use Rattle.store.specs.Region.{used_of, count_of, headed}
use Rattle.store.specs.Operation.{PresentAt}
use Rattle.store.proofs.Rows.{Rows}
use Rattle.store.proofs.Split.{own}
use Rattle.store.proofs.Change.{Gone, gone, becomes-write}
use Rattle.store.proofs.writing.delete_at.Goals as goal

-- what the row's key lets one know of the numbers
known : {st : Bytes} {at old : ℕ} → (p : PresentAt st at old) → Gone st p.key at old
known p = gone p.fine p.found p.present

pub returns : goal.returns
unfolding store_after_write own Rows
returns c k d =
    let st = c.args.st.now in
    let at = c.args.at in
    let old = c.args.old in
    let used = c.used-used.result in
    let count = c.count-count.result in
    let behind = used - (at + old) in
    let moved = sets st (8 + at) (part st (8 + at + old) behind) in
    let g = gone c.requires.fine d c.requires.present in
    let e : c.put_head.new.st ≡ headed moved (at + behind) (count - 1) =
    c.put_head.ensures ∙ ap (λ (x : Bytes). headed x (at + behind) (count - 1)) c.move_bytes.ensures in
    let eu : used ≡ used_of st = c.used-used.ensures in
    let ec : count ≡ count_of st = c.count-count.ensures in
    rw e
    (becomes-write st k none at old behind (8 + at + old) (8 + at) (at + behind) (count - 1) []
    c.requires.fine d refl
    (omega arith) refl (omega arith) (omega arith) (omega (arith, g.count)) (omega arith) (omega arith))
