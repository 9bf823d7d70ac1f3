-- `store::writing::write_at` meets its contract: what is behind the key's old row is moved, the new row is written
-- before it, and the head follows.
use mathlib.Core.Path.{◌≡◌, refl, ap, ◌∙◌}
use mathlib.Core.Option.{some}
use Prim.Native.Nat.{ℕ, ◌+◌, ◌-◌}
use native.Mathlib.Omega.{arith}
use lib.ListN.{length, take, drop}
use lib.Seq.{sets}
use Rattle.octets.specs.Octets.{Bytes}
use Rattle.octets.specs.Part.{part}
use Rattle.model.specs.Store.{store_after_write}
use Rattle.store.specs.Row.{row_bytes}
use Rattle.store.specs.Region.{used_of, count_of, headed}
use Rattle.store.specs.Operation.{put_payload, WritableAt}
use Rattle.store.proofs.RowLaws.{length-row_bytes}
use Rattle.store.proofs.Change.{Ready, ready, rows-payload, becomes-write}
use Rattle.store.proofs.writing.write_at.Goals as goal

-- what the steps need to know
known : {st p : Bytes} {n at old : ℕ} → WritableAt st p n at old → Ready st p n at old
known {st} {p} {n} {at} {old} w = ready st p n at old w.writable w.found

pub returns : goal.returns
unfolding put_payload store_after_write
returns c =
    let a = c.args in
    let r = known c.requires in
    let st = a.st.now in
    let p = a.payload.now in
    let b = row_bytes a.key p in
    let used = c.used-used.result in
    let count = c.count-count.result in
    let behind = used - (a.at + a.old) in
    let from = 8 + a.at + a.old in
    let to = 8 + a.at + (7 + length p) in
    let used' = a.at + (7 + length p) + behind in
    let count' = count + 1 - c.row_count.result in
    let e : c.put_head.new.st ≡ headed (sets (sets st to (part st from behind)) (8 + a.at) b) used' count' =
    c.put_head.ensures
    ∙ ap (λ (x : Bytes). headed x used' count')
    (c.write.ensures ∙ ap (λ (x : Bytes). sets x (8 + a.at) b) c.move_bytes.ensures) in
    let l = length-row_bytes a.key p in
    let eu : used ≡ used_of st = c.used-used.ensures in
    let ec : count ≡ count_of st = c.count-count.ensures in
    let er = c.row_count.ensures.0 in
    rw e
    (becomes-write st (take a.key p) (some (drop (a.key + 1) p)) a.at a.old behind from to used' count' b
    c.requires.writable.fine c.requires.found (rows-payload p a.key c.requires.writable.payload)
    (omega arith) refl (omega arith) (omega arith) (omega (arith, r.count)) (omega arith) (omega arith))
