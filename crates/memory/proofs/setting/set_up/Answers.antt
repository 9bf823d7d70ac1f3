-- `memory::setting::set_up` meets its contract.
use mathlib.Core.Path.{◌≡◌, subst}
use mathlib.Core.List.{[]}
use Prim.Native.Nat.{ℕ, ◌+◌, ◌-◌}
use native.Mathlib.Omega.{arith}
use lib.ListN.{length, take, drop}
use lib.Seq.{sets}
use borrow.Rule.Slice.PartMut.{put_mid}
use Rattle.octets.specs.Octets.{Bytes}
use Rattle.octets.proofs.Parts.{length_part, lent-part}
use Rattle.store.specs.Operation as store
use Rattle.memory.specs.Layout.{sizes_from}
use Rattle.memory.specs.Promises.{Freeing}
use Rattle.memory.proofs.Fresh.{set-up}
use Rattle.memory.proofs.setting.set_up.Goals as goal

pub returns : goal.returns
returns c =
    let A = c.args in
    let S = A.z.store in
    let m₁ = c.put_header.new.mem in
    let v = c.clear.new.st in
    let m' = c.free_slots.new.mem in
    let h = c.put_header.ensures in
    let end = c.slots_start.result in
    let e : end - 20 ≡ 8 + S = omega (arith, c.slots_start.ensures) in
    let s : store.Becomes (take (8 + S) (drop 20 m₁)) v [] =
    subst (λ (n : ℕ). store.Becomes (take n (drop 20 m₁)) v []) e
    c.clear.ensures in
    let l : length (take (8 + S) (drop 20 m₁)) ≡ 8 + S =
    length_part m₁ 20 (8 + S) (omega (arith, h.size, c.requires.long)) in
    let b : put_mid 20 (end - 20) m₁ v ≡ sets m₁ 20 v =
    lent-part m₁ 20 (end - 20) v (omega (arith, s.same_length)) (omega (arith, h.size, c.requires.long)) in
    set-up (sizes_from A.z) A.mem.now m₁ v m' c.requires h s
    (subst (λ (t : Bytes). Freeing (sizes_from A.z) t A.z.slots m') b c.free_slots.ensures)
