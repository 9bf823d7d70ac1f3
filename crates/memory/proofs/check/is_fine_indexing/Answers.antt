-- `memory::check::is_fine_indexing` meets its contract: each way out is a clause of the test.
use mathlib.Core.Path.{◌≡◌, refl, sym, ap, ◌∙◌}
use mathlib.Core.Bool.{Bool, true, false, ◌&&◌}
use Rattle.octets.specs.Octets.{Bytes}
use Rattle.recording.proofs.Tests.{and_both}
use Rattle.store.specs.Region.{store_fine}
use Rattle.store.specs.Index.{Indexes}
use Rattle.store.proofs.Indexing.{unindexed}
use Rattle.memory.specs.Layout.{sizes_of, store_part}
use Rattle.memory.specs.Image.{image_of}
use Rattle.memory.specs.Rules.{head_fine, slots_fine, memory_fine}
use Rattle.memory.proofs.Fine.{head_fine-headed}
use Rattle.memory.proofs.check.is_fine_indexing.Goals as goal
use Rattle.memory.proofs.check.is_fine_indexing.Goals.{Joined-head_fine, then-head_fine, else-head_fine}

-- the tests in front of the slots
abbrev front : Bytes → Bool
front m = head_fine m && store_fine (store_part (sizes_of m) m)

fine-front : (m : Bytes) → front m ≡ false → false ≡ memory_fine m
unfolding memory_fine
fine-front m e = go (head_fine m) refl
  where
    go : (b : Bool) → head_fine m ≡ b → false ≡ memory_fine m
    go true h = let s : store_fine (store_part (sizes_of m) m) ≡ false = rw h at e in rw (h, s)
    go false h = rw h

fine-slots : (m : Bytes) → front m ≡ true → slots_fine m ≡ memory_fine m
unfolding memory_fine
fine-slots m e =
    let p = and_both (head_fine m) (store_fine (store_part (sizes_of m) m)) e in
    rw (p.0, p.1)

-- what they leave
joined : (c : Joined-head_fine) → (c.if-head_fine.value ≡ front c.args.mem.now)
    × (Indexes (image_of c.args.mem.now).store c.if-head_fine.index)
unfolding image_of
joined c =
    let m = c.args.mem.now in
    elim c.if-head_fine.branch [
      | then-head_fine w ↦ (
        w.value-is ∙ w.is_fine.ensures.0 ∙ ap store_fine w.store_part.ensures
            ∙ rw (sym c.head_fine.ensures ∙ w.if-head_fine.true),
        rw (w.index-is, ← w.store_part.ensures) w.is_fine.ensures.1,
      )
      | else-head_fine w ↦ (
        let v : c.if-head_fine.value ≡ false = cc in
            v ∙ rw (sym c.head_fine.ensures ∙ w.if-head_fine.false),
        rw w.index-is (unindexed (image_of m).store c.args.index.now c.requires),
      )
    ]

passed : (c : Joined-head_fine) → c.if-head_fine.value ≡ true → front c.args.mem.now ≡ true
passed c e = sym (joined c).0 ∙ e

pub store_part-requires : goal.store_part-requires
store_part-requires c = head_fine-headed c.args.mem.now (sym c.head_fine.ensures ∙ c.if-head_fine.true)

pub slots_fine-requires : goal.slots_fine-requires
slots_fine-requires c =
    let m = c.args.mem.now in
    let e = passed (goal.at.slots_fine-requires c).Joined-head_fine c.if-is_fine.true in
    head_fine-headed m (and_both (head_fine m) (store_fine (store_part (sizes_of m) m)) e).0

pub returns-then-is_fine : goal.returns-then-is_fine
returns-then-is_fine c =
    let j = (goal.at.returns-then-is_fine c).Joined-head_fine in
    (c.slots_fine.ensures ∙ fine-slots c.args.mem.now (passed j c.if-is_fine.true), (joined j).1)

pub returns-else-is_fine : goal.returns-else-is_fine
returns-else-is_fine c =
    let j = joined (goal.at.returns-else-is_fine c).Joined-head_fine in
    (c.if-is_fine.false ∙ fine-front c.args.mem.now (sym j.0 ∙ c.if-is_fine.false), j.1)
