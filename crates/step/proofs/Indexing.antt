-- The index of the store at a turn. An index stays one where the action leaves the store; at a WRITE its offsets are
-- moved.
use mathlib.Core.Path.{◌≡◌, ap, ◌∙◌}
use mathlib.Core.List.{List}
use Prim.Native.Nat.{ℕ, ◌+◌, ◌≤◌}
use native.Mathlib.Omega.{arith}
use lib.ListN.{take, drop}
use Rattle.octets.specs.Octets.{Bytes, first_nul}
use Rattle.octets.proofs.Parts.{length_part}
use Rattle.protocol.specs.Terms.{Action}
use Rattle.model.specs.Step.{store_after}
use Rattle.command.specs.declared.Written.{Written}
use Rattle.command.specs.Commands.{Splits}
use Rattle.recording.specs.Encoding.{key_in, value_behind, write_from}
use Rattle.infod3.specs.Infod3.{infod3}
use Rattle.store.specs.Operation.{charge}
use Rattle.store.specs.Index.{Indexes, Movable, Moved}
use Rattle.store.proofs.Indexing.{indexes-moved, indexes-movable}
use Rattle.memory.specs.Layout.{sizes_of}
use Rattle.memory.specs.Image.{Image, image_of, with_store}
use Rattle.memory.specs.Rules.{Becomes}
use Rattle.memory.proofs.SizeLaws.{ranges}
use Rattle.refinement.specs.Turn.{after_turn}
use Rattle.commit.specs.Tally.{written_size}
use Rattle.commit.proofs.Parts.{written_size-charge, written_size-le}
use Rattle.step.specs.TurnParts.{WritingAt, Wrote}

-- the store after a turn
store-turn : {m m' : Bytes} (i : ℕ) (a : Action) → Becomes m m' (after_turn infod3 i a (image_of m))
    → (image_of m').store ≡ store_after a (image_of m).store
unfolding after_turn with_store
store-turn i a h = ap (λ (im : Image). im.store) h.means

-- an action that leaves the store
pub indexed-kept : {m m' : Bytes} (i : ℕ) (a : Action) {index : List ℕ}
    → store_after a (image_of m).store ≡ (image_of m).store → Indexes (image_of m).store index
    → Becomes m m' (after_turn infod3 i a (image_of m))
    → (Becomes m m' (after_turn infod3 i a (image_of m))) × (Indexes (image_of m').store index)
indexed-kept i a e x h = (h, rw (store-turn i a h, e) x)

-- ---- the index at a WRITE

module _ {m p : Bytes} {n : ℕ} {w : Written} {at old : ℕ} {index : List ℕ} (h : WritingAt m p n w at old)
    (x : Indexes (image_of m).store index) where
  -- its parts
  split : Splits p n w
  split = record { key = h.key; written = h.place.written }

  -- the row that it leaves is short
  pub write-short : written_size n w ≤ 65542
  write-short = omega (arith, written_size-le split, h.writing.short)

  -- the numbers are small enough to add
  pub write-movable : {new : ℕ} → new ≡ written_size n w → Movable index at old new
  unfolding image_of
  write-movable e =
      let k = h.writing.sound.headed in
      let z = sizes_of m in
      let s = (ranges z k.ranged).store in
      let l = length_part m 20 (8 + z.store_room) (omega (arith, k.long)) in
      indexes-movable h.place.fine h.place.found x (omega arith) (omega (arith, e, write-short))

  -- the offsets, once moved, are those of the store that the WRITE leaves
  pub write-indexed : {m' : Bytes} {new : ℕ} {index' : List ℕ} → new ≡ written_size n w → Moved index at old new index'
      → Wrote p m m' → (Wrote p m m') × (Indexes (image_of m').store index')
  unfolding image_of store_after write_from
  write-indexed {m'} {new} {index'} e v k =
      let value = value_behind (drop (first_nul p) p) in
      let c : new ≡ charge (key_in p) value =
      e ∙ written_size-charge split ∙ ap (λ (j : ℕ). charge (take j p) (value_behind (drop j p))) h.key in
      let y = indexes-moved value h.place.fine h.place.found x (rw c at v) in
      (k, rw (store-turn 0 (write_from p) (k 0)) y)
