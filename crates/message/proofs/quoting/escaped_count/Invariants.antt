-- n bytes are escaped in the blocks before.
use mathlib.Core.Path.{◌≡◌}
use Prim.Native.Nat.{◌+◌, ◌≤◌}
use lib.ListN.{length}
use Rattle.std.specs.Slice.Iter.{chunks_rest, chunks_size}
use Rattle.message.specs.Quoting.{escaped}
use Rattle.message.proofs.quoting.escaped_count.Given as goal

abbrev pub invariant-loop-block : goal.invariant-loop-block
invariant-loop-block l =
    (l.n + escaped (chunks_rest l.block-iterator) ≡ escaped l.s)
    × (l.n + length (chunks_rest l.block-iterator) ≤ length l.s)
    × (chunks_size l.block-iterator ≡ 128)
