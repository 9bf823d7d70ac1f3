-- The subscriptions region of a slot: number of patterns 4, then sixteen cells of 256 bytes, each a length byte and the
-- pattern. Its rules (`subscriptions_fine`) and its meaning (`patterns_of`): the patterns that a client holds, in the
-- order added (document 01, "The simple server", SUB and UNSUB). Numbers have the highest byte first. The bytes of a
-- cell behind its pattern, and the cells behind the last pattern, have no rule; nor does any rule ask that patterns are
-- valid or differ.
use Rattle.std.specs.Prelude.{ℕ, ◌+◌, ◌*◌, [], Bool, ◌&&◌, eqb, leb, length, take, drop, get_or}
use Rattle.octets.specs.Octets.{Bytes}
use Rattle.octets.specs.Part.{part}
use Rattle.octets.specs.Number.{number_at}
use Rattle.octets.specs.Table.{rows}
use Rattle.pattern.specs.Answer.{accepted}
use Rattle.protocol.specs.Terms.{Protocol, incomplete}
use Rattle.model.specs.Patterns.{Patterns}

-- the pattern of a cell
unfoldable pub cell : Bytes → Bytes
cell c = take (get_or c 0 0) (drop 1 c)

-- the pattern of cell i
unfoldable pub cell_at : Bytes → ℕ → Bytes
cell_at s i = cell (part s (4 + i * 256) 256)

unfoldable pub count_of : Bytes → ℕ
count_of s = number_at 4 s 0

-- what the region means: the patterns of so many cells
unfoldable pub patterns_of : Bytes → Patterns
patterns_of s = rows cell 256 (count_of s) (drop 4 s)

-- the rules: 4,100 bytes, and at most sixteen patterns
unfoldable pub subscriptions_fine : Bytes → Bool
subscriptions_fine s = eqb (length s) 4100 && leb (count_of s) 16

-- a protocol of which only the matcher counts: that of the crate `pattern`
unfoldable pub matching : Protocol
matching = record { cut = λ kind s. incomplete; written = λ kind m. []; matches = accepted }
