use Rattle.std.proofs.Common.{◌≡◌, ◌<◌, ◌^◌, take}
use Rattle.octets.specs.Number.{number}
use Rattle.octets.proofs.number.number_at.Given as goal

-- n is the number of the bytes that were read
abbrev pub invariant-loop-b : goal.invariant-loop-b
invariant-loop-b g l = (l.n ≡ number (take l.b-index l.b-items)) × (l.n < 256 ^ l.b-index)
