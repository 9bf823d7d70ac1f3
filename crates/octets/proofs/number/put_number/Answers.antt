use Rattle.std.proofs.Common.{List, ℕ, ◌≡◌, ◌+◌, ◌-◌, length, ap, ◌∙◌, arith}
use Rattle.std.proofs.lemmas.List.Edits.{sets}
use Rattle.octets.specs.Number.{big_endian}
use Rattle.octets.specs.Part.{part}
use Rattle.octets.proofs.Numbers.{last_bytes, length-big_endian}
use Rattle.octets.proofs.Parts.{lent-part}
use Rattle.octets.proofs.number.put_number.Goals as goal

pub returns : goal.returns
returns g c =
    let A = c.args in
    let w = g.row.W in
    let new = c.copy_from_slice.new.self in
    let e : new ≡ big_endian w A.v =
    c.copy_from_slice.ensures.after ∙ ap (λ (l : List ℕ). part l (8 - w) (8 - (8 - w))) c.to_be_bytes.ensures
    ∙ last_bytes w A.v c.requires.1 in
    let l : length new ≡ A.at + w - A.at = omega (arith, ap length e, length-big_endian w A.v) in
    lent-part A.s.now A.at (A.at + w - A.at) new l (omega arith) ∙ ap (sets A.s.now A.at) e
