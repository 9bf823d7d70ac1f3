use Rattle.std.proofs.Common.{◌≡◌, ◌∙◌, ℕ, ◌+◌, ◌-◌, ◌≤◌, length, append_assoc, sym, arith}
use lib.Seq.{sets, sets-eq}
use Rattle.octets.specs.Octets.{Bytes}
use Rattle.octets.specs.Part.{part}
use Rattle.octets.proofs.Parts.{length_part, take-part-drop}
use Rattle.octets.proofs.moving.move_bytes.Goals as goal

-- bytes that are moved to where they are
sets-moved-none : (s : Bytes) (from to n : ℕ) → from ≡ to → from + n ≤ length s → sets s to (part s from n) ≡ s
sets-moved-none s from to n e h =
    let l = length_part s from n h in
    let k : from + length (part s from n) ≤ length s = omega arith in
    rw (← e, sets-eq (part s from n) s from k, append_assoc, l) (take-part-drop s from n)

pub returns-then-from-to : goal.returns-then-from-to
returns-then-from-to c =
    let A = c.args in
    let s = A.s.now in
    let n : A.from + A.len - A.from ≡ A.len = omega arith in
    let l : length (part s A.from A.len) ≡ A.len = length_part s A.from A.len (omega arith) in
    let e = sets-eq (part s A.from A.len) s A.to (omega arith) in
    c.copy_within.ensures.after ∙ rw (n, e, l, append_assoc)

pub returns-else-from-to : goal.returns-else-from-to
returns-else-from-to c =
    let A = c.args in
    sym (sets-moved-none A.s.now A.from A.to A.len c.if-from-to.false c.requires.0)
