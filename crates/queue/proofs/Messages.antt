-- A message as the writer leaves it in a region, on plain lists, and the steps of owing it.
use mathlib.Core.Path.{◌≡◌, refl, sym, ap, ◌∙◌}
use mathlib.Core.List.{◌++◌}
use Prim.Native.Nat.{ℕ, ◌+◌, ◌≤◌}
use native.Mathlib.Omega.{arith}
use lib.ListN.{length}
use lib.Seq.{sets}
use Rattle.std.specs.Prelude.{Result, Ok, Err}
use Rattle.octets.specs.Octets.{Bytes, ascii}
use Rattle.octets.specs.Number.{big_endian}
use Rattle.octets.proofs.Parts.{sets_behind}
use Rattle.octets.proofs.Numbers.{length-big_endian}
use Rattle.protocol.specs.declared.Kind.{Kind}
use Rattle.protocol.specs.declared.Refusal.TheVariants.{Unknown, Parameter, Room, State}
use Rattle.protocol.specs.Terms.{message_payload, reason}
use Rattle.message.specs.declared.Message.{Message}
use Rattle.message.specs.declared.Message.TheVariants.{Version, Info, Pong, Error}
use Rattle.message.specs.declared.Unwritten.{Unwritten}
use Rattle.message.specs.declared.Unwritten.TheVariants.{Short, TooLong}
use Rattle.message.specs.Forms.{written}
use Rattle.message.specs.Writing.{said, written_length, Outcome, answered, writing}
use Rattle.message.proofs.FormLaws.{length_with-fits, outcome-done, payload-info}
use Rattle.queue.specs.Rows.{row}
use Rattle.queue.specs.Region.{pending_end}
use Rattle.queue.specs.Parts.{pushed}
use Rattle.queue.proofs.Rows.{length-row}

-- ---- what the writer gives

-- a message of a body that a client can send is one that the writer takes
pub payload-fits : (m : Message) (b : Bytes) → length b ≤ 65535 → length (message_payload (said m b)) ≤ 65535
unfolding message_payload said reason ascii
payload-fits Version b h = omega arith
payload-fits Info b h = rw (payload-info b) h
payload-fits Pong b h = h
payload-fits (Error Unknown) b h = omega arith
payload-fits (Error Parameter) b h = omega arith
payload-fits (Error Room) b h = omega arith
payload-fits (Error State) b h = omega arith

pub written-length : (k : Kind) (m : Message) (b : Bytes) → length b ≤ 65535
    → written_length k (said m b) ≡ length (written k (said m b))
written-length k m b h = length_with-fits (message_payload (said m b)) (written k (said m b)) (payload-fits m b h)

answered-out : (r : Result ℕ Unwritten) (o : Bytes) → (answered r o).out ≡ o
answered-out (Ok n) o = refl
answered-out (Err Short) o = refl
answered-out (Err TooLong) o = refl

-- a message that has room is written at the front
pub written_out : (k : Kind) (m : Message) (b o o' : Bytes) (r : Result ℕ Unwritten) → length b ≤ 65535
    → length (written k (said m b)) ≤ length o → answered r o' ≡ writing k (said m b) o
    → o' ≡ sets o 0 (written k (said m b))
written_out k m b o o' r h f e =
    let d = outcome-done (message_payload (said m b)) (written k (said m b)) o (payload-fits m b h) f in
    sym (answered-out r o') ∙ ap (λ (x : Outcome). x.out) (e ∙ d)

-- ---- the row in the region

pub pushed_row : (q m : Bytes) (e n : ℕ) → e ≡ pending_end q → n ≡ length m
    → sets (sets (sets q (16 + e) (big_endian 4 n)) (20 + e) m) 8 (big_endian 4 (e + 4 + n)) ≡ pushed (row m) q
unfolding pushed row
pushed_row q m e n p l =
    let b : 20 + e ≡ 16 + e + length (big_endian 4 n) = rw (length-big_endian 4 n) (omega arith) in
    let w : sets (sets q (16 + e) (big_endian 4 n)) (20 + e) m ≡ sets q (16 + e) (big_endian 4 n ++ m) =
    sets_behind q (16 + e) (20 + e) (big_endian 4 n) m b in
    let v : e + 4 + n ≡ pending_end q + length (row m) = rw (length-row m) (omega arith) in
    rw (w, v, l, p)
