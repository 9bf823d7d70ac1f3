-- What the functions of the wire answer for each kind.
use mathlib.Core.Path.{◌≡◌, refl, sym, ap, ◌∙◌}
use mathlib.Core.List.{[], ◌∷◌}
use mathlib.Core.Bool.{Bool, true, false}
use Prim.Native.Nat.{ℕ, suc, ◌+◌, ◌-◌, ◌≤◌}
use native.Mathlib.Omega.{arith}
use lib.Dec.{leb}
use lib.ListN.{length, take, drop, get_or}
use lib.Seq.{take_all, length-take-le, sets, sets-eq, take-append_seam}
use borrow.Author.Tests.{le-leb}
use Rattle.std.specs.Prelude.{Option, Some, Result, Ok}
use Rattle.octets.specs.Octets.{Bytes}
use Rattle.protocol.specs.Ids.{id_of}
use Rattle.protocol.specs.declared.Kind.TheVariants.{Packets, Stream, Framed, Text}
use Rattle.protocol.specs.declared.Refusal.{Refusal}
use Rattle.protocol.specs.declared.Refusal.TheVariants.{Unknown, Room}
use Rattle.framing.specs.Framing.{ends_line}
use Rattle.text.specs.Line.{refused, line_of}
use Rattle.text.specs.LinePost.{stores_line, Translates}
use Rattle.text.specs.declared.Message.{Message}
use Rattle.text.proofs.LengthLaws.{payload-length}
use Rattle.command.specs.declared.Command.{Command}
use Rattle.command.specs.Commands.{command_of}
use Rattle.wire.specs.Received.{binary, front, last_byte, text_line, decoded_in}
use Rattle.wire.specs.Post.{answer_of, ReadsLine, ReadsIn}
use Rattle.wire.specs.declared.Reading.{Reading}

-- ---- packets and frames

pub binary-nil : (skip : ℕ) (m : Bytes) → length m ≡ 0 → binary skip m ≡ refused Unknown
unfolding binary
binary-nil skip [] h = refl
binary-nil skip (c ∷ m) h = absurd (omega arith)

pub binary-cons : (skip : ℕ) (m : Bytes) (c : Result Command Refusal) → 1 ≤ length m → (p : Bytes)
    → p ≡ drop skip (take (length m - 1) (drop 1 m)) → c ≡ command_of (get_or m 0 0) p
    → Some (record { command = c; len = length p }) ≡ answer_of (binary skip m)
unfolding binary
binary-cons skip [] c h p e f = absurd (omega arith)
binary-cons skip (id ∷ m) c h p e f =
    let k : p ≡ drop skip m = e ∙ ap (drop skip) (take_all (suc (length m) - 1) m (omega arith)) in
    rw (f, k)

-- ---- a line

-- what was stored at the start is there
pub take-sets : (buf p : Bytes) → length p ≤ length buf → take (length p) (sets buf 0 p) ≡ p
take-sets buf p h = rw (sets-eq p buf 0 (omega arith)) (take-append_seam p (drop (0 + length p) buf))

module _ (line buf buf' : Bytes) {stored : Bool} where
  pub line-message : (m : Message) (c : Result Command Refusal) → length line ≤ length buf
      → Translates (line_of line) stored buf (Ok (Some m)) buf'
      → c ≡ command_of (id_of m.id) (take m.len buf')
      → ReadsLine (line_of line) stored buf (Some (record { command = c; len = m.len })) buf'
  line-message m c h w e =
      let p = w.answer.value in
      let b : length p ≤ length buf = omega (arith, payload-length line (id_of m.id) p w.answer.is) in
      let g : buf' ≡ sets buf 0 p = rw w.answer.is at w.held in
      record {
        answer = rw (w.answer.is, e, ← w.answer.count, g, take-sets buf p b);
        held = w.held;
      }

-- ---- text

module _ (m buf : Bytes) where
  -- a message without a line end, which no buffer is asked for
  pub text-long : (r : Reading) → ends_line (last_byte m) ≡ false → Some r ≡ answer_of (refused Room)
      → ReadsIn Text m buf (Ok (Some r)) buf
  unfolding decoded_in text_line
  text-long r e f =
      let k : leb 0 (length buf) ≡ true = le-leb 0 (length buf) (omega arith) in
      record { answer = rw (e, k) (ap Ok f); left = rw (e, k) (record { size = refl; same = λ q. refl }) }

  -- an empty one has none
  pub text-nil : (r : Reading) → length m ≡ 0 → Some r ≡ answer_of (refused Room)
      → ReadsIn Text m buf (Ok (Some r)) buf
  unfolding ends_line
  text-nil r h f = text-long r (none m h) f
    where
      none : (m : Bytes) → length m ≡ 0 → ends_line (last_byte m) ≡ false
      none [] h = refl
      none (c ∷ m) h = absurd (omega arith)

  module _ (n : ℕ) (e : n ≡ length m - 1) (f : ends_line (last_byte m) ≡ true) where
    front_length : length (front m) ≡ n
    front_length = length-take-le (length m - 1) m (omega arith) ∙ sym e

    pub text-line : (r : Option Reading) (buf' : Bytes) → n ≤ length buf
        → ReadsLine (line_of (take n m)) (stores_line (take n m)) buf r buf'
        → ReadsIn Text m buf (Ok r) buf'
    unfolding decoded_in text_line
    text-line r buf' h w =
        let k : leb (length (front m)) (length buf) ≡ true = le-leb (length (front m)) (length buf)
        (omega (arith, front_length)) in
        record { answer = rw (f, k, ← e) (ap Ok w.answer); left = rw (f, k, f, ← e) w.held }

-- ---- by kind

module _ (m buf : Bytes) (r : Reading) where
  room-none : leb 0 (length buf) ≡ true
  room-none = le-leb 0 (length buf) (omega arith)

  pub reads-packets : Some r ≡ answer_of (binary 0 m) → ReadsIn Packets m buf (Ok (Some r)) buf
  unfolding decoded_in
  reads-packets e = record { answer = rw room-none (ap Ok e); left = rw room-none refl }

  pub reads-framed : Some r ≡ answer_of (binary 2 m) → ReadsIn Framed m buf (Ok (Some r)) buf
  unfolding decoded_in
  reads-framed e = record { answer = rw room-none (ap Ok e); left = rw room-none refl }

  pub reads-stream : Some r ≡ answer_of (refused Unknown) → ReadsIn Stream m buf (Ok (Some r)) buf
  unfolding decoded_in
  reads-stream e = record { answer = rw room-none (ap Ok e); left = rw room-none refl }
