-- The reader of server messages (request P1): the first message of an input as ID and payload, in packets, framed
-- bytes or text. Refusals in their order: 8 for a form above 2, 1 for a message not yet whole, 100, 101, 102, 5;
-- each leaves the out slice as it was.
-- A stream whose kind is not fixed has no form of its own; the definitions read it as frames, as the writer does.
-- Numbers: 10 LF.
use Rattle.std.specs.Prelude.{[], ◌∷◌, cond, ℕ, ◌+◌, ◌-◌, eqb, leb, ltb, length, take, drop}
use Rattle.std.proofs.Math.Option.{Option, some, none}
use Rattle.std.proofs.lemmas.List.Edits.{sets}
use Rattle.octets.specs.Octets.{Bytes}
use Rattle.protocol.specs.declared.Kind.{Kind}
use Rattle.protocol.specs.declared.Kind.TheVariants.{Packets, Stream, Framed, Text}
use Rattle.protocol.specs.declared.Refusal.TheVariants.{Unknown, Parameter}
use Rattle.protocol.specs.Terms.{number}
use Rattle.framing.specs.Framing.{frame_length}
use Rattle.message.specs.Rows.{Row}
use Rattle.server_text.specs.Fields.{suits}
use Rattle.server_text.specs.Lines.{Decoded, refused, message, server_rows, row_with, decoded_line}
use Rattle.wire.specs.Received.{is_whole}

-- the kind of a form: 0 packets, 1 framed bytes, 2 text
unfoldable pub kind_of_form : ℕ → Option Kind
kind_of_form f = cond (eqb f 0) (some Packets) (cond (eqb f 1) (some Framed) (cond (eqb f 2) (some Text) none))

-- ---- the first message of an input

-- the index of the first LF, or the length where none is
unfoldable pub first_lf : Bytes → ℕ
first_lf [] = 0
first_lf (c ∷ s) = cond (eqb c 10) 0 (first_lf s + 1)

-- a line with its LF, however long; 0 where it is not whole yet
unfoldable pub lf_length : Bytes → ℕ
lf_length s = cond (ltb (first_lf s) (length s)) (first_lf s + 1) 0

-- the length of the first message: a packet is all of its input
unfoldable pub length_in : Kind → Bytes → ℕ
length_in Packets s = length s
length_in Stream s = frame_length s
length_in Framed s = frame_length s
length_in Text s = lf_length s

-- the first message
abbrev pub first_message : Kind → Bytes → Bytes
first_message k s = take (length_in k s) s

-- ---- what a whole message is

-- only the IDs of server messages, and a number needs its byte
abbrev pub of_binary : Option Row → Bytes → Decoded
of_binary none p = refused Unknown
of_binary (some r) p = cond (suits r.shape p) (message r.id p) (refused Parameter)

-- an ID, and the payload that begins `skip` bytes behind it; without an ID it is an unknown message
unfoldable pub decoded_binary : ℕ → Bytes → Decoded
decoded_binary skip [] = refused Unknown
decoded_binary skip (id ∷ rest) = of_binary (row_with id server_rows) (drop skip rest)

-- a whole message of a kind: a frame has two bytes of length behind its ID, a line its LF at the end
unfoldable pub message_in : Kind → Bytes → Decoded
message_in Packets m = decoded_binary 0 m
message_in Stream m = decoded_binary 2 m
message_in Framed m = decoded_binary 2 m
message_in Text m = decoded_line (take (length m - 1) m)

-- ---- answers

-- what a read gives back and leaves: document 01's number, the bytes consumed, the bytes written, the out slice
pub record Result : Type 0 where
  pub answer : ℕ
  pub consumed : ℕ
  pub written : ℕ
  pub out : Bytes

abbrev pub read_of : ℕ → ℕ → ℕ → Bytes → Result
read_of a n w o = record { answer = a; consumed = n; written = w; out = o }

-- a message of n bytes, read into the slice o: a refusal consumes it; else 102 for a payload over 65,535 bytes, which
-- consumes it too, then 5 where o is shorter than ID and payload
abbrev pub read_decoded : ℕ → Decoded → Bytes → Result
read_decoded n (refused r) o = read_of (number r) n 0 o
read_decoded n (message id p) o =
    cond (leb (length p) 65535)
    (cond (leb (length p + 1) (length o)) (read_of 0 n (length p + 1) (sets o 0 (id ∷ p))) (read_of 5 0 0 o))
    (read_of 102 n 0 o)

-- the first message of an input in a kind, read into the slice o; 1 where it is not whole yet
unfoldable pub read_in : Kind → Bytes → Bytes → Result
read_in k s o =
    cond (is_whole k (length_in k s)) (read_decoded (length_in k s) (message_in k (first_message k s)) o) (read_of 1 0 0 o)

-- the same by form, where there is one
abbrev pub read_by : Option Kind → Bytes → Bytes → Result
read_by none s o = read_of 8 0 0 o
read_by (some k) s o = read_in k s o

-- the first message of an input in a form, read into the slice o
unfoldable pub read_message : ℕ → Bytes → Bytes → Result
read_message f s o = read_by (kind_of_form f) s o
