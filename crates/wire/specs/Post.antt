-- What the functions of the wire ensure.
use Rattle.std.specs.Prelude.{◌≡◌, Bool, true, false, cond, ◌&&◌, ℕ, leb, length, take, drop}
use Rattle.std.specs.Prelude.{Option, None, Some, Result, Ok, Err}
use Rattle.octets.specs.Octets.{Bytes}
use Rattle.protocol.specs.declared.Kind.{Kind}
use Rattle.protocol.specs.declared.Kind.TheVariants.{Packets, Stream, Framed, Text}
use Rattle.framing.specs.Framing.{kind_of, ends_line}
use Rattle.text.specs.Line.{Line, blank, refused, message}
use Rattle.text.specs.LinePost.{stores_line, Held}
use Rattle.command.specs.Commands.{command_of}
use Rattle.wire.specs.Received.{front, last_byte, decoded_in}
use Rattle.wire.specs.declared.Reading.{Reading}
use Rattle.wire.specs.declared.ShortBuffer.{ShortBuffer}

-- what is answered for a decoded message, with the length of its payload
abbrev pub answer_of : Line → Option Reading
answer_of blank = None
answer_of (refused r) = Some (record { command = Err r; len = 0 })
answer_of (message id p) = Some (record { command = command_of id p; len = length p })

-- what is answered where the buffer is too short
abbrev pub short : Result (Option Reading) ShortBuffer
short = Err (record {})

-- how many bytes of the buffer a message asks for: a text line its length without the ending byte, every other none
abbrev pub room_in : Kind → Bytes → ℕ
room_in Packets m = 0
room_in Stream m = 0
room_in Framed m = 0
room_in Text m = cond (ends_line (last_byte m)) (length (front m)) 0

-- whether a refused text message can have stored a byte; an over-long line, which has no ending byte, stores none
abbrev pub stores_text : Bytes → Bool
stores_text m = ends_line (last_byte m) && stores_line (front m)

-- what the buffer holds after a message that it has room for: packets and frames leave it as it was, and text leaves
-- what its line does
abbrev pub LeftIn : Kind → Bytes → Line → Bytes → Bytes → Type 0
LeftIn Packets m l buf buf' = buf' ≡ buf
LeftIn Stream m l buf buf' = buf' ≡ buf
LeftIn Framed m l buf buf' = buf' ≡ buf
LeftIn Text m l buf buf' = Held l (stores_text m) buf buf'

-- the same by whether it has room
abbrev pub Left : Bool → Kind → Bytes → Line → Bytes → Bytes → Type 0
Left true k m l buf buf' = LeftIn k m l buf buf'
Left false k m l buf buf' = buf' ≡ buf

-- a line is answered, and what the buffer then holds
pub record ReadsLine (l : Line) (stored : Bool) (buf : Bytes) (r : Option Reading) (buf' : Bytes) : Type 0 where
  pub answer : r ≡ answer_of l
  pub held : Held l stored buf buf'

-- a message of a kind is answered; a buffer without room for it is answered so and stays as it is
pub record ReadsIn (k : Kind) (m buf : Bytes) (r : Result (Option Reading) ShortBuffer) (buf' : Bytes) : Type 0 where
  pub answer : r ≡ cond (leb (room_in k m) (length buf)) (Ok (answer_of (decoded_in k m))) short
  pub left : Left (leb (room_in k m) (length buf)) k m (decoded_in k m) buf buf'

-- the same, where the first byte of a stream decides
abbrev pub Reads : Kind → Bytes → Bytes → Result (Option Reading) ShortBuffer → Bytes → Type 0
Reads k m buf r buf' = ReadsIn (kind_of k m) m buf r buf'

-- the n bytes of a payload: a part of the message, and of the buffer for text
unfoldable pub payload_in : Kind → Bytes → Bytes → ℕ → Bytes
payload_in Packets m buf n = take n (drop 1 m)
payload_in Stream m buf n = take n (drop 1 m)
payload_in Framed m buf n = take n (drop 3 m)
payload_in Text m buf n = take n buf

-- the same, where the first byte of a stream decides
abbrev pub payload_part : Kind → Bytes → Bytes → ℕ → Bytes
payload_part k m buf n = payload_in (kind_of k m) m buf n
