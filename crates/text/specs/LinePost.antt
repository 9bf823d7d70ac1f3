-- What the translation of a line ensures.
use Rattle.std.specs.Prelude.{◌≡◌, Bool, false, ℕ, None, Some, Result, Ok, Err, length}
use Rattle.std.specs.Prelude as Code
use Rattle.std.proofs.Math.Option.{Option, none, some}
use Rattle.std.proofs.lemmas.List.Edits.{sets}
use Rattle.octets.specs.Octets.{Bytes}
use Rattle.protocol.specs.declared.Refusal.{Refusal}
use Rattle.protocol.specs.Ids as Ids
use Rattle.words.specs.Words.{id_of}
use Rattle.text.specs.Fields.{trim, word, after_word, next}
use Rattle.text.specs.Line.{Line, blank, refused, message}
use Rattle.text.specs.PayloadPost.{stores}
use Rattle.text.specs.declared.Message.{Message}

-- the line is the message m
pub record IsMessage (l : Line) (m : Message) : Type 0 where
  pub value : Bytes
  pub is : l ≡ message (Ids.id_of m.id) value
  pub count : length value ≡ m.len

-- what is answered for a line
abbrev pub Answers : Line → Result (Code.Option Message) Refusal → Type 0
Answers l (Ok None) = l ≡ blank
Answers l (Ok (Some m)) = IsMessage l m
Answers l (Err r) = l ≡ refused r

-- whether a refused command can have stored a byte; an unknown word is refused before its fields are looked at
abbrev pub stores_for : Option ℕ → Bytes → Bool
stores_for none s = false
stores_for (some id) s = stores id (next s)

-- the same of a refused line
unfoldable pub stores_line : Bytes → Bool
stores_line s = stores_for (id_of (word (trim s))) (after_word (trim s))

-- the buffer after a refusal: as it was where no byte can have been stored; else all but its length is open
pub record Kept (stored : Bool) (buf buf' : Bytes) : Type 0 where
  pub size : length buf' ≡ length buf
  pub same : stored ≡ false → buf' ≡ buf

-- the buffer after a line: a message's payload stands at its start, as far as it goes
abbrev pub Held : Line → Bool → Bytes → Bytes → Type 0
Held blank stored buf buf' = buf' ≡ buf
Held (refused r) stored buf buf' = Kept stored buf buf'
Held (message id p) stored buf buf' = buf' ≡ sets buf 0 p

-- the answer for a line, and what the buffer then holds
pub record Translates (l : Line) (stored : Bool) (buf : Bytes) (r : Result (Code.Option Message) Refusal) (buf' : Bytes)
    : Type 0 where
  pub answer : Answers l r
  pub held : Held l stored buf buf'
