-- What the functions of this crate ensure. A place in a line is an index; `drop at line` is what stands from there
-- on.
use Rattle.std.specs.Prelude.{◌≡◌, ◌∷◌, true, ℕ, ◌-◌, ◌≤◌, ◌<◌, Result, Ok, Err, length, take, drop, get_or}
use Rattle.std.proofs.Math.Option.{Option, none, some}
use Rattle.std.proofs.lemmas.List.Edits.{sets}
use Rattle.octets.specs.Octets.{Bytes}
use Rattle.protocol.specs.declared.Refusal.{Refusal}
use Rattle.message.specs.Quoting.{is_escaped, escaped}
use Rattle.text.specs.FieldPost.{Place}
use Rattle.text.specs.declared.fields.Malformed.{Malformed}
use Rattle.server_text.specs.Lines.{Decoded, refused, message}
use Rattle.server_text.specs.declared.Message.{Message}

-- ---- strings

-- no byte from `at` to r is one that a string escapes, and the one at r is, if there is one
pub record RawTo (line : Bytes) (at r : ℕ) : Type 0 where
  pub place : Place line at r
  pub raw : escaped (take (r - at) (drop at line)) ≡ 0
  pub ends : r < length line → is_escaped (get_or line r 0) ≡ true

-- the same, and those bytes stand in the buffer from `to` on
pub record CopiedTo (line : Bytes) (at r : ℕ) (buf : Bytes) (to : ℕ) (buf' : Bytes) : Type 0 where
  pub run : RawTo line at r
  pub held : buf' ≡ sets buf to (take (r - at) (drop at line))

-- ---- fields

-- the payload p is there and stands in the buffer from `to` on: n bytes, at most `most`
pub record BuildsAs (p : Option Bytes) (most : ℕ) (buf : Bytes) (to n : ℕ) (buf' : Bytes) : Type 0 where
  pub value : Bytes
  pub is : p ≡ some value
  pub count : length value ≡ n
  pub held : buf' ≡ sets buf to value
  pub short : n ≤ most

-- the same by what the code gives; what the buffer holds after faulty fields is open
abbrev pub Builds : Option Bytes → ℕ → Bytes → ℕ → Result ℕ Malformed → Bytes → Type 0
Builds p most buf to (Ok n) buf' = BuildsAs p most buf to n buf'
Builds p most buf to (Err e) buf' = p ≡ none

-- ---- lines

-- what is answered for a line
abbrev pub answer_of : Decoded → Result Message Refusal
answer_of (refused r) = Err r
answer_of (message id p) = Ok (record { id = id; len = length p })

-- a message's ID and payload stand at the start of the slice, as far as that goes; after a refusal what the slice
-- holds is open
abbrev pub Held : Decoded → Bytes → Bytes → Type 0
Held (refused r) buf buf' = length buf' ≡ length buf
Held (message id p) buf buf' = buf' ≡ sets buf 0 (id ∷ p)

-- the answer for a line, and what the slice then holds
pub record Translates (l : Decoded) (buf : Bytes) (r : Result Message Refusal) (buf' : Bytes) : Type 0 where
  pub answer : r ≡ answer_of l
  pub held : Held l buf buf'
