-- What the functions on fields ensure. A place in a line is an index; `drop at line` is what stands from there on.
use Rattle.std.specs.Prelude.{◌≡◌, [], ◌∷◌, Bool, true, false, ℕ, ◌+◌, ◌-◌, ◌≤◌, ◌<◌, length, take, drop}
use Rattle.std.specs.Prelude.{Option, None, Some, Result, Ok, Err}
use Rattle.std.proofs.Math.Option.{none, some}
use Rattle.std.proofs.lemmas.List.Edits.{sets}
use Rattle.octets.specs.Octets.{Bytes, has_nul}
use Rattle.text.specs.Fields.{trim, word, after_word, Scan, malformed, scanned, onto, quoted, Field, bytes_of}
use Rattle.text.specs.Fields.{Next, ended, faulty, field, next, fields}
use Rattle.text.specs.declared.fields.Malformed.{Malformed}
use Rattle.text.specs.declared.fields.Mark.{Mark}
use Rattle.text.specs.declared.fields.Mark.TheVariants.{Byte, Close}
use Rattle.text.specs.declared.fields.Field.{Field as Found}

-- r is a place of the line from `at` on
pub record Place (line : Bytes) (at r : ℕ) : Type 0 where
  pub on : at ≤ r
  pub within : r ≤ length line

-- the bytes from `at` to r are spaces, and the one at r is none
pub record Skipped (line : Bytes) (at r : ℕ) : Type 0 where
  pub on : at ≤ r
  pub within : r < length line
  pub is : trim (drop at line) ≡ drop r line

-- the first byte from `at` on that is no space, or none
abbrev pub SkipsTo : Bytes → ℕ → Option ℕ → Type 0
SkipsTo line at None = trim (drop at line) ≡ []
SkipsTo line at (Some r) = Skipped line at r

-- a word runs from `at` to r
pub record Spelled (line : Bytes) (at r : ℕ) : Type 0 where
  pub place : Place line at r
  pub is : word (drop at line) ≡ take (r - at) (drop at line)
  pub rest : after_word (drop at line) ≡ drop r line

-- from i to r, a scan of the line goes on as b
pub record Stepped (line : Bytes) (i r : ℕ) (a b : Scan) : Type 0 where
  pub on : i < r
  pub within : r ≤ length line
  pub is : a ≡ b

-- what stands at i in a string that f reads
abbrev pub CharAt : (Bytes → Scan) → Bytes → ℕ → Result Mark Malformed → Type 0
CharAt f line i (Ok (Byte b r)) = Stepped line i r (f (drop i line)) (onto (some b) (f (drop r line)))
CharAt f line i (Ok (Close r)) = Stepped line i r (f (drop i line)) (scanned [] (drop r line))
CharAt f line i (Err e) = f (drop i line) ≡ malformed

-- the bytes v of a field: n of them, with a NUL or not, stored from `to` on
pub record Stored (v : Bytes) (n : ℕ) (nul : Bool) (buf : Bytes) (to : ℕ) (buf' : Bytes) : Type 0 where
  pub count : length v ≡ n
  pub nuls : nul ≡ has_nul v
  pub held : buf' ≡ sets buf to v

-- x, read from `at` on, is a string of n bytes that runs to r and is stored from `to` on; it is shorter than its text,
-- by its closing quote at least
pub record ScannedAs (x : Scan) (line : Bytes) (at : ℕ) (n r : ℕ) (nul : Bool) (buf : Bytes) (to : ℕ) (buf' : Bytes)
    : Type 0 where
  pub value : Bytes
  pub is : x ≡ scanned value (drop r line)
  pub stored : Stored value n nul buf to buf'
  pub within : r ≤ length line
  pub short : at + n < r

-- x, read from `at` on, by what the code gives; what the buffer holds after a malformed string is open
abbrev pub StringAt : Scan → Bytes → ℕ → Bytes → ℕ → Result Found Malformed → Bytes → Type 0
StringAt x line at buf to (Ok f) buf' = ScannedAs x line at f.len f.next f.nul buf to buf'
StringAt x line at buf to (Err e) buf' = x ≡ malformed

-- a quoted string from behind its opening quote
abbrev pub ScannedAt : Bytes → ℕ → Bytes → ℕ → Result Found Malformed → Bytes → Type 0
ScannedAt line at = StringAt (quoted (drop at line)) line at

-- a field of n bytes runs to r
pub record FoundAs (line : Bytes) (at : ℕ) (n r : ℕ) (nul : Bool) (buf : Bytes) (to : ℕ) (buf' : Bytes) : Type 0 where
  pub value : Field
  pub is : next (drop at line) ≡ field value (drop r line)
  pub stored : Stored (bytes_of value) n nul buf to buf'
  pub within : r ≤ length line
  pub short : at + n ≤ r

-- the next field from `at` on
abbrev pub FoundAt : Bytes → ℕ → Bytes → ℕ → Result (Option Found) Malformed → Bytes → Type 0
FoundAt line at buf to (Ok None) buf' = (next (drop at line) ≡ ended) × (buf' ≡ buf)
FoundAt line at buf to (Ok (Some f)) buf' = FoundAs line at f.len f.next f.nul buf to buf'
FoundAt line at buf to (Err e) buf' = next (drop at line) ≡ faulty

-- whether no field comes
abbrev pub is_ended : Next → Bool
is_ended ended = true
is_ended faulty = false
is_ended (field x rest) = false

-- that no field comes from `at` on
abbrev pub EndedAt : Bytes → ℕ → Result Unit Malformed → Type 0
EndedAt line at (Ok u) = is_ended (next (drop at line)) ≡ true
EndedAt line at (Err e) = is_ended (next (drop at line)) ≡ false

-- a field of n bytes comes, and no other
pub record LastAs (line : Bytes) (at n : ℕ) (buf : Bytes) (to : ℕ) (buf' : Bytes) : Type 0 where
  pub value : Field
  pub is : fields 1 (drop at line) ≡ some (value ∷ [])
  pub count : length (bytes_of value) ≡ n
  pub held : buf' ≡ sets buf to (bytes_of value)
  pub short : at + n ≤ length line

-- the last field, from `at` on
abbrev pub LastAt : Bytes → ℕ → Bytes → ℕ → Result (Option ℕ) Malformed → Bytes → Type 0
LastAt line at buf to (Ok None) buf' = (next (drop at line) ≡ ended) × (buf' ≡ buf)
LastAt line at buf to (Ok (Some n)) buf' = LastAs line at n buf to buf'
LastAt line at buf to (Err e) buf' = fields 1 (drop at line) ≡ none
