-- What the functions on payloads ensure. A place in a line is an index; `drop at line` is what stands from there on.
use Rattle.std.specs.Prelude.{◌≡◌, List, [], ◌∷◌, Bool, false, cond, not, ◌||◌, ℕ, ◌+◌, ◌≤◌, eqb, length, drop}
use Rattle.std.specs.Prelude.{None, Some, Result, Ok, Err}
use Rattle.std.specs.Prelude as Code
use Rattle.std.proofs.Math.Option.{Option, none, some}
use Rattle.std.proofs.lemmas.List.Edits.{sets}
use Rattle.octets.specs.Octets.{Bytes}
use Rattle.octets.specs.Options.{is_some}
use Rattle.text.specs.Fields.{Field, bytes_of}
use Rattle.text.specs.Fields.{Next, ended, faulty, field, next}
use Rattle.text.specs.FieldPost.{is_ended}
use Rattle.text.specs.Line.{payload_of}
use Rattle.text.specs.Payload.{by_count, not_two, version, hello_payload}
use Rattle.text.specs.declared.fields.Malformed.{Malformed}
use Rattle.text.specs.declared.payloads.Version.{Version}

-- a version n runs to r
pub record VersionAs (line : Bytes) (at n r : ℕ) : Type 0 where
  pub value : Field
  pub is : next (drop at line) ≡ field value (drop r line)
  pub number : version value ≡ some n
  pub within : r ≤ length line

-- the version from `at` on
abbrev pub VersionAt : Bytes → ℕ → Result (Code.Option Version) Malformed → Type 0
VersionAt line at (Ok None) = next (drop at line) ≡ ended
VersionAt line at (Ok (Some v)) = VersionAs line at v.number v.next
VersionAt line at (Err e) = payload_of hello_payload (drop at line) ≡ none

-- the payload, or the part of one, is there, and stands in the buffer from `to` on: n bytes, at most `most`
pub record BuildsAs (p : Option (Bytes)) (most : ℕ) (buf : Bytes) (to n : ℕ) (buf' : Bytes) : Type 0 where
  pub value : Bytes
  pub is : p ≡ some value
  pub count : length value ≡ n
  pub held : buf' ≡ sets buf to value
  pub short : n ≤ most

-- there is no payload; the buffer is as it was where no byte can have been stored, and else it is open
pub record Fails (p : Option (Bytes)) (stored : Bool) (buf buf' : Bytes) : Type 0 where
  pub is : p ≡ none
  pub same : stored ≡ false → buf' ≡ buf

-- the same by what the code gives
abbrev pub Builds : Option (Bytes) → Bool → ℕ → Bytes → ℕ → Result ℕ Malformed → Bytes → Type 0
Builds p stored most buf to (Ok n) buf' = BuildsAs p most buf to n buf'
Builds p stored most buf to (Err e) buf' = Fails p stored buf buf'

-- the payload that h makes of the fields from `at` on, which is at most a byte longer than the line; f tells by what
-- comes next whether a byte can have been stored where there is none
abbrev pub BuildsLine : (List Field → Option Bytes) → (Next → Bool) → Bytes → ℕ → Bytes → Result ℕ Malformed → Bytes
    → Type 0
BuildsLine h f line at buf r buf' =
    Builds (payload_of h (drop at line)) (f (next (drop at line))) (length line + 1) buf 0 r buf'

-- ---- whether fields that are refused can have stored a byte

-- whether a field comes, be it malformed
abbrev pub has_field : Next → Bool
has_field x = not (is_ended x)

-- whether a version comes
abbrev pub has_version : Next → Bool
has_version ended = false
has_version faulty = false
has_version (field x rest) = is_some (version x)

-- whether the fields of the command with this ID, where they are refused, can have stored a byte: HELLO's where a
-- version comes, BEGIN's and COMMIT's never, every other one's where a field comes
unfoldable pub stores : ℕ → Next → Bool
stores id x = cond (eqb id 0) (has_version x) (cond (eqb id 5 || eqb id 6) false (has_field x))

-- ---- payloads in parts

-- what follows the key in a WRITE's payload
abbrev pub value_payload : List Field → Option (Bytes)
value_payload = by_count (some []) (λ v. some (0 ∷ bytes_of v)) not_two
