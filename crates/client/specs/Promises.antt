-- What the functions of this crate ensure.
use Rattle.std.specs.Prelude.{◌≡◌, true, false, cond, ℕ, ◌≤◌, ◌<◌, ltb, length, Result, Ok, Err}
use Rattle.std.proofs.Math.Option.{Option, some, none}
use Rattle.octets.specs.Octets.{Bytes}
use Rattle.protocol.specs.declared.Kind.{Kind}
use Rattle.protocol.specs.declared.Refusal.{Refusal}
use Rattle.protocol.specs.declared.Refusal.TheVariants.{Parameter, Room}
use Rattle.protocol.specs.declared.command_id.CommandId.{CommandId}
use Rattle.protocol.specs.declared.failure.Failure.{Failure}
use Rattle.protocol.specs.declared.failure.Failure.TheVariants.{Range}
use Rattle.protocol.specs.Ids.{id_of}
use Rattle.protocol.specs.Outcome.{failure_number, consumed_by}
use Rattle.command.specs.Refusals.{verdict}
use Rattle.message.specs.declared.Shape.TheVariants.{Numbered}
use Rattle.server_text.specs.Fields.{suits}
use Rattle.server_text.specs.Lines.{Decoded, refused, message}
use Rattle.client.specs.declared.reading.Read.{Read}
use Rattle.client.specs.Reading.{kind_of_form, read_of, read_decoded}
use Rattle.client.specs.Reading as Reading

-- ---- what a read gives back

-- the answer of a read: document 01's number
abbrev pub read_answer : Result Read Failure → ℕ
read_answer (Ok r) = 0
read_answer (Err f) = failure_number f

-- the bytes that it consumed
abbrev pub read_consumed : Result Read Failure → ℕ
read_consumed (Ok r) = r.consumed
read_consumed (Err f) = consumed_by f

-- the bytes that it wrote
abbrev pub read_written : Result Read Failure → ℕ
read_written (Ok r) = r.written
read_written (Err f) = 0

-- the three, and the out slice
abbrev pub read_back : Result Read Failure → Bytes → Reading.Result
read_back r o = read_of (read_answer r) (read_consumed r) (read_written r) o

-- ---- forms

-- the kind of a form, or that there is no such form
abbrev pub KindOf : ℕ → Result Kind Failure → Type 0
KindOf f (Ok k) = kind_of_form f ≡ some k
KindOf f (Err e) = (kind_of_form f ≡ none) × (e ≡ Range)

-- ---- reading

-- what the code finds of an ID and a payload
abbrev pub judged_as : Result Unit Refusal → ℕ → Bytes → Decoded
judged_as (Ok u) id p = message id p
judged_as (Err r) id p = refused r

-- a payload begins with a number, or is refused
abbrev pub Begun : Bytes → Result Unit Refusal → Type 0
Begun p (Ok u) = suits Numbered p ≡ true
Begun p (Err r) = (suits Numbered p ≡ false) × (r ≡ Parameter)

-- a message of n bytes with a payload of `len` may be written to an out slice of `size` bytes; or why not, as the
-- reader answers it
abbrev pub HasRoom : ℕ → ℕ → ℕ → Result Unit Failure → Type 0
HasRoom len n size (Ok u) = (len ≤ 65535) × (len < size)
HasRoom len n size (Err f) = (id : ℕ) (p o : Bytes) → length p ≡ len → length o ≡ size
    → read_of (failure_number f) (consumed_by f) 0 o ≡ read_decoded n (message id p) o

-- a line that is a message with a payload of n bytes
pub record Measured (l : Decoded) (n : ℕ) : Type 0 where
  pub id : ℕ
  pub value : Bytes
  pub is : l ≡ message id value
  pub count : length value ≡ n

-- a line that was measured: the length of its payload, or why it is refused
abbrev pub Measures : Decoded → Result ℕ Refusal → Type 0
Measures l (Ok n) = Measured l n
Measures l (Err r) = l ≡ refused r

-- ---- writing

-- the verdict on a payload of which only the length can be wrong
abbrev pub too_long : Bytes → Option Refusal
too_long p = cond (ltb 65535 (length p)) (some Room) none

-- why something is refused, where it is
abbrev pub refusal_in : Result Unit Refusal → Option Refusal
refusal_in (Ok u) = none
refusal_in (Err r) = some r

-- an ID and a payload are a command that is not refused, or why it is
abbrev pub Judged : ℕ → Bytes → Result CommandId Refusal → Type 0
Judged n p (Ok c) = (id_of c ≡ n) × (verdict n p ≡ none)
Judged n p (Err r) = verdict n p ≡ some r
