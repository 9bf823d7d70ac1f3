-- What the functions of this crate ask and ensure.
use Rattle.std.specs.Prelude.{ℕ, ◌≤◌, ◌≡◌, [], ◌∷◌, ◌++◌, Bool, true, length, drop}
use Rattle.std.proofs.lemmas.List.Edits.{sets}
use Rattle.octets.specs.Octets.{Bytes}
use Rattle.octets.specs.Number.{big_endian}
use Rattle.protocol.specs.Terms.{Action, payload}
use Rattle.model.specs.State.{begun, Transaction, recording_fits}
use Rattle.recording.specs.Encoding.{action_of, action_fine, row_size, row_fine}
use Rattle.recording.specs.Region.{used_of, rows_of, room_of, recorded, transaction_of, recording_fine}

-- an operation on the region r leaves r': a fine region of the same length that means m
pub record Becomes (m : Transaction) (r r' : Bytes) : Type 0 where
  pub fine : recording_fine r' ≡ true
  pub size : length r' ≡ length r
  pub holds : transaction_of r' ≡ m

-- what is recorded, and then the action of this ID and payload
abbrev pub extended : Bytes → ℕ → Bytes → Transaction
extended r id p = begun (recorded r ++ (action_of id p ∷ []))

-- the region with the three numbers in front written
unfoldable pub headed : Bytes → ℕ → ℕ → ℕ → Bytes
headed r state used n = sets (sets (sets r 0 (big_endian 4 state)) 4 (big_endian 4 used)) 8 (big_endian 4 n)

-- whether an action with a payload of n bytes fits behind those recorded
pub record Fits (r : Bytes) (n : ℕ) (b : Bool) : Type 0 where
  pub value : (a : Action) → length (payload a) ≡ n → b ≡ recording_fits (room_of r) (recorded r ++ (a ∷ []))

-- an action with this ID and payload can be added to what is recorded
pub record Addable (r : Bytes) (id : ℕ) (p : Bytes) : Type 0 where
  pub fine : recording_fine r ≡ true
  pub known : action_fine id (length p) ≡ true
  pub fits : recording_fits (room_of r) (recorded r ++ (action_of id p ∷ [])) ≡ true

-- a whole row of an action stands in front, and the rest behind it
pub record Passed (s behind : Bytes) : Type 0 where
  pub fine : row_fine s ≡ true
  pub rest : behind ≡ drop (row_size s) s

-- a row of the recording begins at an offset of the room
pub record RowAt (r : Bytes) (at : ℕ) : Type 0 where
  pub fine : recording_fine r ≡ true
  pub here : row_fine (drop at (rows_of r)) ≡ true

-- an offset of the room that is not past the rows
pub record Until (r : Bytes) (until : ℕ) : Type 0 where
  pub fine : recording_fine r ≡ true
  pub within : until ≤ used_of r
