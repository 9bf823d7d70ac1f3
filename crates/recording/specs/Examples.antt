-- Worked examples of this crate's definitions, by computation, refusals included.
use Rattle.std.specs.Prelude.{◌≡◌, refl, List, [], ◌∷◌, Bool, true, false, ℕ}
use Rattle.std.proofs.Math.Option.{Option, some, none}
use Rattle.octets.specs.Octets.{Bytes, ascii, first_nul}
use Rattle.octets.specs.Order.{same}
use Rattle.octets.specs.Number.{digits, number, number_at, big_endian}
use Rattle.protocol.specs.Terms.{write, ping, payload, value_tail}
use Rattle.model.specs.State.{off, begun, spoiled}
use Rattle.recording.specs.Encoding.{value_behind, write_from, action_of, action_fine, row_of, row_size, row_payload}
use Rattle.recording.specs.Encoding.{action_at, row_fine, actions_from, rows_fine}
use Rattle.recording.specs.Region.{state_of, used_of, count_of, rows_of, recorded, transaction_in, transaction_of}
use Rattle.recording.specs.Region.{sized, state_fine, recording_fine}
use Rattle.recording.specs.Turn.{body_for, last_body, value_in, actions_before, earlier, body_at_turn}

-- ---- a WRITE: no NUL deletes, an empty value is a value, and a value may hold NULs

write-deletes : action_of 4 (ascii "k") ≡ write (ascii "k") none
unfolding action_of write_from value_behind first_nul ascii
write-deletes = refl

write-empty : action_of 4 (107 ∷ 0 ∷ []) ≡ write (ascii "k") (some [])
unfolding action_of write_from value_behind first_nul ascii
write-empty = refl

write-nuls : action_of 4 (107 ∷ 0 ∷ 0 ∷ 1 ∷ []) ≡ write (ascii "k") (some (0 ∷ 1 ∷ []))
unfolding action_of write_from value_behind first_nul ascii
write-nuls = refl

-- ---- which actions can be recorded: not BEGIN or COMMIT, a pattern of 255 bytes and no longer

begin-unknown : action_fine 5 0 ≡ false
unfolding action_fine
begin-unknown = refl

commit-unknown : action_fine 6 0 ≡ false
unfolding action_fine
commit-unknown = refl

pattern-longest : action_fine 1 255 ≡ true
unfolding action_fine
pattern-longest = refl

pattern-too-long : action_fine 2 256 ≡ false
unfolding action_fine
pattern-too-long = refl

payload-longest : action_fine 4 65535 ≡ true
unfolding action_fine
payload-longest = refl

payload-too-long : action_fine 7 65536 ≡ false
unfolding action_fine
payload-too-long = refl

-- ---- a region with 20 bytes of room: WRITE k, then WRITE k v, then PING x; its last 3 bytes are free

rows-three : Bytes
rows-three = 4 ∷ 0 ∷ 0 ∷ 1 ∷ 107 ∷ 4 ∷ 0 ∷ 0 ∷ 3 ∷ 107 ∷ 0 ∷ 118 ∷ 7 ∷ 0 ∷ 0 ∷ 1 ∷ 120 ∷ 9 ∷ 9 ∷ 9 ∷ []

region : ℕ → ℕ → ℕ → Bytes
region state used n = 0 ∷ 0 ∷ 0 ∷ state ∷ 0 ∷ 0 ∷ 0 ∷ used ∷ 0 ∷ 0 ∷ 0 ∷ n ∷ rows-three

row_first : row_of 4 (ascii "k") ≡ 4 ∷ 0 ∷ 0 ∷ 1 ∷ 107 ∷ []
unfolding row_of big_endian ascii
row_first = refl

recorded-three : transaction_of (region 1 17 3)
    ≡ begun (write (ascii "k") none ∷ write (ascii "k") (some (ascii "v")) ∷ ping (ascii "x") ∷ [])
unfolding region rows-three transaction_in recorded state_of used_of count_of rows_of number_at number digits
    actions_from action_at row_payload row_size action_of write_from value_behind first_nul ascii
recorded-three = refl

not-recording : transaction_of (region 0 0 0) ≡ off
unfolding region rows-three transaction_in state_of number_at number digits
not-recording = refl

spoiled-one : transaction_of (region 2 0 0) ≡ spoiled
unfolding region rows-three transaction_in state_of number_at number digits
spoiled-one = refl

-- whole, none, empty and spoiled recordings are fine; a row cut short, a row too many, an unknown state, actions in
-- states 0 and 2, used bytes in state 2, and used bytes past the room are not
rules : List Bool
rules =
    recording_fine (region 1 17 3)
    ∷ recording_fine (region 0 0 0)
    ∷ recording_fine (region 1 0 0)
    ∷ recording_fine (region 2 0 0)
    ∷ recording_fine (region 1 16 3)
    ∷ recording_fine (region 1 17 2)
    ∷ recording_fine (region 3 0 0)
    ∷ recording_fine (region 2 17 3)
    ∷ recording_fine (region 2 5 0)
    ∷ recording_fine (region 0 17 3)
    ∷ recording_fine (region 1 21 3)
    ∷ []

rules-hold : rules
    ≡ true ∷ true ∷ true ∷ true ∷ false ∷ false ∷ false ∷ false ∷ false ∷ false ∷ false ∷ []
unfolding rules region rows-three recording_fine sized state_fine state_of used_of count_of rows_of number_at number digits
    rows_fine row_fine row_size action_fine
rules-hold = refl

-- ---- the look-up at offsets 0, 5 and 12, where the store has k with the value s: no WRITE yet, deleted, written

turns : List Bytes
turns =
    body_at_turn (ascii "k") (region 1 17 3) 0 (107 ∷ 0 ∷ 115 ∷ [])
    ∷ body_at_turn (ascii "k") (region 1 17 3) 5 (107 ∷ 0 ∷ 115 ∷ [])
    ∷ body_at_turn (ascii "k") (region 1 17 3) 12 (107 ∷ 0 ∷ 115 ∷ [])
    ∷ []

turns-find : turns ≡ (107 ∷ 0 ∷ 115 ∷ []) ∷ (107 ∷ []) ∷ (107 ∷ 0 ∷ 118 ∷ []) ∷ []
unfolding turns region rows-three earlier actions_before last_body body_for payload value_tail same count_of used_of rows_of
    number_at number digits action_at row_payload row_size action_of write_from value_behind first_nul ascii
turns-find = refl

-- a body's value: none for the key alone and for nothing, the empty value behind the NUL
values : List (Option Bytes)
values = value_in (ascii "k") [] ∷ value_in (ascii "k") (ascii "k") ∷ value_in (ascii "k") (107 ∷ 0 ∷ []) ∷ []

values-are : values ≡ none ∷ none ∷ some [] ∷ []
unfolding values value_in ascii
values-are = refl
