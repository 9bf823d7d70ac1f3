-- Queues computed: rows and taking, also from bytes that no message was queued to, and a step's messages, all or none.
use Rattle.std.specs.Prelude.{◌≡◌, refl, [], ◌∷◌, ◌++◌, map, true, false, ℕ, replicate}
use Rattle.octets.specs.Octets.{Bytes, ascii}
use Rattle.octets.specs.Number.{digits, number, number_at, big_endian}
use Rattle.protocol.specs.Terms.{pong, message_payload}
use Rattle.protocol.specs.declared.Kind.TheVariants.{Framed}
use Rattle.message.specs.Rows.{row_in, row_of}
use Rattle.message.specs.Forms.{form, encoded, written}
use Rattle.queue.specs.Rows.{row, rows, first_length, first_message, behind_first}
use Rattle.queue.specs.Meaning.{kept, overflown, fits, owed, owed_all}
use Rattle.queue.specs.Region.{pending_of, queue_fine}

-- two messages: PONG of an x, framed, and an empty one
abbrev two : Bytes
two = 0 ∷ 0 ∷ 0 ∷ 4 ∷ 130 ∷ 0 ∷ 1 ∷ 120 ∷ 0 ∷ 0 ∷ 0 ∷ 0 ∷ []

rows-two : rows (written Framed (pong (ascii "x")) ∷ [] ∷ []) ≡ two
unfolding ascii message_payload row_in row_of form encoded written big_endian row rows
rows-two = refl

-- taking from them, from a length that passes the end, from three bytes and from none
taken-first : map first_message (two ∷ (0 ∷ 0 ∷ 1 ∷ 0 ∷ 7 ∷ 8 ∷ []) ∷ (1 ∷ 2 ∷ 3 ∷ []) ∷ [] ∷ [])
    ≡ (130 ∷ 0 ∷ 1 ∷ 120 ∷ []) ∷ (7 ∷ 8 ∷ []) ∷ [] ∷ [] ∷ []
unfolding digits number number_at first_length first_message
taken-first = refl

taken-behind : map behind_first (two ∷ (0 ∷ 0 ∷ 1 ∷ 0 ∷ 7 ∷ 8 ∷ []) ∷ (1 ∷ 2 ∷ 3 ∷ []) ∷ [] ∷ [])
    ≡ (0 ∷ 0 ∷ 0 ∷ 0 ∷ []) ∷ [] ∷ [] ∷ [] ∷ []
unfolding digits number number_at first_length behind_first
taken-behind = refl

-- with Q 80, 16 bytes can be used: 12 of a message and 4 of its charge fit, 13 do not
owed-edge : map (owed 80 [] (kept [])) (replicate 12 7 ∷ replicate 13 7 ∷ [])
    ≡ kept (0 ∷ 0 ∷ 0 ∷ 12 ∷ replicate 12 7) ∷ overflown ∷ []
unfolding big_endian row fits owed
owed-edge = refl

-- five bytes queued leave eleven: two messages of one byte fit, one of eight does not, and nothing behind it is kept
owed-steps : map (owed_all 80 (0 ∷ 0 ∷ 0 ∷ 1 ∷ 5 ∷ []) (kept []))
    (((7 ∷ []) ∷ (8 ∷ []) ∷ []) ∷ ((7 ∷ []) ∷ replicate 8 7 ∷ []) ∷ (replicate 8 7 ∷ (7 ∷ []) ∷ []) ∷ [] ∷ [])
    ≡ kept (0 ∷ 0 ∷ 0 ∷ 1 ∷ 7 ∷ 0 ∷ 0 ∷ 0 ∷ 1 ∷ 8 ∷ []) ∷ overflown ∷ overflown ∷ kept [] ∷ []
unfolding big_endian row fits owed owed_all
owed-steps = refl

-- ---- regions

-- a region of 2 × 64 bytes with these four numbers
abbrev region : ℕ → ℕ → ℕ → ℕ → Bytes
region h t e f = big_endian 4 h ++ (big_endian 4 t ++ (big_endian 4 e ++ (big_endian 4 f ++ replicate 128 0)))

-- by the rules: empty, full, head past tail, tail past the room, more than Q, something pending, overflown, too short
regions : map (queue_fine 0)
    (region 0 0 0 0 ∷ region 64 128 128 0 ∷ region 1 0 0 0 ∷ region 100 129 129 0 ∷ region 0 65 65 0 ∷ region 0 4 5 0
    ∷ region 0 0 0 1 ∷ replicate 15 0 ∷ [])
    ≡ true ∷ true ∷ false ∷ false ∷ false ∷ false ∷ false ∷ false ∷ []
unfolding big_endian digits number number_at queue_fine
regions = refl

-- 64 bytes of Q are kept back for an open client, none for a shut one
reserved : (queue_fine 64 (region 5 5 5 0) ≡ true)
    × (queue_fine 64 (region 5 6 6 0) ≡ false)
    × (queue_fine 0 (region 5 6 6 0) ≡ true)
unfolding big_endian digits number number_at queue_fine
reserved = (refl, refl, refl)

-- what is pending lies behind what is queued; with the flag it is overflown, whatever the numbers say
pending : (pending_of (region 0 0 2 0) ≡ kept (0 ∷ 0 ∷ [])) × (pending_of (region 0 0 2 1) ≡ overflown)
unfolding big_endian digits number number_at pending_of
pending = (refl, refl)
