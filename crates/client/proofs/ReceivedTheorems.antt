-- What the server writes the client reads as the same message, in every form (`message-received`), and an answer 0
-- means that the input begins with the message that the server writes (`received-written`). The lemmas are over every
-- row of the server's messages.
use mathlib.Core.Path.{◌≡◌, refl, sym, ap, ◌∙◌}
use mathlib.Core.List.{[], ◌∷◌, ◌++◌, append_assoc, append-nil}
use mathlib.Core.Bool.{Bool, true, false, cond, ◌||◌}
use mathlib.Core.Option.{Option, some, none}
use Prim.Native.Nat.{ℕ, suc, ◌+◌, ◌-◌, ◌*◌, ◌/◌, ◌%◌, ◌≤◌, ◌<◌}
use native.Mathlib.Numerals.{add-one}
use native.Mathlib.Omega.{arith}
use lib.Dec.{eqb, leb, ltb}
use lib.ListN.{length, take, get_or, length-append}
use lib.Seq.{sets, take-append_seam, take-suc, length-take-le}
use borrow.Author.Tests.{eqb-true, le-leb, leb-true, lt-ltb, ltb-true}
use Rattle.octets.specs.Octets.{Bytes, Bounded}
use Rattle.protocol.specs.declared.Kind.{Kind}
use Rattle.protocol.specs.declared.Kind.TheVariants.{Packets, Stream, Framed, Text}
use Rattle.protocol.specs.declared.Refusal.TheVariants.{Unknown, Parameter, Room, State}
use Rattle.protocol.specs.Terms.{Message, version, info, pong, error, message_id, message_payload}
use Rattle.framing.specs.Framing.{frame_length}
use Rattle.message.specs.Quoting.{has}
use Rattle.message.specs.Rows.{Row, row_in, row_of}
use Rattle.message.specs.Forms.{line, frame, form, encoded, written}
use Rattle.message.proofs.Theorems.{has-append, encoded-packets, encoded-framed, length-encoded-least}
use Rattle.server_text.specs.Fields.{suits}
use Rattle.server_text.specs.Lines.{Decoded, refused, message, server_rows, row_with, decoded_line}
use Rattle.server_text.proofs.RowLaws.{row-id, row-own, served-listed, served-ended, body, body-lfless}
use Rattle.server_text.proofs.LineTheorems.{line-complete, line-sound}
use Rattle.wire.specs.Received.{is_whole}
use Rattle.client.specs.Reading.{first_lf, lf_length, length_in, first_message, of_binary, decoded_binary, message_in}
use Rattle.client.specs.Reading.{read_of, read_decoded, read_in}
use Rattle.client.proofs.ReadLaws.{length-first_message, read_whole, decoded-done}

-- ---- the forms

-- nothing follows a packet, which is all of its input
abbrev pub Follows : Kind → Bytes → Type 0
Follows Packets t = t ≡ []
Follows Stream t = Unit {0}
Follows Framed t = Unit {0}
Follows Text t = Unit {0}

pub encoded-stream : (i : ℕ) (p : Bytes) → encoded Stream i p ≡ frame i p
unfolding encoded form
encoded-stream i p = encoded-framed i p

pub frame_length-frame : (i : ℕ) (p t : Bytes) → frame_length (frame i p ++ t) ≡ length (frame i p)
unfolding frame_length
frame_length-frame i p t =
    let e : length p / 256 * 256 + length p % 256 ≡ length p = omega arith in
    let k : length p ≤ length (p ++ t) = rw length-append (omega arith) in
    rw (e, le-leb _ _ k) (omega arith)

first_lf-append : (l t : Bytes) → has 10 l ≡ false → first_lf (l ++ 10 ∷ t) ≡ length l
unfolding first_lf has
first_lf-append [] t h = refl
first_lf-append (c ∷ l) t h = by (eqb c 10) h (first_lf-append l t)
  where
    by : (x : Bool) → (x || has 10 l) ≡ false → (has 10 l ≡ false → first_lf (l ++ 10 ∷ t) ≡ length l)
        → cond x 0 (first_lf (l ++ 10 ∷ t) + 1) ≡ suc (length l)
    by true h f = let z : ◌≡◌ {A = ℕ} 0 1 = cc in absurd (omega arith)
    by false h f = omega (arith, f h)

-- a line without an LF and its LF, whatever follows
lf_length-line : (l t : Bytes) → has 10 l ≡ false → lf_length (l ++ 10 ∷ t) ≡ length l + 1
unfolding lf_length
lf_length-line l t h =
    let e = first_lf-append l t h in
    let k : length l < length (l ++ 10 ∷ t) = rw length-append (omega arith) in
    rw (e, lt-ltb _ _ k)

-- ---- complete

module _ (i : ℕ) (r : Row) (e : row_with i server_rows ≡ some r) (p : Bytes) where
  -- the line before its LF
  abbrev line_front : Bytes
  line_front = body r p ++ (13 ∷ [])

  encoded-line : encoded Text i p ≡ line_front ++ (10 ∷ [])
  unfolding encoded form line
  encoded-line =
      let l = served-listed i r e in
      rw (row-own i r l, row-id i r l, served-ended i r e, append_assoc (body r p) (13 ∷ []) (10 ∷ []))

  line_front-lfless : has 10 line_front ≡ false
  unfolding has
  line_front-lfless =
      has-append 10 (body r p) (13 ∷ []) ∙ rw (body-lfless i r (served-listed i r e) p)

  -- the length of a message is found, whatever follows it
  pub length_in-encoded : (k : Kind) (t : Bytes) → Follows k t
      → length_in k (encoded k i p ++ t) ≡ length (encoded k i p)
  unfolding length_in
  length_in-encoded Packets t f = rw (f, append-nil (encoded Packets i p))
  length_in-encoded Stream t f = rw (encoded-stream i p) (frame_length-frame i p t)
  length_in-encoded Framed t f = rw (encoded-framed i p) (frame_length-frame i p t)
  length_in-encoded Text t f =
      let l = line_front in
      let a : (l ++ (10 ∷ [])) ++ t ≡ l ++ 10 ∷ t = append_assoc l (10 ∷ []) t in
      rw (encoded-line, a, length-append l (10 ∷ [])) (lf_length-line l t line_front-lfless)

  module _ (h : suits r.shape p ≡ true) where
    packet-decoded : decoded_binary 0 (i ∷ p) ≡ message i p
    unfolding decoded_binary
    packet-decoded = rw (e, h, row-id i r (served-listed i r e))

    frame-decoded : decoded_binary 2 (frame i p) ≡ message i p
    unfolding decoded_binary
    frame-decoded = rw (e, h, row-id i r (served-listed i r e))

    -- a message in any form is read as its ID and its payload
    pub decoded-encoded : (k : Kind) → get_or p 0 0 < 256 → message_in k (encoded k i p) ≡ message i p
    unfolding message_in
    decoded-encoded Packets b = rw (encoded-packets i p) packet-decoded
    decoded-encoded Stream b = rw (encoded-stream i p) frame-decoded
    decoded-encoded Framed b = rw (encoded-framed i p) frame-decoded
    decoded-encoded Text b =
        let l = line_front in
        let n : length (l ++ (10 ∷ [])) - 1 ≡ length l = rw length-append (omega arith) in
        rw (encoded-line, n, take-append_seam l (10 ∷ [])) (line-complete i r e p h b)

    is-whole : (k : Kind) (n : ℕ) → 1 ≤ n → is_whole k n ≡ true
    is-whole Packets n g = refl
    is-whole Stream n g = lt-ltb 0 n g
    is-whole Framed n g = lt-ltb 0 n g
    is-whole Text n g = lt-ltb 0 n g

    pub row-received : (k : Kind) (t o : Bytes) → Follows k t → get_or p 0 0 < 256 → length p ≤ 65535
        → length p < length o
        → read_in k (encoded k i p ++ t) o ≡ read_of 0 (length (encoded k i p)) (length p + 1) (sets o 0 (i ∷ p))
    row-received k t o f b s g =
        let w = encoded k i p in
        let n : length_in k (w ++ t) ≡ length w = length_in-encoded k t f in
        let c : first_message k (w ++ t) ≡ w = rw n (take-append_seam w t) in
        let q : is_whole k (length (first_message k (w ++ t))) ≡ true =
        rw c (is-whole k (length w) (length-encoded-least k i p)) in
        read_whole k (w ++ t) o q ∙ rw (c, decoded-encoded k b) (decoded-done (length w) i p o s g)

-- ---- the server's messages

message-row : (m : Message) → row_with (message_id m) server_rows ≡ some (row_of (message_id m))
unfolding row_with row_in row_of
message-row version = refl
message-row (info k v) = refl
message-row (pong i) = refl
message-row (error r) = refl

message-suits : (m : Message) → suits (row_of (message_id m)).shape (message_payload m) ≡ true
unfolding suits message_payload row_in row_of
message-suits version = refl
message-suits (info k v) = refl
message-suits (pong i) = refl
message-suits (error r) = refl

-- every message of the server, in every form, is read as that message, where its payload is not too long and the out
-- slice has room
pub message-received : (k : Kind) (m : Message) (t o : Bytes) → Follows k t → get_or (message_payload m) 0 0 < 256
    → length (message_payload m) ≤ 65535 → length (message_payload m) < length o
    → read_in k (written k m ++ t) o
    ≡ read_of 0 (length (written k m)) (length (message_payload m) + 1) (sets o 0 (message_id m ∷ message_payload m))
unfolding written
message-received k m t o f b s g =
    row-received (message_id m) (row_of (message_id m)) (message-row m) (message_payload m) (message-suits m) k t o f b s
    g

-- ---- sound

first_lf-is : (s : Bytes) → first_lf s < length s → get_or s (first_lf s) 0 ≡ 10
unfolding first_lf
first_lf-is [] h = absurd (omega arith)
first_lf-is (c ∷ s) h = by (eqb c 10) refl h (first_lf-is s)
  where
    by : (b : Bool) → eqb c 10 ≡ b → cond b 0 (first_lf s + 1) < suc (length s)
        → (first_lf s < length s → get_or s (first_lf s) 0 ≡ 10) → get_or (c ∷ s) (cond b 0 (first_lf s + 1)) 0 ≡ 10
    by true e h f = eqb-true c 10 e
    by false e h f = rw (add-one (first_lf s)) (f (omega arith))

-- a line that is whole is what stands before its LF, and the LF
line-front : (s : Bytes) → 0 < length_in Text s → first_message Text s ≡ take (first_lf s) s ++ (10 ∷ [])
unfolding length_in lf_length
line-front s h = by (ltb (first_lf s) (length s)) refl h
  where
    by : (b : Bool) → ltb (first_lf s) (length s) ≡ b → 0 < cond b (first_lf s + 1) 0
        → take (cond b (first_lf s + 1) 0) s ≡ take (first_lf s) s ++ (10 ∷ [])
    by true e h =
        let k = ltb-true (first_lf s) (length s) e in
        rw (add-one (first_lf s), take-suc s (first_lf s) 0 k, first_lf-is s k)
    by false e h = absurd (omega arith)

-- an ID that a server message has, and a payload that suits it
pub record Genuine (i : ℕ) (p : Bytes) : Type 0 where
  pub row : Row
  pub with : row_with i server_rows ≡ some row
  pub fit : suits row.shape p ≡ true

line-written : (s : Bytes) (i : ℕ) (p : Bytes) → 0 < length_in Text s
    → message_in Text (first_message Text s) ≡ message i p → (first_message Text s ≡ encoded Text i p) × Genuine i p
unfolding message_in
line-written s i p h e =
    let l = take (first_lf s) s in
    let f : first_message Text s ≡ l ++ (10 ∷ []) = line-front s h in
    let n : length (l ++ (10 ∷ [])) - 1 ≡ length l = rw length-append (omega arith) in
    let g : decoded_line l ≡ message i p = rw (f, n, take-append_seam l (10 ∷ [])) at e in
    let w = line-sound l i p g in
    let b = w.1.1 in (
      f ∙ ap (λ (x : Bytes). x ++ (10 ∷ [])) (w.1.0 ∙ ap (λ (x : Bytes). x ++ (13 ∷ [])) b.is)
          ∙ sym (encoded-line i b.row b.with p),
      record { row = b.row; with = b.with; fit = b.fit },
    )

-- an ID and a payload that are taken are those that were handed in
binary-taken : (id : ℕ) (q : Bytes) (i : ℕ) (p : Bytes) → of_binary (row_with id server_rows) q ≡ message i p
    → (id ≡ i) × ((q ≡ p) × Genuine i p)
binary-taken id q i p h = by (row_with id server_rows) refl h
  where
    fit : (r : Row) → row_with id server_rows ≡ some r → (b : Bool) → suits r.shape q ≡ b
        → cond b (message r.id q) (refused Parameter) ≡ message i p → (id ≡ i) × ((q ≡ p) × Genuine i p)
    fit r e true t h =
        let f : r.id ≡ i = cc in
        let g : q ≡ p = cc in
        let j : id ≡ i = sym (row-id id r (served-listed id r e)) ∙ f in
        (j, (g, record { row = r; with = rw j at e; fit = rw g at t }))
    fit r e false t h = let z : ◌≡◌ {A = ℕ} 0 1 = cc in absurd (omega arith)

    by : (o : Option Row) → row_with id server_rows ≡ o → of_binary o q ≡ message i p
        → (id ≡ i) × ((q ≡ p) × Genuine i p)
    by none e h = let z : ◌≡◌ {A = ℕ} 0 1 = cc in absurd (omega arith)
    by (some r) e h = fit r e (suits r.shape q) refl h

packet-written : (s : Bytes) (i : ℕ) (p : Bytes) → decoded_binary 0 s ≡ message i p → (s ≡ i ∷ p) × Genuine i p
unfolding decoded_binary
packet-written [] i p h = let z : ◌≡◌ {A = ℕ} 0 1 = cc in absurd (omega arith)
packet-written (id ∷ s) i p h = let q = binary-taken id s i p h in (rw (q.0, q.1.0), q.1.1)

-- the two bytes of a length
length-bytes : (a b n : ℕ) → a * 256 + b ≡ n → b < 256 → (a ≡ n / 256) × (b ≡ n % 256)
length-bytes a b n e h = (omega arith, omega arith)

take-three : (n a b c : ℕ) (s : Bytes) → take (3 + n) (a ∷ b ∷ c ∷ s) ≡ a ∷ b ∷ c ∷ take n s
take-three n a b c s =
    let e : 3 + n ≡ suc (suc (suc n)) = omega arith in
    ap (λ (m : ℕ). take m (a ∷ b ∷ c ∷ s)) e

frame-written : (s : Bytes) → Bounded s → (i : ℕ) (p : Bytes) → 0 < frame_length s
    → decoded_binary 2 (take (frame_length s) s) ≡ message i p → (take (frame_length s) s ≡ frame i p) × Genuine i p
unfolding frame_length decoded_binary
frame-written [] b i p h e = absurd (omega arith)
frame-written (id ∷ []) b i p h e = absurd (omega arith)
frame-written (id ∷ x ∷ []) b i p h e = absurd (omega arith)
frame-written (id ∷ x ∷ y ∷ s) b i p h e = by (leb (x * 256 + y) (length s)) refl h e
  where
    by : (t : Bool) → leb (x * 256 + y) (length s) ≡ t → 0 < cond t (3 + (x * 256 + y)) 0
        → decoded_binary 2 (take (cond t (3 + (x * 256 + y)) 0) (id ∷ x ∷ y ∷ s)) ≡ message i p
        → (take (cond t (3 + (x * 256 + y)) 0) (id ∷ x ∷ y ∷ s) ≡ frame i p) × Genuine i p
    by true f h e =
        let t = take-three (x * 256 + y) id x y s in
        let q = binary-taken id (take (x * 256 + y) s) i p (rw t at e) in
        let l : x * 256 + y ≡ length p =
        sym (length-take-le (x * 256 + y) s (leb-true _ _ f)) ∙ ap length q.1.0 in
        let m = length-bytes x y (length p) l (b 2) in
        (t ∙ rw (q.0, q.1.0, ← m.0, ← m.1), q.1.1)
    by false f h e = absurd (omega arith)

-- the first message of an input, where it is whole and taken, is the one that the server writes
first-written : (k : Kind) (s : Bytes) → Bounded s → (i : ℕ) (p : Bytes) → is_whole k (length_in k s) ≡ true
    → message_in k (first_message k s) ≡ message i p → (first_message k s ≡ encoded k i p) × Genuine i p
unfolding length_in message_in
first-written Packets s b i p w e =
    let q = packet-written (take (length s) s) i p e in (q.0 ∙ sym (encoded-packets i p), q.1)
first-written Stream s b i p w e =
    let q = frame-written s b i p (ltb-true 0 (frame_length s) w) e in (q.0 ∙ sym (encoded-stream i p), q.1)
first-written Framed s b i p w e =
    let q = frame-written s b i p (ltb-true 0 (frame_length s) w) e in (q.0 ∙ sym (encoded-framed i p), q.1)
first-written Text s b i p w e = line-written s i p (ltb-true 0 (lf_length s) w) e

-- what the first message of an input was read as: an ID of the server and a payload that suits it, whose message the
-- input begins with, byte for byte, and for which there was room
pub record ReadAs (k : Kind) (s o : Bytes) : Type 0 where
  pub id : ℕ
  pub payload : Bytes
  pub genuine : Genuine id payload
  pub is : first_message k s ≡ encoded k id payload
  pub short : length payload ≤ 65535
  pub room : length payload < length o
  pub out : read_in k s o ≡ read_of 0 (length (first_message k s)) (length payload + 1) (sets o 0 (id ∷ payload))

-- an answer 0 means that the input begins with the message that the server writes for the ID and the payload that
-- were handed out
pub received-written : (k : Kind) (s o : Bytes) → Bounded s → (read_in k s o).answer ≡ 0 → ReadAs k s o
unfolding read_in
received-written k s o b h = by (is_whole k (length_in k s)) refl h
  where
    found : (l : Decoded) → message_in k (first_message k s) ≡ l → is_whole k (length_in k s) ≡ true
        → (read_decoded (length_in k s) l o).answer ≡ 0 → ReadAs k s o
    found (refused Unknown) e w h = absurd (omega arith)
    found (refused Parameter) e w h = absurd (omega arith)
    found (refused Room) e w h = absurd (omega arith)
    found (refused State) e w h = absurd (omega arith)
    found (message i p) e w h = fits (leb (length p) 65535) (leb (length p + 1) (length o)) refl refl h
      where
        fits : (x y : Bool) → leb (length p) 65535 ≡ x → leb (length p + 1) (length o) ≡ y
            → (cond x (cond y (read_of 0 (length_in k s) (length p + 1) (sets o 0 (i ∷ p))) (read_of 5 0 0 o))
            (read_of 102 (length_in k s) 0 o)).answer ≡ 0
            → ReadAs k s o
        fits true true f g h =
            let q = first-written k s b i p w e in
            record {
              id = i;
              payload = p;
              genuine = q.1;
              is = q.0;
              short = leb-true (length p) 65535 f;
              room = omega (arith, leb-true (length p + 1) (length o) g);
              out = rw (w, e, f, g, length-first_message k s);
            }
        fits true false f g h = absurd (omega arith)
        fits false y f g h = absurd (omega arith)

    by : (t : Bool) → is_whole k (length_in k s) ≡ t
        → (cond t (read_decoded (length_in k s) (message_in k (first_message k s)) o) (read_of 1 0 0 o)).answer ≡ 0
        → ReadAs k s o
    by true w h = found (message_in k (first_message k s)) refl w h
    by false w h = absurd (omega arith)
