-- What `read` answers is what the message says: a command with its payload (`read-command`), or a blank line
-- (`read-blank`); a buffer as long as the message always has room (`read_short`). So `cut`, then `read`, gives
-- `received` (`read-received`). A WRITE that was read has the parts of its payload (`read-splits`).
use mathlib.Core.Path.{◌≡◌, refl, sym, ap, subst, ◌∙◌}
use mathlib.Core.List.{[], ◌∷◌}
use mathlib.Core.Bool.{Bool, true, false, cond}
use Prim.Native.Nat.{ℕ, ◌-◌, ◌≤◌, ◌<◌}
use native.Mathlib.Omega.{arith}
use lib.Dec.{leb}
use lib.ListN.{length, drop, length-take}
use lib.Seq.{take-length, length-take-le, drop-drop}
use borrow.Author.Tests.{leb-true, leb-false}
use Rattle.std.specs.Prelude.{Option, None, Some, Result, Ok, Err}
use Rattle.octets.specs.Octets.{Bytes}
use Rattle.protocol.specs.declared.Kind.{Kind}
use Rattle.protocol.specs.declared.Kind.TheVariants.{Packets, Stream, Framed, Text}
use Rattle.protocol.specs.declared.Refusal.{Refusal}
use Rattle.protocol.specs.declared.Refusal.TheVariants.{Room}
use Rattle.protocol.specs.Terms.{Action, action_id, plain, command, whole}
use Rattle.protocol.specs.Terms as Terms
use Rattle.framing.specs.Framing.{kind_of, ends_line, message_length}
use Rattle.framing.specs.Framing as Framing
use Rattle.framing.proofs.Laws.{length_of-le}
use Rattle.text.specs.Line.{Line, blank, refused, message, line_of}
use Rattle.text.proofs.LengthLaws.{payload-length}
use Rattle.command.specs.declared.Command.{Command}
use Rattle.command.specs.declared.Command.TheVariants.{Write}
use Rattle.command.specs.declared.Written.{Written}
use Rattle.command.specs.Commands.{Splits, command_of}
use Rattle.command.specs.Meaning.{meant}
use Rattle.command.specs.Sound.{SoundAction, SoundReading}
use Rattle.command.proofs.SoundLaws.{reading-sound, write-splits}
use Rattle.wire.specs.Received.{binary, front, last_byte, text_line, decoded_in, reading_line, reading, is_whole}
use Rattle.wire.specs.Received.{received}
use Rattle.wire.specs.Post.{answer_of, short, room_in, LeftIn, Left, ReadsIn, Reads, payload_in, payload_part}
use Rattle.wire.specs.declared.Reading.{Reading}
use Rattle.wire.specs.declared.ShortBuffer.{ShortBuffer}
use Rattle.wire.proofs.Laws.{take-sets}

-- ---- the payload of a decoded message

binary-payload : (skip : ℕ) (m : Bytes) (id : ℕ) (p : Bytes) → binary skip m ≡ message id p → drop skip (drop 1 m) ≡ p
unfolding binary
binary-payload skip [] id p e = let z : ◌≡◌ {A = ℕ} 0 1 = cc in absurd (omega arith)
binary-payload skip (c ∷ m) id p e = cc

text-payload : (m buf : Bytes) (id : ℕ) (p : Bytes) → text_line m ≡ message id p → room_in Text m ≤ length buf
    → length p ≤ length buf
unfolding text_line
text-payload m buf id p e h = by (ends_line (last_byte m)) e h
  where
    by : (b : Bool) → cond b (line_of (front m)) (refused Room) ≡ message id p
        → cond b (length (front m)) 0 ≤ length buf → length p ≤ length buf
    by true e h = omega (arith, payload-length (front m) id p e)
    by false e h = let z : ◌≡◌ {A = ℕ} 0 1 = cc in absurd (omega arith)

payload-there : (k : Kind) (m buf buf' : Bytes) (id : ℕ) (p : Bytes) → decoded_in k m ≡ message id p
    → room_in k m ≤ length buf
    → LeftIn k m (message id p) buf buf' → payload_in k m buf' (length p) ≡ p
unfolding decoded_in payload_in
payload-there Packets m buf buf' id p e h l = rw (binary-payload 0 m id p e) (take-length p)
payload-there Stream m buf buf' id p e h l = let z : ◌≡◌ {A = ℕ} 0 1 = cc in absurd (omega arith)
payload-there Framed m buf buf' id p e h l =
    let q : drop 3 m ≡ p = sym (drop-drop 2 1 m) ∙ binary-payload 2 m id p e in
    rw q (take-length p)
payload-there Text m buf buf' id p e h l = rw l (take-sets buf p (text-payload m buf id p e h))

-- ---- an answer and its reading

-- what is answered for a message that says this, with n bytes of payload
abbrev pub says : Result Command Refusal → ℕ → Result (Option Reading) ShortBuffer
says c n = Ok (Some (record { command = c; len = n }))

-- what is answered where the buffer has room
abbrev answered : Option Reading → Result (Option Reading) ShortBuffer
answered o = Ok o

-- the same answer says the same
same-said : {c : Result Command Refusal} {n : ℕ} {x : Reading} → says c n ≡ answered (Some x)
    → (c ≡ x.command) × (n ≡ x.len)
same-said {c} {n} {x} e =
    let r : Reading = record { command = c; len = n } in
    let f : r ≡ x = cc in
    (ap (λ (y : Reading). y.command) f, ap (λ (y : Reading). y.len) f)

module _ (k : Kind) (m buf buf' : Bytes) where
  -- a command with its payload
  read-in : (c : Result Command Refusal) (n : ℕ) → ReadsIn k m buf (says c n) buf'
      → reading_line (decoded_in k m) ≡ meant (payload_in k m buf' n) c
  unfolding meant
  read-in c n w = by (leb (room_in k m) (length buf)) refl w.answer w.left
    where
      said : (l : Line) → decoded_in k m ≡ l → room_in k m ≤ length buf → says c n ≡ answered (answer_of l) → LeftIn k m l buf buf'
          → reading_line l ≡ meant (payload_in k m buf' n) c
      said blank e h a q = let z : ◌≡◌ {A = ℕ} 0 1 = cc in absurd (omega arith)
      said (refused r) e h a q = let f : c ≡ Err r = (same-said a).0 in rw f
      said (message id p) e h a q =
          let f : c ≡ command_of id p = (same-said a).0 in
          let g : n ≡ length p = (same-said a).1 in
          rw (f, g, payload-there k m buf buf' id p e h q)

      by : (b : Bool) → leb (room_in k m) (length buf) ≡ b → says c n ≡ cond b (Ok (answer_of (decoded_in k m))) short
          → Left b k m (decoded_in k m) buf buf' → reading_line (decoded_in k m) ≡ meant (payload_in k m buf' n) c
      by true e a q = said (decoded_in k m) refl (leb-true _ _ e) a q
      by false e a q = let z : ◌≡◌ {A = ℕ} 0 1 = cc in absurd (omega arith)

  -- what holds of every refusal, and of every command that an ID and a payload are, holds of what was read
  command-in : (P : Bytes → Result Command Refusal → Type 0) → ((p : Bytes) (r : Refusal) → P p (Err r))
      → ((id : ℕ) (p : Bytes) → P p (command_of id p)) → (c : Result Command Refusal) (n : ℕ) → ReadsIn k m buf (says c n) buf'
      → P (payload_in k m buf' n) c
  command-in P none each c n w = by (leb (room_in k m) (length buf)) refl w.answer w.left
    where
      said : (l : Line) → decoded_in k m ≡ l → room_in k m ≤ length buf → says c n ≡ answered (answer_of l) → LeftIn k m l buf buf'
          → P (payload_in k m buf' n) c
      said blank e h x q = let z : ◌≡◌ {A = ℕ} 0 1 = cc in absurd (omega arith)
      said (refused r) e h x q = let f : c ≡ Err r = (same-said x).0 in rw f (none (payload_in k m buf' n) r)
      said (message id p) e h x q =
          let f : c ≡ command_of id p = (same-said x).0 in
          let g : n ≡ length p = (same-said x).1 in
          rw (f, g, payload-there k m buf buf' id p e h q) (each id p)

      by : (b : Bool) → leb (room_in k m) (length buf) ≡ b → says c n ≡ cond b (Ok (answer_of (decoded_in k m))) short
          → Left b k m (decoded_in k m) buf buf' → P (payload_in k m buf' n) c
      by true e x q = said (decoded_in k m) refl (leb-true _ _ e) x q
      by false e x q = let z : ◌≡◌ {A = ℕ} 0 1 = cc in absurd (omega arith)

  -- a blank line
  blank-in : ReadsIn k m buf (Ok None) buf' → reading_line (decoded_in k m) ≡ Terms.blank
  blank-in w = by (leb (room_in k m) (length buf)) w.answer
    where
      said : (l : Line) → answered None ≡ answered (answer_of l) → reading_line l ≡ Terms.blank
      said blank a = refl
      said (refused r) a = let z : ◌≡◌ {A = ℕ} 0 1 = cc in absurd (omega arith)
      said (message id p) a = let z : ◌≡◌ {A = ℕ} 0 1 = cc in absurd (omega arith)

      by : (b : Bool) → answered None ≡ cond b (answered (answer_of (decoded_in k m))) short → reading_line (decoded_in k m) ≡ Terms.blank
      by true a = said (decoded_in k m) a
      by false a = let z : ◌≡◌ {A = ℕ} 0 1 = cc in absurd (omega arith)

  -- no room
  short-in : ReadsIn k m buf short buf' → length buf < room_in k m
  short-in w = by (leb (room_in k m) (length buf)) refl w.answer
    where
      said : (l : Line) → short ≡ answered (answer_of l) → ⊥
      said blank a = let z : ◌≡◌ {A = ℕ} 0 1 = cc in omega arith
      said (refused r) a = let z : ◌≡◌ {A = ℕ} 0 1 = cc in omega arith
      said (message id p) a = let z : ◌≡◌ {A = ℕ} 0 1 = cc in omega arith

      by : (b : Bool) → leb (room_in k m) (length buf) ≡ b → short ≡ cond b (Ok (answer_of (decoded_in k m))) short
          → length buf < room_in k m
      by true e a = absurd (said (decoded_in k m) a)
      by false e a = leb-false _ _ e

-- ---- what holds of a command and its payload

-- a plain command is sound
abbrev SoundPlain : Bytes → Result Command Refusal → Type 0
SoundPlain p c = (a : Action) → meant p c ≡ command (plain a) → SoundAction (action_id a) p a

refused-sound : (p : Bytes) (r : Refusal) → SoundPlain p (Err r)
unfolding meant
refused-sound p r a t = let z : ◌≡◌ {A = ℕ} 0 1 = cc in absurd (omega arith)

command_of-sound : (id : ℕ) (p : Bytes) → SoundPlain p (command_of id p)
command_of-sound id p a t =
    let b : SoundAction id p a = subst (SoundReading id p) t (reading-sound id p) in
    record { identity = refl; content = b.content; fits = b.fits; fine = b.fine }

-- a WRITE has the parts of the payload
abbrev SplitWrite : Bytes → Result Command Refusal → Type 0
SplitWrite p c = (i : ℕ) (w : Written) → c ≡ Ok (Write i w) → Splits p i w

refused-splits : (p : Bytes) (r : Refusal) → SplitWrite p (Err r)
refused-splits p r i w e = let z : ◌≡◌ {A = ℕ} 0 1 = cc in absurd (omega arith)

-- ---- a message that was cut

pub room_in-le : (k : Kind) (m : Bytes) → room_in k m ≤ length m
room_in-le Packets m = omega arith
room_in-le Stream m = omega arith
room_in-le Framed m = omega arith
room_in-le Text m = by (ends_line (last_byte m))
  where
    by : (b : Bool) → cond b (length (front m)) 0 ≤ length m
    by true = omega (arith, length-take (length m - 1) m)
    by false = omega arith

module _ (k : Kind) {m buf buf' : Bytes} where
  -- the command that was read and its payload are what the message says
  pub read-command : {c : Result Command Refusal} {n : ℕ} → Reads k m buf (says c n) buf'
      → reading k m ≡ meant (payload_part k m buf' n) c
  read-command {c} {n} w = read-in (kind_of k m) m buf buf' c n w

  pub read-blank : Reads k m buf (Ok None) buf' → reading k m ≡ Terms.blank
  read-blank w = blank-in (kind_of k m) m buf buf' w

  -- a plain command that was read is sound
  pub read-sound : {c : Result Command Refusal} {n : ℕ} → Reads k m buf (says c n) buf' → (a : Action)
      → meant (payload_part k m buf' n) c ≡ command (plain a) → SoundAction (action_id a) (payload_part k m buf' n) a
  read-sound {c} {n} w = command-in (kind_of k m) m buf buf' SoundPlain refused-sound command_of-sound c n w

  -- a WRITE that was read has the parts of its payload
  pub read-splits : {c : Result Command Refusal} {n : ℕ} → Reads k m buf (says c n) buf' → (i : ℕ) (w : Written) → c ≡ Ok (Write i w)
      → Splits (payload_part k m buf' n) i w
  read-splits {c} {n} w = command-in (kind_of k m) m buf buf' SplitWrite refused-splits write-splits c n w

  -- only a buffer without room for the message is too short
  pub read-no-room : Reads k m buf short buf' → length buf < room_in (kind_of k m) m
  read-no-room w = short-in (kind_of k m) m buf buf' w

  -- only a buffer shorter than the message can lack room
  pub read_short : Reads k m buf short buf' → length buf < length m
  read_short w = omega (arith, short-in (kind_of k m) m buf buf' w, room_in-le (kind_of k m) m)

-- the message that is cut, where it is whole, and its reading are the first message of the input
pub read-received : (k : Kind) (s : Bytes) → is_whole k (length (Framing.message k s)) ≡ true
    → received k s ≡ whole (length (Framing.message k s)) (kind_of k s) (reading k (Framing.message k s))
unfolding received
read-received k s e =
    let n : length (Framing.message k s) ≡ message_length k s = length-take-le _ s (length_of-le (kind_of k s) s) in
    rw (n, rw n at e)
