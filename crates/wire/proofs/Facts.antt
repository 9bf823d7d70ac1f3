-- What holds of every message that is read: commands are sound, lengths are within the input, a kind once fixed
-- stays.
use mathlib.Core.Path.{◌≡◌, refl}
use mathlib.Core.List.{[], ◌∷◌}
use mathlib.Core.Bool.{Bool, true, false, cond}
use mathlib.Core.Option.{Option}
use mathlib.Core.Logic.{inl, inr}
use Prim.Native.Nat.{ℕ, ◌≤◌, ◌<◌}
use native.Mathlib.Omega.{arith}
use lib.ListN.{length}
use borrow.Author.Tests.{ltb-true}
use Rattle.octets.specs.Octets.{Bytes, has_nul}
use Rattle.protocol.specs.declared.Kind.{Kind}
use Rattle.protocol.specs.declared.Kind.TheVariants.{Packets, Stream, Framed, Text}
use Rattle.protocol.specs.Terms.{Action, hello, sub, unsub, read, write, Reading, command, invalid, begin, commit}
use Rattle.protocol.specs.Terms.{plain, payload, Cut, whole, incomplete}
use Rattle.protocol.specs.Terms as Terms
use Rattle.framing.specs.Framing.{starts_text, kind_of, length_of, message_length}
use Rattle.framing.specs.Framing as Framing
use Rattle.framing.proofs.Laws.{length_of-le}
use Rattle.text.specs.Line.{Line, blank, refused, message}
use Rattle.command.specs.Sound.{GoodPattern, Fine, SoundReading}
use Rattle.command.specs.Meaning.{reading_of}
use Rattle.command.proofs.SoundLaws.{reading-sound}
use Rattle.wire.specs.Received.{decoded, reading_line, reading, is_whole, received}
use Rattle.wire.specs.Verdict.{Fixes}

-- ---- commands

-- a plain command is sound
abbrev SoundPlain : Reading → Type 0
SoundPlain Terms.blank = Unit {0}
SoundPlain (command begin) = Unit {0}
SoundPlain (command commit) = Unit {0}
SoundPlain (command (plain a)) = (length (payload a) ≤ 65535) × Fine a
SoundPlain (invalid r) = Unit {0}

sound-plain : (id : ℕ) (p : Bytes) (x : Reading) → SoundReading id p x → SoundPlain x
sound-plain id p Terms.blank h = tt
sound-plain id p (command begin) h = tt
sound-plain id p (command commit) h = tt
sound-plain id p (command (plain a)) h = (rw h.content h.fits, h.fine)
sound-plain id p (invalid r) h = tt

line-sound : (l : Line) → SoundPlain (reading_line l)
line-sound blank = tt
line-sound (refused r) = tt
line-sound (message id p) = sound-plain id p (reading_of id p) (reading-sound id p)

module _ (k : Kind) (m : Bytes) where
  plain-sound : (a : Action) → reading k m ≡ command (plain a) → SoundPlain (command (plain a))
  plain-sound a e = rw e at (line-sound (decoded k m))

  -- a payload has at most 65,535 bytes
  pub payload-fits : (a : Action) → reading k m ≡ command (plain a) → length (payload a) ≤ 65535
  payload-fits a e = (plain-sound a e).0

  -- HELLO has a version byte
  pub hello-version : (t : Bytes) → reading k m ≡ command (plain (hello t)) → 0 < length t
  hello-version t e = (plain-sound (hello t) e).1

  -- SUB's and UNSUB's pattern has no NUL, is valid and has at most 255 bytes
  pub sub-pattern : (p : Bytes) → reading k m ≡ command (plain (sub p)) → GoodPattern p
  sub-pattern p e = (plain-sound (sub p) e).1

  pub unsub-pattern : (p : Bytes) → reading k m ≡ command (plain (unsub p)) → GoodPattern p
  unsub-pattern p e = (plain-sound (unsub p) e).1

  -- READ's and WRITE's key has no NUL
  pub read-key : (key : Bytes) → reading k m ≡ command (plain (read key)) → has_nul key ≡ false
  read-key key e = (plain-sound (read key) e).1

  pub write-key : (key : Bytes) (v : Option Bytes) → reading k m ≡ command (plain (write key v)) → has_nul key ≡ false
  write-key key v e = (plain-sound (write key v) e).1

-- ---- the first message of an input

abbrev length_of_cut : Cut → ℕ
length_of_cut incomplete = 0
length_of_cut (whole n l r) = n

abbrev FixesOf : Kind → Cut → Type 0
FixesOf k incomplete = Unit {0}
FixesOf k (whole n l r) = Fixes k l

received-length : (k : Kind) (s : Bytes) → length_of_cut (received k s) ≤ length s
unfolding received
received-length k s = by (is_whole k (message_length k s))
  where
    by : (b : Bool)
        → length_of_cut (cond b (whole (message_length k s) (kind_of k s) (reading k (Framing.message k s))) incomplete) ≤
        length s
    by true = length_of-le (kind_of k s) s
    by false = omega arith

-- no more is consumed than there is
pub consumed-fits : (k : Kind) (s : Bytes) (n : ℕ) (l : Kind) (r : Reading) → received k s ≡ whole n l r
    → n ≤ length s
consumed-fits k s n l r e = rw e at (received-length k s)

same_kind : (k : Kind) → (k ≡ Stream → ⊥) → Fixes k k
same_kind k h = record { keeps = inr refl; fixed = h }

kind_of-fixes : (k : Kind) (s : Bytes) → is_whole k (message_length k s) ≡ true → Fixes k (kind_of k s)
unfolding kind_of length_of
kind_of-fixes Packets s h = same_kind Packets (λ e. let z : ◌≡◌ {A = ℕ} 0 1 = cc in omega arith)
kind_of-fixes Stream [] h = absurd (omega (arith, ltb-true 0 0 h))
kind_of-fixes Stream (c ∷ s) h = by (starts_text c)
  where
    by : (b : Bool) → Fixes Stream (cond b Text Framed)
    by true = record { keeps = inl refl; fixed = λ e. let z : ◌≡◌ {A = ℕ} 0 1 = cc in omega arith }
    by false = record { keeps = inl refl; fixed = λ e. let z : ◌≡◌ {A = ℕ} 0 1 = cc in omega arith }
kind_of-fixes Framed s h = same_kind Framed (λ e. let z : ◌≡◌ {A = ℕ} 0 1 = cc in omega arith)
kind_of-fixes Text s h = same_kind Text (λ e. let z : ◌≡◌ {A = ℕ} 0 1 = cc in omega arith)

received-kind : (k : Kind) (s : Bytes) → FixesOf k (received k s)
unfolding received
received-kind k s = by (is_whole k (message_length k s)) refl
  where
    by : (b : Bool) → is_whole k (message_length k s) ≡ b
        → FixesOf k (cond b (whole (message_length k s) (kind_of k s) (reading k (Framing.message k s))) incomplete)
    by true e = kind_of-fixes k s e
    by false e = tt

-- a message, taken or refused, fixes a stream's kind, and a fixed kind never changes
pub fixes-kind : (k : Kind) (s : Bytes) (n : ℕ) (l : Kind) (r : Reading) → received k s ≡ whole n l r → Fixes k l
fixes-kind k s n l r e = rw e at (received-kind k s)

-- what is received of an input: the first message's length, the kind that it fixes, and its reading
abbrev Says : Kind → Bytes → Cut → Type 0
Says k s incomplete = Unit {0}
Says k s (whole n l r) = (n ≡ message_length k s) × (l ≡ kind_of k s) × (r ≡ reading k (Framing.message k s))

received-says : (k : Kind) (s : Bytes) → Says k s (received k s)
unfolding received
received-says k s = by (is_whole k (message_length k s))
  where
    by : (b : Bool)
        → Says k s (cond b (whole (message_length k s) (kind_of k s) (reading k (Framing.message k s))) incomplete)
    by true = (refl, refl, refl)
    by false = tt

-- so what holds of every reading holds of what is received
pub received-reading : (k : Kind) (s : Bytes) (n : ℕ) (l : Kind) (r : Reading) → received k s ≡ whole n l r
    → r ≡ reading k (Framing.message k s)
received-reading k s n l r e = (rw e at (received-says k s)).2
