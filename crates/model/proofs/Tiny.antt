-- A reader, a writer and a matcher of a few lines, for examples by computation, and scripts in which each line is a
-- call. The reader takes one byte, the number of a line of the script, for what that line says.
use Prim.Native.Nat.{ℕ, suc, ◌+◌, ◌≤◌}
use mathlib.Core.Path.{◌≡◌, refl}
use mathlib.Core.List.{List, [], ◌∷◌}
use mathlib.Core.Bool.{Bool, true, cond}
use mathlib.Core.Logic.{inl, inr}
use native.Mathlib.Omega.{arith}
use lib.ListN.{length, get_or}
use Rattle.octets.specs.Octets.{Bytes, ascii}
use Rattle.octets.specs.Order.{same}
use Rattle.protocol.specs.Terms.{Action, begin, commit, plain, Message, error, message_id}
use Rattle.protocol.specs.Terms.{message_payload, reason}
use Rattle.protocol.specs.Terms.{Reading, blank, command, Cut, incomplete, whole, Protocol}
use Rattle.protocol.specs.declared.Kind.{Kind}
use Rattle.protocol.specs.declared.Kind.TheVariants.{Packets, Stream, Framed, Text}
use Rattle.protocol.specs.declared.Refusal.{Refusal}
use Rattle.protocol.specs.declared.Refusal.TheVariants.{Unknown, Parameter, Room, State as BadState}
use Rattle.model.specs.Decision.{Call, feeds}
use Rattle.model.specs.Lawful.{Fixes, ValidAction, Lawful}

-- a message is its ID and its payload
abbrev tiny_written : Kind → Message → Bytes
tiny_written k m = message_id m ∷ message_payload m

-- `*` matches every key, and any other pattern the key that it spells
unfoldable pub tiny_matches : Bytes → Bytes → Bool
tiny_matches p k = cond (same p (42 ∷ [])) true (same p k)

-- a stream becomes one of the first kind, framed or text
unfoldable pub tiny_kind : Kind → Kind → Kind
tiny_kind to Packets = Packets
tiny_kind to Stream = to
tiny_kind to Framed = Framed
tiny_kind to Text = Text

unfoldable pub tiny_cut : Kind → List Reading → Kind → Bytes → Cut
tiny_cut to script k [] = incomplete
tiny_cut to script k (n ∷ bs) = whole 1 (tiny_kind to k) (get_or script n blank)

unfoldable pub tiny_in : Kind → List Reading → Protocol
tiny_in to script = record { cut = tiny_cut to script; written = tiny_written; matches = tiny_matches }

-- whose streams become framed
abbrev pub tiny : List Reading → Protocol
tiny script = tiny_in Framed script

-- ---- scripts

-- a line of a script: a client says something, or the host makes a call of its own
infix 30 ◌says◌ ◌sends◌
pub data Line : Type 0 where
  ◌says◌ : ℕ → Action → Line
  ◌sends◌ : ℕ → Reading → Line
  begins commits : ℕ → Line
  host : Call → Line

unfoldable pub reading_of : Line → Reading
reading_of (i says a) = command (plain a)
reading_of (i sends r) = r
reading_of (begins i) = command begin
reading_of (commits i) = command commit
reading_of (host x) = blank

-- the call of the n-th line
unfoldable pub call_of : ℕ → Line → Call
call_of n (i says a) = feeds i (n ∷ [])
call_of n (i sends r) = feeds i (n ∷ [])
call_of n (begins i) = feeds i (n ∷ [])
call_of n (commits i) = feeds i (n ∷ [])
call_of n (host x) = x

-- the calls of the lines, the first of which is the n-th
unfoldable pub calls_of : ℕ → List Line → List Call
calls_of n [] = []
calls_of n (l ∷ ls) = call_of n l ∷ calls_of (suc n) ls

unfoldable pub tiny-definitions : Unit {0}
unfolding tiny_matches tiny_kind tiny_cut tiny_in reading_of call_of calls_of
tiny-definitions = tt

-- ---- the tiny reader and writer are lawful, so what the theorems ask can be had

kind-fixes : (k : Kind) → Fixes k (tiny_kind Framed k)
unfolding tiny_kind
kind-fixes Packets = record { keeps = inr refl; fixed = λ e. let z : ◌≡◌ {A = ℕ} 0 1 = cc in omega arith }
kind-fixes Stream = record { keeps = inl refl; fixed = λ e. let z : ◌≡◌ {A = ℕ} 0 1 = cc in omega arith }
kind-fixes Framed = record { keeps = inr refl; fixed = λ e. let z : ◌≡◌ {A = ℕ} 0 1 = cc in omega arith }
kind-fixes Text = record { keeps = inr refl; fixed = λ e. let z : ◌≡◌ {A = ℕ} 0 1 = cc in omega arith }

module _ (script : List Reading) where
  fixes : (k l : Kind) (bs : Bytes) (n : ℕ) (r : Reading) → tiny_cut Framed script k bs ≡ whole n l r → Fixes k l
  unfolding tiny_cut
  fixes k l [] n r e = let z : ◌≡◌ {A = ℕ} 0 1 = cc in absurd (omega arith)
  fixes k l (b ∷ bs) n r e = let q : tiny_kind Framed k ≡ l = cc in rw q at (kind-fixes k)

  consumes : (k l : Kind) (bs : Bytes) (n : ℕ) (r : Reading) → tiny_cut Framed script k bs ≡ whole n l r → n ≤ length bs
  unfolding tiny_cut
  consumes k l [] n r e = let z : ◌≡◌ {A = ℕ} 0 1 = cc in absurd (omega arith)
  consumes k l (b ∷ bs) n r e = let q : 1 ≡ n = cc in omega arith

  reads : (valid : Bytes → Bool)
      → ((n : ℕ) (a : Action) → get_or script n blank ≡ command (plain a) → ValidAction valid a)
      → (k l : Kind) (bs : Bytes) (n : ℕ) (a : Action) → tiny_cut Framed script k bs ≡ whole n l (command (plain a))
      → ValidAction valid a
  unfolding tiny_cut
  reads valid h k l [] n a e = let z : ◌≡◌ {A = ℕ} 0 1 = cc in absurd (omega arith)
  reads valid h k l (b ∷ bs) n a e = let q : get_or script b blank ≡ command (plain a) = cc in h b a q

  error-fits : (k : Kind) (r : Refusal) → length (tiny_written k (error r)) + 4 ≤ 64
  unfolding message_payload reason ascii
  error-fits k Unknown = omega arith
  error-fits k Parameter = omega arith
  error-fits k Room = omega arith
  error-fits k BadState = omega arith

  pub tiny-lawful : (valid : Bytes → Bool)
      → ((n : ℕ) (a : Action) → get_or script n blank ≡ command (plain a) → ValidAction valid a)
      → Lawful (tiny script) valid
  unfolding tiny_in
  tiny-lawful valid h = record { fixes = fixes; consumes = consumes; reads = reads valid h; error-fits = error-fits }
