-- Every refusal is 100, 101 or 102, and the first of these that holds (`refusal-order`); 103 is none of the wire's
-- (`never-state`).
use mathlib.Core.Path.{◌≡◌, refl, sym, ap, ◌∙◌}
use mathlib.Core.List.{[], ◌∷◌}
use mathlib.Core.Bool.{Bool, true, false, cond}
use mathlib.Core.Option.{Option, none, some}
use Prim.Native.Nat.{ℕ}
use native.Mathlib.Omega.{arith}
use Rattle.std.specs.Prelude.{Result, Ok, Err}
use Rattle.octets.specs.Octets.{Bytes}
use Rattle.protocol.specs.declared.Refusal.{Refusal}
use Rattle.protocol.specs.declared.Kind.{Kind}
use Rattle.protocol.specs.declared.Kind.TheVariants.{Packets, Stream, Framed, Text}
use Rattle.protocol.specs.declared.Refusal.TheVariants.{Unknown, Parameter, Room, State}
use Rattle.protocol.specs.Terms.{invalid}
use Rattle.framing.specs.Framing.{kind_of, ends_line}
use Rattle.words.specs.Words.{id_of}
use Rattle.text.specs.Fields.{trim, word, after_word}
use Rattle.text.specs.Payload.{payload_for}
use Rattle.text.specs.Line.{Line, blank, refused, message, payload_of, of_payload, of_id, begun, line_of}
use Rattle.command.specs.declared.Written.TheVariants.{Delete, Value}
use Rattle.command.specs.declared.Command.{Command}
use Rattle.command.specs.declared.Command.TheVariants.{Hello, Sub, Unsub, Read, Write, Begin, Commit, Ping}
use Rattle.command.specs.Commands.{command_of}
use Rattle.command.specs.Meaning.{meant, reading_of}
use Rattle.command.specs.Refusals as Refusals
use Rattle.command.proofs.Order.{refusal-verdict}
use Rattle.wire.specs.Received.{binary, last_byte, front, text_line, decoded_in, decoded, reading_line, reading}
use Rattle.wire.specs.Verdict.{is_unknown, is_bad, is_long, verdict, refusal_of}

-- ---- no decoded message is refused for its state

abbrev Stateless : Line → Type 0
Stateless blank = Unit {0}
Stateless (refused Unknown) = Unit {0}
Stateless (refused Parameter) = Unit {0}
Stateless (refused Room) = Unit {0}
Stateless (refused State) = ⊥
Stateless (message id p) = Unit {0}

of_payload-stateless : (id : ℕ) (o : Option Bytes) → Stateless (of_payload id o)
of_payload-stateless id none = tt
of_payload-stateless id (some p) = tt

of_id-stateless : (o : Option ℕ) (s : Bytes) → Stateless (of_id o s)
of_id-stateless none s = tt
of_id-stateless (some id) s = of_payload-stateless id (payload_of (payload_for id) s)

begun-stateless : (s : Bytes) → Stateless (begun s)
unfolding begun
begun-stateless [] = tt
begun-stateless (c ∷ s) = of_id-stateless (id_of (word (c ∷ s))) (after_word (c ∷ s))

line_of-stateless : (s : Bytes) → Stateless (line_of s)
unfolding line_of
line_of-stateless s = begun-stateless (trim s)

text_line-stateless : (m : Bytes) → Stateless (text_line m)
unfolding text_line
text_line-stateless m = by (ends_line (last_byte m))
  where
    by : (b : Bool) → Stateless (cond b (line_of (front m)) (refused Room))
    by true = line_of-stateless (front m)
    by false = tt

binary-stateless : (skip : ℕ) (m : Bytes) → Stateless (binary skip m)
unfolding binary
binary-stateless skip [] = tt
binary-stateless skip (id ∷ m) = tt

decoded_in-stateless : (k : Kind) (m : Bytes) → Stateless (decoded_in k m)
unfolding decoded_in
decoded_in-stateless Packets m = binary-stateless 0 m
decoded_in-stateless Stream m = tt
decoded_in-stateless Framed m = binary-stateless 2 m
decoded_in-stateless Text m = text_line-stateless m

-- ---- the order

meant-refusal : (p : Bytes) (c : Result Command Refusal) → refusal_of (meant p c) ≡ Refusals.refusal_of c
unfolding meant
meant-refusal p (Ok Hello) = refl
meant-refusal p (Ok Sub) = refl
meant-refusal p (Ok Unsub) = refl
meant-refusal p (Ok Read) = refl
meant-refusal p (Ok (Write k Delete)) = refl
meant-refusal p (Ok (Write k (Value at n))) = refl
meant-refusal p (Ok Begin) = refl
meant-refusal p (Ok Commit) = refl
meant-refusal p (Ok Ping) = refl
meant-refusal p (Err r) = refl

-- an ID and a payload are refused as their verdict says
pub reading-verdict : (id : ℕ) (p : Bytes) → refusal_of (reading_of id p) ≡ Refusals.verdict id p
reading-verdict id p = meant-refusal p (command_of id p) ∙ refusal-verdict id p

line-refusal : (l : Line) → Stateless l → refusal_of (reading_line l) ≡ verdict l
unfolding Refusals.verdict
line-refusal blank h = refl
line-refusal (refused Unknown) h = refl
line-refusal (refused Parameter) h = refl
line-refusal (refused Room) h = refl
line-refusal (refused State) h = absurd h
line-refusal (message id p) h = reading-verdict id p

-- a message is refused as an unknown message exactly where its word or ID is unknown; as a bad parameter exactly
-- where that is not so and something in it is bad; as no room exactly where none of these is so and something is too
-- long
pub refusal-order : (k : Kind) (m : Bytes) → refusal_of (reading k m) ≡ verdict (decoded k m)
refusal-order k m = line-refusal (decoded k m) (decoded_in-stateless (kind_of k m) m)

-- no message is refused for its state
pub never-state : (k : Kind) (m : Bytes) → reading k m ≡ invalid State → ⊥
never-state k m e =
    no (is_unknown (decoded k m)) (is_bad (decoded k m)) (is_long (decoded k m))
    (sym (refusal-order k m) ∙ ap refusal_of e)
  where
    no : (a b c : Bool) → cond a (some Unknown) (cond b (some Parameter) (cond c (some Room) none)) ≡ some State → ⊥
    no true b c e = let z : ◌≡◌ {A = ℕ} 0 1 = cc in omega arith
    no false true c e = let z : ◌≡◌ {A = ℕ} 0 1 = cc in omega arith
    no false false true e = let z : ◌≡◌ {A = ℕ} 0 1 = cc in omega arith
    no false false false e = let z : ◌≡◌ {A = ℕ} 0 1 = cc in omega arith
