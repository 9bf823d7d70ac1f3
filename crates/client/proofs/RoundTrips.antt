-- What one end writes the other reads as the same message, by the calls of both ends: a command that `write_command`
-- writes in a form, at a client of the server (`command-round-trip`), and a message that the server writes, at
-- `read_message` (`message-round-trip`). `read_message` takes nothing else (`only-written`).
use mathlib.Core.Path.{◌≡◌, sym, subst, ◌∙◌}
use mathlib.Core.List.{◌∷◌, ◌++◌}
use mathlib.Core.Option.{some, none}
use mathlib.Core.Logic.{◌⊎◌, inl, inr}
use Prim.Native.Nat.{ℕ, ◌+◌, ◌<◌}
use lib.ListN.{length, take, drop, get_or}
use lib.Seq.{sets, take-append_seam}
use Rattle.octets.specs.Octets.{Bytes, Bounded}
use Rattle.protocol.specs.declared.Kind.{Kind}
use Rattle.protocol.specs.declared.Kind.TheVariants.{Packets, Stream, Framed, Text}
use Rattle.protocol.specs.Terms.{Message, message_id, message_payload, whole}
use Rattle.command.specs.Meaning.{reading_of}
use Rattle.command.specs.Refusals.{verdict}
use Rattle.message.specs.Forms.{encoded, written}
use Rattle.message.specs.Writing.{Outcome, writing}
use Rattle.wire.specs.Received.{received}
use Rattle.wire.specs.Verdict.{refusal_of}
use Rattle.wire.proofs.Refusals.{reading-verdict}
use Rattle.client.specs.Reading.{kind_of_form, read_of, read_message}
use Rattle.client.specs.Writing.{write_in, write_command}
use Rattle.message.proofs.Theorems.{encoded-framed}
use Rattle.client.proofs.ReceivedTheorems.{Follows, encoded-stream, message-received, ReadAs}
use Rattle.client.proofs.ReceivedTheorems.{received-written}
use Rattle.client.proofs.CommandTheorems.{Wrote, outcome-zero, command-written, command-received}
use Rattle.client.proofs.CommandTheorems.{text-command-received}

-- the bytes that a writer has left
abbrev sent : Outcome → Bytes
sent x = take x.count x.out

wrote-sent : {p e : Bytes} {x : Outcome} {o : Bytes} → Wrote p e x o → sent x ≡ e
wrote-sent {p} {e} {x} {o} w = rw (w.count, w.out) (take-append_seam e (drop (length e) o))

-- ---- commands

-- what the server knows of a client that speaks j: that it has packets; that it is a stream, whose kind is open or
-- fixed. The forms have no Stream.
abbrev pub Opened : Kind → Kind → Type 0
Opened Packets k = k ≡ Packets
Opened Stream k = ⊥
Opened Framed k = (k ≡ Stream) ⊎ (k ≡ Framed)
Opened Text k = (k ≡ Stream) ⊎ (k ≡ Text)

module _ (id : ℕ) (p : Bytes) (v : verdict id p ≡ none) (b : get_or p 0 0 < 256) where
  opened-received : (j k : Kind) → Opened j k → (t : Bytes) → Follows j t
      → received k (encoded j id p ++ t) ≡ whole (length (encoded j id p)) j (reading_of id p)
  opened-received Packets k e t f = rw e (command-received id p v b Packets t f)
  opened-received Stream k e t f = absurd e
  opened-received Framed k (inl e) t f =
      let q : encoded Stream id p ≡ encoded Framed id p = encoded-stream id p ∙ sym (encoded-framed id p) in
      rw (e, ← q) (command-received id p v b Stream t tt)
  opened-received Framed k (inr e) t f = rw e (command-received id p v b Framed t tt)
  opened-received Text k (inl e) t f = rw e (text-command-received id p v b t)
  opened-received Text k (inr e) t f = rw e (command-received id p v b Text t tt)

-- what the server reads in the bytes x that a writer of the command with this ID and payload has left, with t behind
-- them: that command, which is none that it refuses
pub record CommandRead (j k : Kind) (id : ℕ) (p : Bytes) (x : Outcome) (t : Bytes) : Type 0 where
  pub reads : received k (sent x ++ t) ≡ whole x.count j (reading_of id p)
  pub unrefused : refusal_of (reading_of id p) ≡ none

-- a command that is written in a form is read by the server as that command, whatever follows it on a stream
pub command-round-trip : (f : ℕ) (j k : Kind) (id : ℕ) (p o t : Bytes) → kind_of_form f ≡ some j → Opened j k
    → Follows j t → get_or p 0 0 < 256 → (write_command f (id ∷ p) o).number ≡ 0
    → CommandRead j k id p (write_command f (id ∷ p) o) t
unfolding write_command
command-round-trip f j k id p o t e q l b h =
    let g : write_command f (id ∷ p) o ≡ write_in j (id ∷ p) o = rw e in
    subst (λ (x : Outcome). CommandRead j k id p x t) (sym g) (by (rw g at h))
  where
    by : (write_in j (id ∷ p) o).number ≡ 0 → CommandRead j k id p (write_in j (id ∷ p) o) t
    by h =
        let w = command-written j id p o h in
        record {
          reads = rw (wrote-sent w.wrote, w.wrote.count) (opened-received id p w.unrefused b j k q t l);
          unrefused = reading-verdict id p ∙ w.unrefused;
        }

-- ---- messages

-- a message that the server has written in the kind of a form is read as that message, whatever follows it on a
-- stream, in a slice with room for it
pub message-round-trip : (f : ℕ) (j : Kind) (m : Message) (w o t : Bytes) → kind_of_form f ≡ some j → Follows j t
    → get_or (message_payload m) 0 0 < 256 → (writing j m w).number ≡ 0 → length (message_payload m) < length o
    → read_message f (sent (writing j m w) ++ t) o
    ≡ read_of 0 (writing j m w).count (length (message_payload m) + 1) (sets o 0 (message_id m ∷ message_payload m))
unfolding read_message
message-round-trip f j m w o t e l b h g =
    let q = outcome-zero (message_payload m) (written j m) w h in
    rw (e, wrote-sent q, q.count) (message-received j m t o l b q.short g)

-- an answer 0 means that the input begins with a message that the server writes, for the ID and the payload that were
-- handed out
pub only-written : (f : ℕ) (j : Kind) (s o : Bytes) → kind_of_form f ≡ some j → Bounded s
    → (read_message f s o).answer ≡ 0 → ReadAs j s o
unfolding read_message
only-written f j s o e b h = received-written j s o b (rw e at h)
