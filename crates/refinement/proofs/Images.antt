-- The server on the image of a state is the server on the state: rows of bytes keep what the server asks of a queue.
use mathlib.Core.Path.{◌≡◌, refl, sym, ap}
use mathlib.Core.List.{List, [], ◌∷◌, ◌++◌}
use mathlib.Core.Bool.{false}
use Prim.Native.Nat.{ℕ, ◌+◌, ◌<◌}
use native.Mathlib.Omega.{arith}
use lib.Dec.{eqb}
use lib.ListN.{length, length-append}
use lib.Seq.{drop-nil}
use borrow.Author.Tests.{ne_eqb}
use Rattle.octets.specs.Octets.{Bytes}
use Rattle.protocol.specs.Terms.{Protocol}
use Rattle.model.specs.Queueing.{first, rest, messages}
use Rattle.model.specs.State.{State, slot_at}
use Rattle.model.specs.Events.{Event, after_event}
use Rattle.model.specs.Decision.{Call}
use Rattle.model.specs.Calls.{decide}
use Rattle.model.proofs.Forms.{QueueIn, Keeps, decide-with, after_event-with}
use Rattle.queue.specs.Rows.{row, rows, is_empty, first_length, behind_first}
use Rattle.queue.specs.Meaning.{Queue, queue_with, kept}
use Rattle.queue.proofs.Rows.{length-row, rows_append, first_message-row, behind_first-row, is_empty-length}
use Rattle.slot.specs.Image.{in_bytes}
use Rattle.refinement.specs.Represents.{in_rows, state_image}
use Rattle.refinement.proofs.Steps.{length-rows}

-- every message of a queue is shorter than four bytes can count
pub data Short : List Bytes → Type 0 where
  no-message : Short []
  one_more : {m : Bytes} {ms : List Bytes} → length m < 4294967296 → Short ms → Short (m ∷ ms)

first_rows : (q : List Bytes) → Short q → in_bytes.first (in_rows q) ≡ first q
unfolding rows is_empty
first_rows [] h = refl
first_rows (m ∷ ms) (one_more l h) =
    let e : length (row m ++ rows ms) ≡ length m + 4 + length (rows ms) = rw (length-append, length-row) in
    let n : eqb (length (row m ++ rows ms)) 0 ≡ false = ne_eqb (length (row m ++ rows ms)) 0 (λ z. omega arith) in
    rw (is_empty-length (row m ++ rows ms), n, first_message-row m (rows ms) l)

behind_first-rows : (q : List Bytes) → Short q → behind_first (rows q) ≡ rows (rest q)
unfolding behind_first rows rest
behind_first-rows [] h = drop-nil (4 + first_length [])
behind_first-rows (m ∷ ms) (one_more l h) = behind_first-row m (rows ms) l

-- these bytes, and nothing pending
abbrev at_rest : Bytes → Queue
at_rest b = queue_with b (kept [])

keeps-rows : Keeps messages in_bytes in_rows Short
unfolding rows
keeps-rows =
    record {
      empty = refl;
      charge = length-rows;
      first = first_rows;
      rest = λ q h. ap at_rest (behind_first-rows q h);
      appended = λ q ms. ap at_rest (sym (rows_append q ms));
    }

module _ (protocol : Protocol) (st : State) (h : (i : ℕ) → QueueIn Short (slot_at i st)) where
  -- every decision on the image is the simple server's on the state
  pub decide-image : (x : Call) → decide protocol x (state_image st) ≡ decide protocol x st
  decide-image x = decide-with in_rows Short keeps-rows protocol x st h

  -- the image after an event is the image of the state after it
  pub after_event-image : (e : Event) → after_event protocol e (state_image st) ≡ state_image (after_event protocol e st)
  after_event-image e = after_event-with in_rows Short keeps-rows protocol e st h
