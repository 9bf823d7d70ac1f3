-- What a slot of the memory holds, in the middle of a step too: the simple server's client with its queue as the bytes that the memory
-- holds, and with what the running step owes it so far. And what each operation makes of it.
use Rattle.std.specs.Prelude.{ℕ, ◌≡◌, List, [], ◌∷◌, ◌++◌, Bool, cond, length, take}
use Rattle.std.proofs.Math.Option.{some, none}
use Rattle.octets.specs.Octets.{Bytes}
use Rattle.protocol.specs.Terms.{Action, Message, error}
use Rattle.protocol.specs.declared.Refusal.{Refusal}
use Rattle.protocol.specs.declared.Refusal.TheVariants.{Room}
use Rattle.message.specs.Forms.{written}
use Rattle.message.specs.Writing.{said}
use Rattle.message.specs.declared.Message.TheVariants.{Info}
use Rattle.queue.specs.Meaning as Q
use Rattle.queue.specs.Meaning.{Pending, kept, overflown, Queue, queue_with, owing}
use Rattle.queue.specs.Rows.{rows, is_empty, first_message}
use Rattle.model.specs.Step.{subscribed}
use Rattle.model.specs.Queueing.{Queueing}
use Rattle.model.specs.State.{begun, actions_in, after_slip, ClientOf, SlotOf, used, with_transaction, with_queue}
use Rattle.model.specs.Queue.{queue_fits, shut_by, with_error}
use Rattle.subscriptions.specs.Region.{matching}

-- a queue as the memory holds it: the untaken messages as bytes, and what is pending. Messages behind it are queued at
-- once, and what is pending is dropped.
abbrev pub in_bytes : Queueing
in_bytes =
    record {
      Queue = Queue;
      empty = Q.empty;
      charge = λ q. length q.queued;
      first = λ q. cond (is_empty q.queued) none (some (first_message q.queued));
      rest = Q.taken;
      appended = λ q ms. queue_with (q.queued ++ rows ms) (kept []);
    }

abbrev pub ClientImage : Type 0
ClientImage = ClientOf in_bytes

abbrev pub SlotImage : Type 0
SlotImage = SlotOf in_bytes

-- the client with one action more recorded
unfoldable pub recorded : Action → ClientImage → ClientImage
recorded a c = with_transaction (begun (actions_in c.transaction ++ (a ∷ []))) c

-- shutting, as the simple server does it
abbrev pub refused : Refusal → ClientImage → ClientImage
refused r c = shut_by written r c

-- whether the ERROR of a refusal fits beside what is queued to the client, whose queue has the room n
abbrev pub error_fits : ℕ → Refusal → ClientImage → Bool
error_fits n r c = queue_fits n (in_bytes.charge (in_bytes.appended c.queue (written c.kind (error r) ∷ [])))

-- a slip, as the simple server does it: the ERROR is queued, and a transaction is spoiled
unfoldable pub slipped : Refusal → ClientImage → ClientImage
slipped r c = with_error written r (with_transaction (after_slip c.transaction) c)

-- one message more is owed to the client, whose queue has the room R
unfoldable pub owed : ℕ → Message → ClientImage → ClientImage
owed R m c = with_queue (owing R (written c.kind m) c.queue) c

-- messages owed in order
unfoldable pub owed_all : ℕ → List Message → ClientImage → ClientImage
owed_all R [] c = c
owed_all R (m ∷ ms) c = owed_all R ms (owed R m c)

-- a key was written, and body is the key, or the key, NUL and its value; the key is the first n bytes of body. An open client with a
-- pattern for the key is owed one INFO, and any other client stays as it is.
unfoldable pub notified : ℕ → Bytes → ℕ → ClientImage → ClientImage
notified R body n c =
    cond c.shut c (cond (subscribed matching c.patterns (take n body)) (owed R (said Info body) c) c)

-- the end of a step: what is pending is queued, or the client is shut with 102
unfoldable pub settled_by : Pending → ClientImage → ClientImage
settled_by (kept p) c = with_queue (Q.settled c.queue) c
settled_by overflown c = refused Room c

-- the end of a step: a shut client stays as it is
unfoldable pub settled : ClientImage → ClientImage
settled c = cond c.shut c (settled_by c.queue.pending c)

-- between steps: a client, where there is one, is owed nothing
abbrev pub Resting : SlotImage → Type 0
Resting x = (c : ClientImage) → x ≡ used c → c.queue.pending ≡ kept []
