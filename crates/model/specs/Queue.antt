-- A client's queue (document 01, "Queues" and "Shutting"; document 02, P2): what messages charge, what a step queues to
-- a client, how a client is shut, and the ERROR of one that stays open.
use Rattle.std.specs.Prelude.{ℕ, ◌+◌, List, [], ◌∷◌, map, Bool, true, cond, leb}
use Rattle.octets.specs.Octets.{Bytes}
use Rattle.protocol.specs.Terms.{Action, Message, error, Protocol}
use Rattle.protocol.specs.declared.Kind.{Kind}
use Rattle.protocol.specs.declared.Refusal.{Refusal}
use Rattle.protocol.specs.declared.Refusal.TheVariants.{Room}
use Rattle.model.specs.Store.{Store}
use Rattle.model.specs.Patterns.{Patterns}
use Rattle.model.specs.Step.{owes_all, patterns_after_all}
use Rattle.model.specs.Queueing.{Queueing}
use Rattle.model.specs.State.{off, ClientOf, with_patterns, with_queue}

-- messages as bytes, each in this kind
abbrev pub encoded : Protocol → Kind → List Message → List Bytes
encoded protocol k ms = map (protocol.written k) ms

-- whether what charges n fits in Q − 64: 64 of Q are kept back
unfoldable pub queue_fits : ℕ → ℕ → Bool
queue_fits Q n = leb (n + 64) Q

module _ {queueing : Queueing} where
  open queueing use {rest, appended}

  -- take: the client without its first message
  unfoldable pub after_take : ClientOf queueing → ClientOf queueing
  after_take c = with_queue (rest c.queue) c

  -- shutting, where messages are written so: one ERROR is queued; the patterns and the recording go; queued messages
  -- may still be taken
  unfoldable pub shut_by : (Kind → Message → Bytes) → Refusal → ClientOf queueing → ClientOf queueing
  shut_by written r c =
      record {
        kind = c.kind;
        hangs_up = c.hangs_up;
        shut = true;
        patterns = [];
        transaction = off;
        queue = appended c.queue (written c.kind (error r) ∷ []);
      }

  -- the client with one ERROR more queued, where messages are written so
  unfoldable pub with_error : (Kind → Message → Bytes) → Refusal → ClientOf queueing → ClientOf queueing
  with_error written r c = with_queue (appended c.queue (written c.kind (error r) ∷ [])) c

module _ (protocol : Protocol) {queueing : Queueing} where
  open queueing use {charge, appended}

  -- the client with these patterns and with these messages queued in order
  unfoldable pub with_messages : List Message → Patterns → ClientOf queueing → ClientOf queueing
  with_messages ms ps c = with_patterns ps (with_queue (appended c.queue (encoded protocol c.kind ms)) c)

  -- whether messages that are owed to the client all fit beside what its queue holds untaken
  unfoldable pub fits_all : ℕ → List Message → ClientOf queueing → Bool
  fits_all Q owed c = queue_fits Q (charge (appended c.queue (encoded protocol c.kind owed)))

  -- a client after a step: a shut one stays as it is; an open one gets all that it is owed if all fits, else none and
  -- is shut with 102
  unfoldable pub after_step : ℕ → Bool → List Action → Store → ClientOf queueing → ClientOf queueing
  after_step Q mine xs s c =
      cond c.shut c
      (cond (fits_all Q (owes_all protocol mine xs s c.patterns) c)
      (with_messages (owes_all protocol mine xs s c.patterns) (patterns_after_all mine xs c.patterns) c)
      (shut_by protocol.written Room c))

  -- the messages that a step queues to a client: all that it is owed, or none but the ERROR of the shutting
  unfoldable pub queued_by_step : ℕ → Bool → List Action → Store → ClientOf queueing → List Message
  queued_by_step Q mine xs s c =
      cond c.shut []
      (cond (fits_all Q (owes_all protocol mine xs s c.patterns) c)
      (owes_all protocol mine xs s c.patterns)
      (error Room ∷ []))
