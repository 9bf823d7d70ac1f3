-- What the functions of this crate ask and ensure, in the terms of the simple server: whether an action is refused
-- with 102 at its turn (`refuses`), and whether any action of a commit is (`refuses_any`). Document 01, COMMIT: "If any
-- WRITE or SUB would be refused at its turn, none is done and the answer is 102."
use Rattle.std.specs.Prelude.{ℕ, ◌≤◌, ◌≡◌, ◌≢◌, List, Bool, true, false, length, take, Option, MatchOption}
use Rattle.octets.specs.Octets.{Bytes}
use Rattle.protocol.specs.declared.command_id.CommandId.{CommandId}
use Rattle.protocol.specs.declared.command_id.CommandId.TheVariants.{Write}
use Rattle.protocol.specs.Ids.{id_of}
use Rattle.protocol.specs.Terms.{Action, sub}
use Rattle.command.specs.declared.Written.{Written}
use Rattle.command.specs.Commands.{Splits}
use Rattle.model.specs.Store.{Store, lookup}
use Rattle.model.specs.Patterns.{Patterns}
use Rattle.model.specs.Step.{store_after, patterns_after, refuses, store_after_all}
use Rattle.recording.specs.Encoding.{write_from, action_of, action_fine}
use Rattle.recording.specs.Region.{recording_fine}
use Rattle.recording.specs.Turn.{earlier}
use Rattle.recording.specs.Promises.{RowAt, Until}
use Rattle.store.specs.Region.{room_of, store_fine, store_of}
use Rattle.store.specs.Index.{Indexes}
use Rattle.store.specs.Operation.{charge}
use Rattle.subscriptions.specs.Region.{patterns_of, subscriptions_fine}
use Rattle.commit.specs.declared.Tally.{Tally}
use Rattle.commit.specs.Tally.{TallyOf}

-- the store as the action at an offset of the recording finds it: with the earlier actions done
unfoldable pub store_before : Bytes → Bytes → ℕ → Store
store_before st r at = store_after_all (earlier r at) (store_of st)

-- ---- what is asked

-- a store with an index of it, a recording and a client's subscriptions
pub record Tried (st : Bytes) (index : List ℕ) (r q : Bytes) : Type 0 where
  pub store-fine : store_fine st ≡ true
  pub indexed : Indexes (store_of st) index
  pub recording-fine : recording_fine r ≡ true
  pub patterns-fine : subscriptions_fine q ≡ true

-- a store with an index of it, and an offset of a recording
pub record Place (st : Bytes) (index : List ℕ) (r : Bytes) (at : ℕ) : Type 0 where
  pub store-fine : store_fine st ≡ true
  pub indexed : Indexes (store_of st) index
  pub until : Until r at

-- a payload that a WRITE can have at an offset of a recording, with an index of the store and the tally of the store
-- there
pub record WriteTurn (st : Bytes) (index : List ℕ) (r : Bytes) (at : ℕ) (p : Bytes) (t : Tally) : Type 0 where
  pub place : Place st index r at
  pub short : length p ≤ 65535
  pub tally : TallyOf (room_of st) (store_before st r at) t

-- a client's subscriptions, and an action that is no WRITE
pub record PatternTurn (q : Bytes) (id : CommandId) (p : Bytes) : Type 0 where
  pub patterns-fine : subscriptions_fine q ≡ true
  pub known : action_fine (id_of id) (length p) ≡ true
  pub other : id ≢ Write

-- an action's row at an offset of a recording, with an index of the store, the tally of the store there and a client's
-- subscriptions
pub record Turn (st : Bytes) (index : List ℕ) (r : Bytes) (at : ℕ) (q : Bytes) (t : Tally) : Type 0 where
  pub store-fine : store_fine st ≡ true
  pub indexed : Indexes (store_of st) index
  pub row : RowAt r at
  pub patterns-fine : subscriptions_fine q ≡ true
  pub tally : TallyOf (room_of st) (store_before st r at) t

-- ---- what is ensured

-- the action a is not refused: t is the tally of the store after it, and q' holds the patterns after it
pub record Accepted (S : ℕ) (a : Action) (s : Store) (q q' : Bytes) (t : Tally) : Type 0 where
  pub accepted : refuses S a s (patterns_of q) ≡ false
  pub tally : TallyOf S (store_after a s) t
  pub patterns : patterns_of q' ≡ patterns_after true a (patterns_of q)

-- The action a is tried out on the store s and the subscriptions q: there is no tally where it is refused.
pub record Taken (S : ℕ) (a : Action) (s : Store) (q q' : Bytes) (r : Option Tally) : Type 0 where
  pub outcome : MatchOption r (refuses S a s (patterns_of q) ≡ true) (Accepted S a s q q')
  pub patterns-fine : subscriptions_fine q' ≡ true

-- a WRITE of the payload is tried out, whatever the subscriptions are
pub record WriteTaken (S : ℕ) (p : Bytes) (s : Store) (r : Option Tally) : Type 0 where
  pub value : (q : Bytes) → subscriptions_fine q ≡ true → Taken S (write_from p) s q q r

-- an action that is no WRITE is tried out, whatever the store is
pub record PatternTaken (id : ℕ) (p : Bytes) (t : Tally) (q q' : Bytes) (r : Option Tally) : Type 0 where
  pub value : (S : ℕ) (s : Store) → TallyOf S s t → Taken S (action_of id p) s q q' r

-- the payload of a WRITE, by its parts and by the size of its key's row in the store, 0 where the key is absent
pub record Writing (st p : Bytes) (n : ℕ) (w : Written) (old : ℕ) : Type 0 where
  pub parts : Splits p n w
  pub row : old ≡ charge (take n p) (lookup (take n p) (store_of st))

-- whether a WRITE is refused, for each payload that has these parts, whatever the patterns are
pub record WriteRefused (st : Bytes) (n : ℕ) (w : Written) (old : ℕ) (b : Bool) : Type 0 where
  pub value : (p : Bytes) → Writing st p n w old → (ps : Patterns)
      → b ≡ refuses (room_of st) (write_from p) (store_of st) ps

-- whether a SUB of the pattern is refused, whatever the store is
pub record SubRefused (q p : Bytes) (b : Bool) : Type 0 where
  pub value : (S : ℕ) (s : Store) → b ≡ refuses S (sub p) s (patterns_of q)
