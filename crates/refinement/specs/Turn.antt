-- A step as the broker does it: each action at its turn owes messages to the clients one by one, and at the end every
-- open client is settled.
use Rattle.std.specs.Prelude.{ℕ, List, [], ◌∷◌, Bool, cond, eqb}
use Rattle.protocol.specs.Terms.{Action, Protocol}
use Rattle.model.specs.Store.{Store}
use Rattle.model.specs.Step.{store_after, patterns_after, owes}
use Rattle.model.specs.Events.{on_client}
use Rattle.model.specs.State.{with_patterns}
use Rattle.slot.specs.Image.{ClientImage, owed_all, settled}
use Rattle.memory.specs.Image.{Image, with_store, on_slots}

module _ (protocol : Protocol) where
  -- a client at an action's turn; `mine` where the action is its own. A shut client stays as it is
  unfoldable pub at_turn : ℕ → Bool → Action → Store → ClientImage → ClientImage
  at_turn Q mine a s c =
      cond c.shut c
      (owed_all Q (owes protocol mine a s c.patterns) (with_patterns (patterns_after mine a c.patterns) c))

  -- a client after the turns of some actions
  unfoldable pub at_turns : ℕ → Bool → List Action → Store → ClientImage → ClientImage
  at_turns Q mine [] s c = c
  at_turns Q mine (a ∷ xs) s c = at_turns Q mine xs (store_after a s) (at_turn Q mine a s c)

  -- the memory after the turn of an action of slot i
  unfoldable pub after_turn : ℕ → Action → Image → Image
  after_turn i a im =
      with_store (store_after a im.store)
      (on_slots (λ j. on_client (at_turn im.sizes.queue_room (eqb j i) a im.store)) im)

  -- the memory after the turns of some actions
  unfoldable pub after_turns : ℕ → List Action → Image → Image
  after_turns i [] im = im
  after_turns i (a ∷ xs) im = after_turns i xs (after_turn i a im)

-- the memory at the end of a step
unfoldable pub settled_image : Image → Image
settled_image im = on_slots (λ j. on_client settled) im
