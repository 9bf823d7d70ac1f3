-- The turns of a step over the whole memory, and its end: a step of the memory's server.
use mathlib.Core.Path.{◌≡◌, refl, sym, ap, ◌∙◌}
use mathlib.Core.List.{List, [], ◌∷◌}
use mathlib.Core.Bool.{Bool, true, false, cond}
use Prim.Native.Nat.{ℕ, ◌+◌, ◌≤◌}
use lib.Dec.{eqb}
use lib.ListN.{length}
use Rattle.protocol.specs.Terms.{Action, Protocol}
use Rattle.protocol.specs.declared.Kind.{Kind}
use Rattle.model.specs.Store.{Store}
use Rattle.model.specs.Patterns.{Patterns}
use Rattle.model.specs.Step.{store_after, store_after_all, patterns_after, owes}
use Rattle.model.specs.Events.{stepped, store_after_event, on_client, each_slot}
use Rattle.queue.specs.Meaning.{Queue, queue_with, kept}
use Rattle.model.specs.State.{Transaction, off, free, used, with_kind, with_patterns, with_queue, with_transaction}
use Rattle.slot.specs.Image.{ClientImage, SlotImage}
use Rattle.slot.specs.Image.{settled}
use Rattle.memory.specs.Image.{Image, with_store, with_slots, on_slot, on_slots}
use Rattle.refinement.specs.Turn.{at_turn, at_turns, after_turn, after_turns, settled_image}
use Rattle.model.specs.Queue.{after_step}
use Rattle.model.specs.Events.{slot_after_event, after_event}
use Rattle.model.proofs.Slots.{each_same}
use Rattle.refinement.proofs.Slots.{Each, only, each-each, each-ext, each-equal, on_slot-only}
use Rattle.refinement.proofs.Slots.{on_client-same, on_client-on_client}
use Rattle.refinement.proofs.Steps.{either, WritesByMessage, pending_after}
use Rattle.refinement.proofs.Steps.{at_turn-shut, at_turn-open, settled-at_turns}

-- a client between steps: nothing is pending, and while it is open 64 bytes are kept back
pub record Resting (Q : ℕ) (c : ClientImage) : Type 0 where
  pub none-pending : c.queue.pending ≡ kept []
  pub kept_back : c.shut ≡ false → length c.queue.queued + 64 ≤ Q

abbrev pub RestingSlot : ℕ → SlotImage → Type 0
RestingSlot Q free = Unit {0}
RestingSlot Q (used c) = Resting Q c

with_queue-with_transaction : (r : Transaction) (q : Queue) (ps : Patterns) (c : ClientImage)
    → with_queue q (with_patterns ps (with_transaction r c)) ≡ with_transaction r (with_queue q (with_patterns ps c))
unfolding with_queue with_patterns with_transaction
with_queue-with_transaction r q ps c = refl

module _ (protocol : Protocol) where
  -- each slot after the turns of some actions
  abbrev turned : ℕ → ℕ → List Action → Store → ℕ → SlotImage → SlotImage
  turned Q i xs s j x = on_client (at_turns protocol Q (eqb j i) xs s) x

  -- the memory after some turns
  pub after_turns-slots : (i : ℕ) (xs : List Action) (im : Image)
      → after_turns protocol i xs im
      ≡ with_store (store_after_all xs im.store) (on_slots (turned im.sizes.queue_room i xs im.store) im)
  unfolding after_turns after_turn store_after_all with_store on_slots with_slots at_turns
  after_turns-slots i [] im =
      ap (λ (l : List SlotImage). with_slots l im)
      (sym (each_same (λ j x. on_client (λ c. c) x) (λ j x. on_client-same x) 0 im.slots))
  after_turns-slots i (a ∷ xs) im =
      let Q : ℕ = im.sizes.queue_room in
      let s : Store = im.store in
      after_turns-slots i xs (after_turn protocol i a im)
      ∙ ap (λ (l : List SlotImage). with_store (store_after_all xs (store_after a s)) (with_slots l im))
      (each-each (turned Q i xs (store_after a s)) (λ j x. on_client (at_turn protocol Q (eqb j i) a s) x) 0 im.slots
      ∙ each-equal
      (λ j x. turned Q i xs (store_after a s) j (on_client (at_turn protocol Q (eqb j i) a s) x))
      (turned Q i (a ∷ xs) s)
      (λ j x.
      on_client-on_client (at_turns protocol Q (eqb j i) xs (store_after a s)) (at_turn protocol Q (eqb j i) a s) x)
      0 im.slots)

  -- a turn does not look at the recording
  at_turn-with_transaction : (Q : ℕ) (mine : Bool) (a : Action) (s : Store) (r : Transaction) (c : ClientImage)
      → at_turn protocol Q mine a s (with_transaction r c) ≡ with_transaction r (at_turn protocol Q mine a s c)
  unfolding with_transaction
  at_turn-with_transaction Q mine a s r c =
      either c.shut
      (λ t.
      at_turn-shut protocol Q mine a s (with_transaction r c) t
      ∙ sym (ap (with_transaction r) (at_turn-shut protocol Q mine a s c t)))
      (λ t.
      at_turn-open protocol Q mine a s (with_transaction r c) t
      ∙ with_queue-with_transaction r
      (queue_with c.queue.queued (pending_after Q (owes protocol mine a s c.patterns) c))
      (patterns_after mine a c.patterns) c
      ∙ sym (ap (with_transaction r) (at_turn-open protocol Q mine a s c t)))

  at_turns-with_transaction : (Q : ℕ) (mine : Bool) (xs : List Action) (s : Store) (r : Transaction)
      (c : ClientImage)
      → at_turns protocol Q mine xs s (with_transaction r c) ≡ with_transaction r (at_turns protocol Q mine xs s c)
  unfolding at_turns
  at_turns-with_transaction Q mine [] s r c = refl
  at_turns-with_transaction Q mine (a ∷ xs) s r c =
      ap (at_turns protocol Q mine xs (store_after a s)) (at_turn-with_transaction Q mine a s r c)
      ∙ at_turns-with_transaction Q mine xs (store_after a s) r (at_turn protocol Q mine a s c)

module _ (protocol : Protocol) (same_writer : WritesByMessage protocol) where
  -- one slot: its kind fixed before the turns and its recording ended behind them if it is the feeder's, then settled
  slot-done : (Q i : ℕ) (k : Kind) (xs : List Action) (s : Store) (b : Bool) (x : SlotImage) → RestingSlot Q x
      → on_client settled
      (cond b
      (on_client (with_transaction off) (on_client (at_turns protocol Q b xs s) (cond b (on_client (with_kind k) x) x)))
      (on_client (at_turns protocol Q b xs s) (cond b (on_client (with_kind k) x) x)))
      ≡ cond b
      (on_client (λ c. after_step protocol Q true xs s (with_transaction off (with_kind k c))) x)
      (on_client (λ c. after_step protocol Q false xs s c) x)
  unfolding on_client with_transaction with_kind
  slot-done Q i k xs s true free h = refl
  slot-done Q i k xs s false free h = refl
  slot-done Q i k xs s true (used c) h =
      ap used
      (ap settled (sym (at_turns-with_transaction protocol Q true xs s off (with_kind k c)))
      ∙ settled-at_turns protocol same_writer Q true xs s (with_transaction off (with_kind k c)) h.none-pending
      h.kept_back)
  slot-done Q i k xs s false (used c) h =
      ap used (settled-at_turns protocol same_writer Q false xs s c h.none-pending h.kept_back)

  -- a step as the broker does it: the feeder's kind is fixed, the actions have their turns, the recording ends, all
  -- is settled
  pub step-done : (i : ℕ) (k : Kind) (xs : List Action) (im : Image)
      → Each (RestingSlot im.sizes.queue_room) im.slots
      → settled_image
      (on_slot i (on_client (with_transaction off)) (after_turns protocol i xs (on_slot i (on_client (with_kind k)) im)))
      ≡ after_event protocol (stepped i k xs) im
  unfolding after_event settled_image store_after_event slot_after_event on_slots with_store with_slots
  step-done i k xs im h =
      let Q : ℕ = im.sizes.queue_room in
      let s : Store = im.store in
      let fixed : ℕ → SlotImage → SlotImage = only i (on_client (with_kind k)) in
      let ended : ℕ → SlotImage → SlotImage = only i (on_client (with_transaction off)) in
      let turns : ℕ → SlotImage → SlotImage = turned protocol Q i xs s in
      ap (λ (t : Image).
      on_slots (λ j. on_client settled) (on_slot i (on_client (with_transaction off)) (after_turns protocol i xs t)))
      (on_slot-only i (on_client (with_kind k)) im)
      ∙ ap (λ (t : Image). on_slots (λ j. on_client settled) (on_slot i (on_client (with_transaction off)) t))
      (after_turns-slots protocol i xs (on_slots fixed im))
      ∙ ap (on_slots (λ j. on_client settled))
      (on_slot-only i (on_client (with_transaction off))
      (with_store (store_after_all xs s) (on_slots turns (on_slots fixed im))))
      ∙ ap (λ (l : List SlotImage). with_store (store_after_all xs s) (with_slots l im))
      (ap (λ (l : List SlotImage). each_slot (λ j. on_client settled) 0 (each_slot ended 0 l))
      (each-each turns fixed 0 im.slots)
      ∙ ap (each_slot (λ j. on_client settled) 0) (each-each ended (λ j x. turns j (fixed j x)) 0 im.slots)
      ∙ each-each (λ j. on_client settled) (λ j x. ended j (turns j (fixed j x))) 0 im.slots
      ∙ each-ext (λ j x. on_client settled (ended j (turns j (fixed j x))))
      (slot_after_event protocol Q (stepped i k xs) s)
      (λ j x r. slot-done Q i k xs s (eqb j i) x r) 0 h)
