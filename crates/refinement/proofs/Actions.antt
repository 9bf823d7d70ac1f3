-- The turn of each action as the broker does it: an action other than WRITE changes its own client alone; a WRITE
-- that changes something changes the store and notifies every client.
use mathlib.Core.Path.{◌≡◌, refl, sym, ap, ◌∙◌}
use mathlib.Core.List.{List, [], ◌∷◌, ◌++◌, append-nil}
use mathlib.Core.Bool.{Bool, true, false, cond}
use mathlib.Core.Option.{Option}
use Prim.Native.Nat.{ℕ}
use lib.Dec.{eqb}
use lib.ListN.{length, take, set}
use lib.Seq.{take-append_seam}
use Rattle.octets.specs.Octets.{Bytes, has_nul}
use Rattle.protocol.specs.Terms.{Action, write, value_tail, info}
use Rattle.protocol.specs.Terms.{Protocol}
use Rattle.model.specs.Store.{Store, store_after_write, changes}
use Rattle.model.specs.Patterns.{Patterns}
use Rattle.model.specs.Step.{store_after, patterns_after, subscribed, replies, notices, owes}
use Rattle.pattern.specs.Answer.{accepted}
use Rattle.message.specs.declared.Message.TheVariants.{Info}
use Rattle.message.specs.Writing.{said}
use Rattle.message.proofs.Theorems.{said-info}
use Rattle.subscriptions.specs.Region.{matching}
use Rattle.subscriptions.proofs.Lists.{subscribed-matches}
use Rattle.model.specs.State.{free, used, slot_at, with_patterns}
use Rattle.model.specs.Events.{on_client}
use Rattle.slot.specs.Image.{ClientImage, SlotImage, owed, owed_all, notified}
use Rattle.memory.specs.Image.{Image, with_store, with_slots, on_slot, on_slots}
use Rattle.refinement.specs.Turn.{at_turn, after_turn}
use Rattle.refinement.proofs.Steps.{cond-false}
use Rattle.model.proofs.Slots.{each_same}
use Rattle.refinement.proofs.Slots.{only, each-equal, on_slot-only}

cond_same : {A : Type 0} (b : Bool) (x : A) → cond b x x ≡ x
cond_same true x = refl
cond_same false x = refl

pub on_client-equal : {f g : ClientImage → ClientImage} → ((c : ClientImage) → f c ≡ g c) → (x : SlotImage)
    → on_client f x ≡ on_client g x
unfolding on_client
on_client-equal e free = refl
on_client-equal e (used c) = ap used (e c)

-- a change of one slot by functions that agree on what is in it
pub on_slot-equal : (i : ℕ) (f g : SlotImage → SlotImage) (im : Image) → f (slot_at i im) ≡ g (slot_at i im)
    → on_slot i f im ≡ on_slot i g im
unfolding on_slot
on_slot-equal i f g im e = ap (λ (x : SlotImage). with_slots (set im.slots i x) im) e

module _ (protocol : Protocol) where
  -- what an action other than WRITE makes of its own client
  unfoldable pub own_turn : ℕ → Action → Store → ClientImage → ClientImage
  own_turn Q a s c = owed_all Q (replies protocol a s) (with_patterns (patterns_after true a c.patterns) c)

  module _ (i : ℕ) (a : Action) (im : Image) (kept : store_after a im.store ≡ im.store)
      (quiet : (ps : Patterns) → notices protocol a im.store ps ≡ []) where
    other-turn : (c : ClientImage) → at_turn protocol im.sizes.queue_room false a im.store c ≡ c
    unfolding at_turn owes patterns_after with_patterns owed_all
    other-turn c = rw (quiet c.patterns) (cond_same c.shut c)

    own_turn-quiet : (c : ClientImage) → c.shut ≡ false
        → at_turn protocol im.sizes.queue_room true a im.store c ≡ own_turn im.sizes.queue_room a im.store c
    unfolding at_turn owes own_turn
    own_turn-quiet c o = cond-false c.shut c _ o ∙ rw (quiet c.patterns, append-nil)

    slot_turn : (b : Bool) (x : SlotImage)
        → on_client (at_turn protocol im.sizes.queue_room b a im.store) x
        ≡ cond b (on_client (at_turn protocol im.sizes.queue_room true a im.store) x) x
    unfolding on_client
    slot_turn true free = refl
    slot_turn true (used c) = refl
    slot_turn false free = refl
    slot_turn false (used c) = ap used (other-turn c)

    -- the turn of an action other than WRITE, of an open client
    pub after_turn-own : (c : ClientImage) → slot_at i im ≡ used c → c.shut ≡ false
        → after_turn protocol i a im ≡ on_slot i (on_client (own_turn im.sizes.queue_room a im.store)) im
    unfolding after_turn with_store on_slots with_slots on_client
    after_turn-own c w o =
        let f : SlotImage → SlotImage = on_client (at_turn protocol im.sizes.queue_room true a im.store) in
        let e : on_slots (λ j. on_client (at_turn protocol im.sizes.queue_room (eqb j i) a im.store)) im
        ≡ on_slots (only i f) im =
        ap (λ (l : List SlotImage). with_slots l im)
        (each-equal (λ j. on_client (at_turn protocol im.sizes.queue_room (eqb j i) a im.store)) (only i f)
        (λ j x. slot_turn (eqb j i) x) 0 im.slots) in
        ap (λ (s : Store). with_store s
        (on_slots (λ j. on_client (at_turn protocol im.sizes.queue_room (eqb j i) a im.store)) im)) kept
        ∙ e
        ∙ sym (on_slot-only i f im)
        ∙ on_slot-equal i f (on_client (own_turn im.sizes.queue_room a im.store)) im (rw w (ap used (own_turn-quiet c o)))

-- ---- WRITE

-- The operations on a slot match by `pattern`, so what they do is asked to be a turn only of a protocol that matches
-- so, as infod3 does by definition.
abbrev pub MatchesByPattern : Protocol → Type 0
MatchesByPattern protocol = (p k : Bytes) → protocol.matches p k ≡ accepted p k

module _ (protocol : Protocol) (same-matcher : MatchesByPattern protocol) (Q : ℕ) (k : Bytes) (v : Option Bytes)
    (clean : has_nul k ≡ false) (s : Store) (changed : changes k v s ≡ true) where
  told : said Info (k ++ value_tail v) ≡ info k v
  told = said-info k v clean

  -- what a WRITE that changes something makes of each client
  write-owes : (mine : Bool) (ps : Patterns)
      → owes protocol mine (write k v) s ps ≡ cond (subscribed matching ps k) (info k v ∷ []) []
  unfolding owes replies notices matching
  write-owes true ps = rw (changed, subscribed-matches protocol matching (λ p x. same-matcher p x) ps k)
  write-owes false ps = rw (changed, subscribed-matches protocol matching (λ p x. same-matcher p x) ps k)

  patterns-kept : (mine : Bool) (ps : Patterns) → patterns_after mine (write k v) ps ≡ ps
  unfolding patterns_after
  patterns-kept true ps = refl
  patterns-kept false ps = refl

  owed-if : (b : Bool) (c : ClientImage)
      → owed_all Q (cond b (info k v ∷ []) []) (with_patterns c.patterns c) ≡ cond b (owed Q (info k v) c) c
  unfolding owed_all with_patterns
  owed-if true c = refl
  owed-if false c = refl

  at_turn-write : (mine : Bool) (c : ClientImage)
      → at_turn protocol Q mine (write k v) s c ≡ notified Q (k ++ value_tail v) (length k) c
  unfolding at_turn notified
  at_turn-write mine c =
      let t : take (length k) (k ++ value_tail v) ≡ k = take-append_seam k (value_tail v) in
      rw (
        write-owes mine c.patterns,
        patterns-kept mine c.patterns,
        owed-if (subscribed matching c.patterns k) c,
        t,
        told,
      )

-- the turn of a WRITE that changes something
pub after_turn-write : (protocol : Protocol) → MatchesByPattern protocol
    → (i : ℕ) (k : Bytes) (v : Option Bytes) (im : Image) → has_nul k ≡ false → changes k v im.store ≡ true
    → after_turn protocol i (write k v) im
    ≡ with_store (store_after_write k v im.store)
    (on_slots (λ j. on_client (notified im.sizes.queue_room (k ++ value_tail v) (length k))) im)
unfolding after_turn store_after on_slots
after_turn-write protocol m i k v im clean changed =
    ap (λ (l : List SlotImage). with_store (store_after_write k v im.store) (with_slots l im))
    (each-equal (λ j. on_client (at_turn protocol im.sizes.queue_room (eqb j i) (write k v) im.store))
    (λ j. on_client (notified im.sizes.queue_room (k ++ value_tail v) (length k)))
    (λ j x. on_client-equal
    (at_turn-write protocol m im.sizes.queue_room k v clean im.store changed (eqb j i)) x) 0 im.slots)

module _ (protocol : Protocol) (Q : ℕ) (k : Bytes) (v : Option Bytes) (s : Store) (same : changes k v s ≡ false) where
  client-kept : (b : Bool) (c : ClientImage) → at_turn protocol Q b (write k v) s c ≡ c
  unfolding at_turn owes replies notices patterns_after with_patterns owed_all
  client-kept true c = rw same (cond_same c.shut c)
  client-kept false c = rw same (cond_same c.shut c)

  slot_kept : (b : Bool) (x : SlotImage) → on_client (at_turn protocol Q b (write k v) s) x ≡ x
  unfolding on_client
  slot_kept b free = refl
  slot_kept b (used c) = ap used (client-kept b c)

-- the turn of a WRITE that changes nothing
pub after_turn-unchanged : (protocol : Protocol) (i : ℕ) (k : Bytes) (v : Option Bytes) (im : Image)
    → store_after_write k v im.store ≡ im.store → changes k v im.store ≡ false
    → after_turn protocol i (write k v) im ≡ im
unfolding after_turn store_after on_slots with_store with_slots
after_turn-unchanged protocol i k v im kept same =
    rw kept
    (ap (λ (l : List SlotImage). with_slots l im)
    (each_same (λ j. on_client (at_turn protocol im.sizes.queue_room (eqb j i) (write k v) im.store))
    (λ j x. slot_kept protocol im.sizes.queue_room k v im.store same (eqb j i) x) 0 im.slots))
