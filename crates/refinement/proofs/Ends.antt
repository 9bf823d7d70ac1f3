-- The end of a call: operations on a memory one after the other, and a memory that was between calls is so again.
use mathlib.Core.Path.{◌≡◌, refl, sym, ap, ◌∙◌}
use mathlib.Core.List.{List, [], ◌∷◌}
use mathlib.Core.Bool.{Bool, true, false, cond}
use Prim.Native.Nat.{ℕ, zero, suc, ◌≤◌}
use native.Mathlib.Omega.{arith}
use lib.Dec.{eqb, ltb}
use lib.ListN.{length, get_or, get_or-eq_default}
use borrow.Author.Tests.{ltb-true, ltb-false}
use Rattle.octets.specs.Octets.{Bytes}
use Rattle.protocol.specs.Terms.{Action, Message, Protocol}
use Rattle.protocol.specs.declared.Refusal.TheVariants.{Room}
use Rattle.model.specs.Store.{Store}
use Rattle.model.specs.Step.{owes_all, patterns_after_all}
use Rattle.model.specs.Events.{Event, idle, opened, closed, took, consumed, refused, slipped, stepped}
use Rattle.model.specs.Events.{on_client, each_slot}
use Rattle.model.specs.Events.{slot_after_event, after_event}
use Rattle.model.specs.State.{off, free, used, slot_at, new_client, with_kind, with_patterns, with_transaction, with_queue}
use Rattle.model.specs.Queue.{after_take, fits_all, with_messages, shut_by, with_error, after_step}
use Rattle.queue.specs.Meaning.{kept}
use Rattle.slot.specs.Image.{ClientImage, SlotImage, Resting}
use Rattle.memory.specs.Layout.{sizes_of}
use Rattle.memory.specs.Image.{Image, image_of, with_store, with_slots, on_slots}
use Rattle.memory.specs.Rules.{Sound, memory_fine, Becomes}
use Rattle.memory.proofs.Lent.{length-slots, sizes-image}
use Rattle.memory.proofs.Fine.{fine-resting, sound-fine}
use Rattle.refinement.specs.Promises.{Holds}

-- ---- one operation after the other

-- nothing is done
pub becomes-same : {m : Bytes} → Sound m → Becomes m m (image_of m)
becomes-same h = record { size = refl; sound = h; means = refl; behind = refl }

-- what the memory means, said another way
pub becomes-as : {a b : Bytes} {x y : Image} → x ≡ y → Becomes a b x → Becomes a b y
becomes-as e h = record { size = h.size; sound = h.sound; means = h.means ∙ e; behind = h.behind }

-- the sizes stay
pub becomes-sizes : {a b : Bytes} {x : Image} → Becomes a b x → x.sizes ≡ (image_of a).sizes → sizes_of b ≡ sizes_of a
becomes-sizes {a} {b} h e =
    sym (sizes-image b) ∙ (ap (λ (im : Image). im.sizes) h.means ∙ (e ∙ sizes-image a))

pub becomes-then : {a b c : Bytes} {x y : Image} → Becomes a b x → x.sizes ≡ (image_of a).sizes → Becomes b c y
    → Becomes a c y
becomes-then {a} {b} {c} h e k =
    record {
      size = k.size ∙ h.size;
      sound = k.sound;
      means = k.means;
      behind = rw (becomes-sizes h e) at k.behind ∙ h.behind;
    }

-- ---- every client at rest

resting-used : {c d : ClientImage} → d.queue.pending ≡ c.queue.pending → Resting (used c) → Resting (used d)
resting-used {c} {d} e r w q = let z : w.queue.pending ≡ d.queue.pending = cc in z ∙ (e ∙ r c refl)

resting-kept : {c : ClientImage} → c.queue.pending ≡ kept [] → Resting (used c)
resting-kept {c} e w q = let z : w.queue.pending ≡ c.queue.pending = cc in z ∙ e

resting-client : (f : ClientImage → ClientImage) → ((c : ClientImage) → Resting (used c) → Resting (used (f c)))
    → (x : SlotImage) → Resting x → Resting (on_client f x)
unfolding on_client
resting-client f h free r = r
resting-client f h (used c) r = h c r

resting-if : (b : Bool) (x y : SlotImage) → Resting x → Resting y → Resting (cond b x y)
resting-if true x y r s = r
resting-if false x y r s = s

resting-either : (b : Bool) (c d : ClientImage) → Resting (used c) → Resting (used d) → Resting (used (cond b c d))
resting-either true c d r s = r
resting-either false c d r s = s

resting-free : Resting free
resting-free c e = let z : ◌≡◌ {A = ℕ} 0 1 = cc in absurd (omega arith)

each-resting : (f : ℕ → SlotImage → SlotImage) → ((j : ℕ) (x : SlotImage) → Resting x → Resting (f j x)) → (n : ℕ)
    (xs : List SlotImage)
    → ((j : ℕ) → Resting (get_or xs j free)) → (j : ℕ) → Resting (get_or (each_slot f n xs) j free)
unfolding each_slot
each-resting f h n [] r j = r j
each-resting f h n (x ∷ xs) r zero = h n x (r 0)
each-resting f h n (x ∷ xs) r (suc j) = each-resting f h (suc n) xs (λ i. r (suc i)) j

module _ (protocol : Protocol) where
  resting-step : (Q : ℕ) (mine : Bool) (xs : List Action) (s : Store) (c : ClientImage) → Resting (used c)
      → Resting (used (after_step protocol Q mine xs s c))
  unfolding after_step with_messages with_patterns with_queue shut_by
  resting-step Q mine xs s c r =
      let owed : List Message = owes_all protocol mine xs s c.patterns in
      let all : ClientImage = with_messages protocol owed (patterns_after_all mine xs c.patterns) c in
      let fits : Bool = fits_all protocol Q owed c in
      resting-either c.shut c (cond fits all (shut_by protocol.written Room c)) r
      (resting-either fits all (shut_by protocol.written Room c) (resting-kept {c = all} refl)
      (resting-kept {c = shut_by protocol.written Room c} refl))

  resting-event : (Q : ℕ) (e : Event) (s : Store) (j : ℕ) (x : SlotImage) → Resting x
      → Resting (slot_after_event protocol Q e s j x)
  unfolding slot_after_event new_client after_take with_queue with_transaction with_kind shut_by with_error
  resting-event Q idle s j x r = r
  resting-event Q (opened i k) s j x r = resting-if (eqb j i) _ _ (resting-kept refl) r
  resting-event Q (closed i) s j x r = resting-if (eqb j i) _ _ resting-free r
  resting-event Q (took i) s j x r =
      resting-if (eqb j i) _ _ (resting-client after_take (λ c p. resting-used refl p) x r) r
  resting-event Q (consumed i k o) s j x r =
      resting-if (eqb j i) _ _
      (resting-client (λ c. with_transaction o (with_kind k c)) (λ c p. resting-used refl p) x r) r
  resting-event Q (refused i k o) s j x r =
      resting-if (eqb j i) _ _
      (resting-client (λ c. shut_by protocol.written o (with_transaction off (with_kind k c)))
      (λ c p. resting-kept refl) x r) r
  resting-event Q (slipped i k o t) s j x r =
      resting-if (eqb j i) _ _
      (resting-client (λ c. with_error protocol.written o (with_transaction t (with_kind k c)))
      (λ c p. resting-kept refl) x r) r
  resting-event Q (stepped i k xs) s j x r =
      resting-if (eqb j i) _ _
      (resting-client (λ c. after_step protocol Q true xs s (with_transaction off (with_kind k c)))
      (λ c p. resting-step Q true xs s (with_transaction off (with_kind k c)) (resting-used refl p)) x r)
      (resting-client (λ c. after_step protocol Q false xs s c) (λ c p. resting-step Q false xs s c p) x r)

  -- an event leaves every client at rest
  resting-after : (e : Event) (im : Image) → ((j : ℕ) → Resting (slot_at j im)) → (j : ℕ)
      → Resting (slot_at j (after_event protocol e im))
  unfolding slot_at after_event with_store on_slots with_slots
  resting-after e im r j =
      each-resting (slot_after_event protocol im.sizes.queue_room e im.store)
      (λ i x p. resting-event im.sizes.queue_room e im.store i x p) 0 im.slots r j

-- every slot of a memory between calls, one past its end too
pub all-resting : (m : Bytes) → memory_fine m ≡ true → (j : ℕ) → Resting (slot_at j (image_of m))
unfolding slot_at
all-resting m h j = go (ltb j (sizes_of m).slot_count) refl
  where
    go : (b : Bool) → ltb j (sizes_of m).slot_count ≡ b → Resting (slot_at j (image_of m))
    go true e = fine-resting m h j (ltb-true j (sizes_of m).slot_count e)
    go false e =
        let w : length (image_of m).slots ≤ j = omega (arith, length-slots m, ltb-false j (sizes_of m).slot_count e) in
        rw (get_or-eq_default (image_of m).slots free w) resting-free

-- ---- the end of a call

-- A memory that was between calls, and became what an event makes of it, is between calls again.
pub event-done : (protocol : Protocol) (e : Event) {m m' : Bytes} → memory_fine m ≡ true
    → Becomes m m' (after_event protocol e (image_of m)) → Holds m' (after_event protocol e (image_of m))
event-done protocol e {m} {m'} f h =
    record {
      fine = sound-fine m' h.sound
          (λ i l. rw h.means (resting-after protocol e (image_of m) (all-resting m f) i));
      means = h.means;
    }
