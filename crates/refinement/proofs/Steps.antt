-- Owing messages one by one and settling at the end is all or none: a step as the broker does it is a step of the
-- memory's server.
use mathlib.Core.Path.{◌≡◌, refl, sym, ap, ◌∙◌}
use mathlib.Core.List.{List, [], ◌∷◌, ◌++◌, map, map-append}
use mathlib.Core.Bool.{Bool, true, false, cond}
use Prim.Native.Nat.{ℕ, ◌+◌, ◌≤◌}
use native.Mathlib.Omega.{arith}
use lib.ListN.{length, length-append}
use Rattle.octets.specs.Octets.{Bytes}
use Rattle.protocol.specs.Terms.{Action, Message, Protocol}
use Rattle.protocol.specs.declared.Refusal.{Refusal}
use Rattle.protocol.specs.declared.Refusal.TheVariants.{Room}
use Rattle.message.specs.Forms.{written}
use Rattle.model.specs.Store.{Store}
use Rattle.model.specs.Patterns.{Patterns}
use Rattle.model.specs.Step.{store_after, patterns_after, patterns_after_all, owes, owes_all}
use Rattle.model.specs.Queueing.{queue_charge}
use Rattle.model.specs.Queue.{queue_fits, shut_by, with_messages, fits_all, after_step}
use Rattle.queue.specs.Rows.{rows}
use Rattle.queue.specs.Meaning.{Pending, kept, overflown, queue_with, fits, kept_rows, owed_all as owe_all}
use Rattle.queue.proofs.Rows.{length-row}
use Rattle.queue.proofs.Owed.{owed_all-append, owed_all-kept}
use Rattle.model.specs.State.{with_patterns, with_queue}
use Rattle.slot.specs.Image.{ClientImage, refused, owed, owed_all, settled_by, settled}
use Rattle.slot.proofs.Resting.{settled-shut}
use Rattle.refinement.specs.Turn.{at_turn, at_turns}

-- the length of a queue is what its messages charge
pub length-rows : (ms : List Bytes) → length (rows ms) ≡ queue_charge ms
unfolding rows queue_charge
length-rows [] = refl
length-rows (m ∷ ms) = rw (length-append, length-row, length-rows ms)

pub either : {A : Type 0} (b : Bool) → (b ≡ true → A) → (b ≡ false → A) → A
either true f g = f refl
either false f g = g refl

pub cond-true : {A : Type 0} (b : Bool) (x y : A) → b ≡ true → cond b x y ≡ x
cond-true true x y e = refl
cond-true false x y e = let z : ◌≡◌ {A = ℕ} 0 1 = cc in absurd (omega arith)

pub cond-false : {A : Type 0} (b : Bool) (x y : A) → b ≡ false → cond b x y ≡ y
cond-false true x y e = let z : ◌≡◌ {A = ℕ} 0 1 = cc in absurd (omega arith)
cond-false false x y e = refl

-- what is pending for a client once it is owed these messages
abbrev pub pending_after : ℕ → List Message → ClientImage → Pending
pending_after Q ms c = owe_all Q c.queue.queued c.queue.pending (map (written c.kind) ms)

-- owing messages changes nothing but what is pending
pub owed_all-pending : (Q : ℕ) (ms : List Message) (c : ClientImage)
    → owed_all Q ms c ≡ with_queue (queue_with c.queue.queued (pending_after Q ms c)) c
unfolding owed_all owed with_queue owe_all
owed_all-pending Q [] c = refl
owed_all-pending Q (m ∷ ms) c = owed_all-pending Q ms (owed Q m c)

-- The operations on a slot write by `message`, so what they do is asked to be a step only of a protocol that writes so,
-- as infod3 does by definition. How it reads and matches is left open.
abbrev pub WritesByMessage : Protocol → Type 0
WritesByMessage protocol = protocol.written ≡ written

-- a client is shut in the same way by every such protocol
pub shut_by-writer : (protocol : Protocol) → WritesByMessage protocol → (r : Refusal) (c : ClientImage)
    → refused r c ≡ shut_by protocol.written r c
unfolding shut_by
shut_by-writer protocol same_writer r c = rw same_writer

module _ (protocol : Protocol) (Q : ℕ) where
  -- an open client at an action's turn
  pub at_turn-open : (mine : Bool) (a : Action) (s : Store) (c : ClientImage) → c.shut ≡ false
      → at_turn protocol Q mine a s c
      ≡ with_queue (queue_with c.queue.queued (pending_after Q (owes protocol mine a s c.patterns) c))
      (with_patterns (patterns_after mine a c.patterns) c)
  unfolding at_turn with_patterns
  at_turn-open mine a s c o =
      cond-false c.shut c _ o
      ∙ owed_all-pending Q (owes protocol mine a s c.patterns) (with_patterns (patterns_after mine a c.patterns) c)

  -- an open client after some turns
  pub at_turns-open : (mine : Bool) (xs : List Action) (s : Store) (c : ClientImage) → c.shut ≡ false
      → at_turns protocol Q mine xs s c
      ≡ with_queue (queue_with c.queue.queued (pending_after Q (owes_all protocol mine xs s c.patterns) c))
      (with_patterns (patterns_after_all mine xs c.patterns) c)
  unfolding at_turns patterns_after_all owes_all with_patterns with_queue owe_all
  at_turns-open mine [] s c o = refl
  at_turns-open mine (a ∷ xs) s c o =
      ap (at_turns protocol Q mine xs (store_after a s)) (at_turn-open mine a s c o)
      ∙ at_turns-open mine xs (store_after a s)
      (with_queue (queue_with c.queue.queued (pending_after Q (owes protocol mine a s c.patterns) c))
      (with_patterns (patterns_after mine a c.patterns) c)) o
      ∙ rw (map-append, owed_all-append)

  pub at_turn-shut : (mine : Bool) (a : Action) (s : Store) (c : ClientImage) → c.shut ≡ true
      → at_turn protocol Q mine a s c ≡ c
  unfolding at_turn
  at_turn-shut mine a s c e = cond-true c.shut c _ e

  -- a shut client stays as it is
  pub at_turns-shut : (mine : Bool) (xs : List Action) (s : Store) (c : ClientImage) → c.shut ≡ true
      → at_turns protocol Q mine xs s c ≡ c
  unfolding at_turns
  at_turns-shut mine [] s c e = refl
  at_turns-shut mine (a ∷ xs) s c e =
      ap (at_turns protocol Q mine xs (store_after a s)) (at_turn-shut mine a s c e)
      ∙ at_turns-shut mine xs (store_after a s) c e

-- ---- settling

-- settling an open client
settled-by : (ps : Patterns) (c : ClientImage) (p : Pending) → c.shut ≡ false
    → settled (with_queue (queue_with c.queue.queued p) (with_patterns ps c))
    ≡ settled_by p (with_queue (queue_with c.queue.queued p) (with_patterns ps c))
unfolding settled with_queue with_patterns
settled-by ps c p o = cond-false c.shut _ _ o

settled_by-kept : (ps : Patterns) (c : ClientImage) (b : Bytes)
    → settled_by (kept b) (with_queue (queue_with c.queue.queued (kept b)) (with_patterns ps c))
    ≡ with_patterns ps (with_queue (queue_with (c.queue.queued ++ b) (kept [])) c)
unfolding settled_by with_queue with_patterns kept_rows
settled_by-kept ps c b = refl

settled_by-overflown : (ps : Patterns) (c : ClientImage)
    → settled_by overflown (with_queue (queue_with c.queue.queued overflown) (with_patterns ps c)) ≡ refused Room c
unfolding settled_by with_queue with_patterns shut_by
settled_by-overflown ps c = refl

module _ (protocol : Protocol) (same_writer : WritesByMessage protocol) (Q : ℕ) where
  -- what all the messages leave pending, from nothing
  pending-all : (ms : List Message) (c : ClientImage) → c.queue.pending ≡ kept [] → length c.queue.queued + 64 ≤ Q
      → pending_after Q ms c ≡ cond (fits_all protocol Q ms c) (kept (rows (map (written c.kind) ms))) overflown
  unfolding fits_all queue_fits fits
  pending-all ms c r room =
      let b : Bytes = c.queue.queued in
      let new : Bytes = rows (map (written c.kind) ms) in
      let e : length b + length {A = ℕ} [] + length new + 64 ≡ length (b ++ new) + 64 =
      omega (arith, length-append b new) in
      rw (r, same_writer) (owed_all-kept Q b [] (map (written c.kind) ms) (omega arith) ∙ rw e)

  -- an open client is given all, or is shut
  settled-all : (ps : Patterns) (ms : List Message) (c : ClientImage) (b : Bool)
      → settled_by (cond b (kept (rows (map (written c.kind) ms))) overflown)
      (with_queue (queue_with c.queue.queued (cond b (kept (rows (map (written c.kind) ms))) overflown))
      (with_patterns ps c))
      ≡ cond b (with_messages protocol ms ps c) (shut_by protocol.written Room c)
  unfolding with_messages with_patterns with_queue
  settled-all ps ms c true = settled_by-kept ps c (rows (map (written c.kind) ms)) ∙ rw same_writer
  settled-all ps ms c false = settled_by-overflown ps c ∙ shut_by-writer protocol same_writer Room c

  -- a step as the broker does it, for one client at rest that keeps 64 bytes back while it is open
  pub settled-at_turns : (mine : Bool) (xs : List Action) (s : Store) (c : ClientImage) → c.queue.pending ≡ kept []
      → (c.shut ≡ false → length c.queue.queued + 64 ≤ Q)
      → settled (at_turns protocol Q mine xs s c) ≡ after_step protocol Q mine xs s c
  unfolding after_step
  settled-at_turns mine xs s c r room =
      let ps : Patterns = patterns_after_all mine xs c.patterns in
      let ms : List Message = owes_all protocol mine xs s c.patterns in
      either c.shut
      (λ t. ap settled (at_turns-shut protocol Q mine xs s c t) ∙ settled-shut c t ∙ sym (cond-true c.shut c _ t))
      (λ t.
      ap settled (at_turns-open protocol Q mine xs s c t)
      ∙ settled-by ps c (pending_after Q ms c) t
      ∙ ap (λ (p : Pending). settled_by p (with_queue (queue_with c.queue.queued p) (with_patterns ps c)))
      (pending-all ms c r (room t))
      ∙ settled-all ps ms c (fits_all protocol Q ms c)
      ∙ sym (cond-false c.shut c _ t))
