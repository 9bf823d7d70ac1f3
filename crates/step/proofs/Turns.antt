-- The turn of each action but WRITE, of an open client: what its function asks and what it leaves.
use mathlib.Core.Path.{◌≡◌, refl, sym, subst}
use mathlib.Core.List.{[], ◌++◌}
use Prim.Native.Nat.{ℕ, ◌≤◌}
use lib.ListN.{length}
use borrow.Author.Tests.{leb-true, ltb-false, not-false}
use Rattle.octets.specs.Octets.{Bytes}
use Rattle.protocol.specs.Terms.{Action, hello, sub, unsub, read, ping, value_tail, version, pong}
use Rattle.message.specs.declared.Message.TheVariants.{Version, Info, Pong}
use Rattle.message.specs.Writing.{said}
use Rattle.model.specs.Store.{lookup}
use Rattle.model.specs.Patterns.{Patterns}
use Rattle.model.specs.Step.{store_after, patterns_after, refuses, replies, notices, infos}
use Rattle.recording.specs.Encoding.{action_of, write_from, action_fine}
use Rattle.recording.proofs.Packed.{action_fine-short}
use Rattle.infod3.specs.Infod3.{infod3}
use Rattle.model.specs.State.{with_patterns, slot_at}
use Rattle.slot.specs.Image.{ClientImage, owed, owed_all}
use Rattle.memory.specs.Image.{image_of, client_in}
use Rattle.memory.specs.Rules.{Becomes}
use Rattle.memory.specs.Promises.{InOpen, Changes, Addable, Owing, pattern_added, pattern_removed}
use Rattle.memory.proofs.Lent.{used-is, open-used, open-not-shut}
use Rattle.refinement.specs.Turn.{after_turn}
use Rattle.refinement.proofs.Ends.{becomes-as}
use Rattle.refinement.proofs.Actions.{own_turn, after_turn-own}
use Rattle.step.specs.TurnParts.{refused_in, Turning, Writing}
use Rattle.step.proofs.Clients.{changes-equal, changes-sizes, changes-store, changes-then, changes-open}
use Rattle.step.proofs.Entries.{owed-info}

-- ---- what the functions ask

module _ {m : Bytes} {i : ℕ} {p : Bytes} where
  -- the ID, once it is known
  pub turn-as : {id n : ℕ} → id ≡ n → Turning m i id p → Turning m i n p
  turn-as e t = subst (λ (n : ℕ). Turning m i n p) e t

  pub turn-short : {id : ℕ} → Turning m i id p → length p ≤ 65535
  turn-short {id} t = action_fine-short id (length p) t.known

  pub turn-addable : Turning m i 1 p → Addable m i p
  unfolding refused_in refuses action_of action_fine
  turn-addable t =
      record { in-open = t.in-open; short = leb-true (length p) 255 t.known; few = ltb-false _ _ t.allowed }

  pub turn-writing : Turning m i 4 p → Writing m p
  unfolding refused_in refuses action_of write_from store_after
  turn-writing t =
      record {
        sound = t.in-open.in-slot.sound;
        short = turn-short t;
        fits = not-false _ t.allowed;
      }

-- ---- what they leave

-- an action that changes nothing but its own client
module _ (m : Bytes) (i : ℕ) (a : Action) (kept : store_after a (image_of m).store ≡ (image_of m).store)
    (quiet : (ps : Patterns) → notices infod3 a (image_of m).store ps ≡ []) where
  own-becomes : InOpen m i → (f : ClientImage → ClientImage)
      → ((c : ClientImage) → f c ≡ own_turn infod3 (image_of m).sizes.queue_room a (image_of m).store c) → {m' : Bytes}
      → Changes i f m m' → Becomes m m' (after_turn infod3 i a (image_of m))
  own-becomes o f e k =
      let x = slot_at i (image_of m) in
      let h = o.has-open in
      let u = used-is x (open-used x h) in
      becomes-as (sym (after_turn-own infod3 i a (image_of m) kept quiet (client_in x) u (open-not-shut x h)))
      (changes-equal i f (own_turn infod3 (image_of m).sizes.queue_room a (image_of m).store) e k)

module _ {m m' : Bytes} {i : ℕ} (o : InOpen m i) where
  pub hello-becomes : (p b : Bytes) → Owing i (said Version b) m m'
      → Becomes m m' (after_turn infod3 i (hello p) (image_of m))
  unfolding said store_after notices own_turn replies patterns_after owed_all with_patterns
  hello-becomes p b k =
      own-becomes m i (hello p) refl (λ ps. refl) o (owed (image_of m).sizes.queue_room version) (λ c. refl) k

  pub ping-becomes : (p : Bytes) → Owing i (said Pong p) m m' → Becomes m m' (after_turn infod3 i (ping p) (image_of m))
  unfolding said store_after notices own_turn replies patterns_after owed_all with_patterns
  ping-becomes p k =
      own-becomes m i (ping p) refl (λ ps. refl) o (owed (image_of m).sizes.queue_room (pong p)) (λ c. refl) k

  pub unsub-becomes : (p : Bytes) → Changes i (pattern_removed p) m m'
      → Becomes m m' (after_turn infod3 i (unsub p) (image_of m))
  unfolding pattern_removed store_after notices own_turn replies patterns_after owed_all
  unsub-becomes p k = own-becomes m i (unsub p) refl (λ ps. refl) o (pattern_removed p) (λ c. refl) k

  -- READ: the body is the key with its value, or the key alone
  pub read-becomes : (key b : Bytes) → b ≡ key ++ value_tail (lookup key (image_of m).store) → Owing i (said Info b) m
      m'
      → Becomes m m' (after_turn infod3 i (read key) (image_of m))
  unfolding store_after notices own_turn replies patterns_after owed_all with_patterns
  read-becomes key b e k =
      own-becomes m i (read key) refl (λ ps. refl) o (owed (image_of m).sizes.queue_room (said Info b))
      (λ c. rw e (owed-info (image_of m).sizes.queue_room key (lookup key (image_of m).store) c)) k

  -- SUB: the client that gets a pattern more stays open
  pub added-open : (p : Bytes) → Changes i (pattern_added p) m m' → InOpen m' i
  unfolding pattern_added with_patterns
  added-open p k = changes-open i (pattern_added p) k o (λ c. refl)

  -- and then all INFOs are owed
  pub sub-becomes : (p : Bytes) {m₁ : Bytes} → Changes i (pattern_added p) m m₁
      → Changes i (owed_all (image_of m₁).sizes.queue_room (infos infod3 p (image_of m₁).store)) m₁ m'
      → Becomes m m' (after_turn infod3 i (sub p) (image_of m))
  unfolding pattern_added store_after notices own_turn replies patterns_after
  sub-becomes p {m₁} h k =
      let f : ClientImage → ClientImage =
      owed_all (image_of m).sizes.queue_room (infos infod3 p (image_of m).store) in
      own-becomes m i (sub p) refl (λ ps. refl) o (λ c. f (pattern_added p c)) (λ c. refl)
      (changes-then i (pattern_added p) h o.in-slot f
      (changes-equal i (owed_all (image_of m₁).sizes.queue_room (infos infod3 p (image_of m₁).store)) f
      (λ c. rw (changes-sizes i (pattern_added p) h, changes-store i (pattern_added p) h)) k))
