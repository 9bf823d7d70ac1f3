-- One client through one step: for each pattern that it holds, the last INFO since the pattern was added carries each
-- key's present value.
use mathlib.Core.Path.{◌≡◌, refl, sym, ◌∙◌}
use mathlib.Core.List.{List, [], ◌∷◌, ◌++◌, append_assoc, append-nil}
use mathlib.Core.Bool.{Bool, true, false, cond, ◌&&◌}
use mathlib.Core.Option.{Option, some, none}
use Prim.Native.Nat.{ℕ, ◌≤◌}
use native.Mathlib.Omega.{arith}
use lib.ListN.{length, drop, length-append}
use lib.Seq.{drop-append-le, drop-append_seam}
use Rattle.octets.specs.Octets.{Bytes}
use Rattle.octets.specs.Order.{same}
use Rattle.protocol.specs.Terms.{Action, hello, sub, unsub, read, write, ping, Message, version, info, pong, error}
use Rattle.protocol.specs.Terms.{Protocol}
use Rattle.protocol.specs.declared.Refusal.{Refusal}
use Rattle.model.specs.Store.{Store, lookup, store_after_write, changes}
use Rattle.model.specs.Patterns.{Patterns, held, add_pattern, remove_pattern}
use Rattle.model.specs.Step.{store_after, patterns_after, store_after_all, patterns_after_all}
use Rattle.model.specs.Step.{subscribed, infos, replies, notices, owes, owes_all}
use Rattle.model.specs.Turn.{or_else, found_or}
use Rattle.model.specs.Log.{added_after, added_after_all}
use Rattle.model.specs.LastInfo.{info_for, last_info, UpToDate}
use Rattle.model.specs.Invariant.{Ascending}
use Rattle.model.proofs.Tests.{either, never}
use Rattle.model.proofs.Order.{same_true}
use Rattle.model.proofs.Stores.{lookup-store_after_write, unchanged, lookup-after}
use Rattle.model.proofs.Subscriptions.{held-append, held-remove_pattern}
use Rattle.model.proofs.Steps.{found_or-or_else, found-if, ascending-store_after}

-- the value that the messages leave a reader with, who knew `o` before them
unfoldable pub known : Option Bytes → Bytes → List Message → Option Bytes
known o k [] = o
known o k (version ∷ ms) = known o k ms
known o k (info x v ∷ ms) = known (cond (same k x) v o) k ms
known o k (pong i ∷ ms) = known o k ms
known o k (error r ∷ ms) = known o k ms

known-append : (o : Option Bytes) (k : Bytes) (a b : List Message) → known o k (a ++ b) ≡ known (known o k a) k b
unfolding known
known-append o k [] b = refl
known-append o k (version ∷ a) b = known-append o k a b
known-append o k (info x v ∷ a) b = known-append (cond (same k x) v o) k a b
known-append o k (pong i ∷ a) b = known-append o k a b
known-append o k (error r ∷ a) b = known-append o k a b

-- the last INFO decides what is known after the messages
known-last_info : (o : Option Bytes) (k : Bytes) (ms : List Message) → known o k ms ≡ found_or (last_info k ms) o
unfolding known last_info info_for
known-last_info o k [] = refl
known-last_info o k (version ∷ ms) = known-last_info o k ms ∙ sym (found_or-or_else (last_info k ms) none o)
known-last_info o k (info x v ∷ ms) =
    known-last_info (cond (same k x) v o) k ms
    ∙ rw (found-if (same k x) v o) (sym (found_or-or_else (last_info k ms) (cond (same k x) (some v) none) o))
known-last_info o k (pong i ∷ ms) = known-last_info o k ms ∙ sym (found_or-or_else (last_info k ms) none o)
known-last_info o k (error r ∷ ms) = known-last_info o k ms ∙ sym (found_or-or_else (last_info k ms) none o)

pub up-to-date : (k : Bytes) (ms : List Message) (o : Option Bytes) → known none k ms ≡ o → UpToDate (last_info k ms) o
up-to-date k ms o h =
    let e : found_or (last_info k ms) none ≡ o = sym (known-last_info none k ms) ∙ h in
    record { by-info = λ v q. rw q at e; by-none = λ q. sym (rw q at e) }

or_else-none : (o : Option Bytes) → or_else o none ≡ o
or_else-none none = refl
or_else-none (some v) = refl

or_else-self : (o : Option Bytes) → or_else o o ≡ o
or_else-self none = refl
or_else-self (some v) = refl

-- a pattern other than the one added was held before
held-earlier : (p q : Bytes) (ps : Patterns) → same p q ≡ false → held p (ps ++ (q ∷ [])) ≡ true → held p ps ≡ true
held-earlier p q ps n h =
    either (held p ps) (λ t. t) (λ t. never (sym (rw (held-append p q ps, t, n) at h)))

-- a pattern held after an UNSUB was held before
held-before : (p q : Bytes) (ps : Patterns) → held p (remove_pattern q ps) ≡ true → held p ps ≡ true
held-before p q ps h =
    either (same p q)
    (λ t. never (sym (rw (held-remove_pattern p q ps, t) at h)))
    (λ t. rw (held-remove_pattern p q ps, t) at h)

module _ (protocol : Protocol) where
  -- what a SUB sends of a key: its value, if the pattern matches it
  known-infos : (o : Option Bytes) (x p : Bytes) (s : Store) → Ascending s
      → known o x (infos protocol p s) ≡ cond (protocol.matches p x) (or_else (lookup x s) o) o
  unfolding Ascending infos known lookup
  known-infos o x p [] h = either (protocol.matches p x) (λ q. rw q) (λ q. rw q)
  known-infos o x p (e ∷ s) h =
      either (protocol.matches p e.key)
      (λ m. rw m (rw (known-infos (cond (same x e.key) (some e.value) o) x p s h.1)
      (either (same x e.key)
      (λ t. let q : x ≡ e.key = same_true x e.key t in
      let mx : protocol.matches p x ≡ true = rw q m in
      let ab : lookup x s ≡ none = rw q (lookup-after e.key s h.0) in
      rw (t, mx, ab))
      (λ t. rw t))))
      (λ m. rw m (rw (known-infos o x p s h.1)
      (either (same x e.key)
      (λ t. let q : x ≡ e.key = same_true x e.key t in
      let mx : protocol.matches p x ≡ false = rw q m in
      rw mx)
      (λ t. rw t))))

  subscribed-held : (p k : Bytes) (ps : Patterns) → held p ps ≡ true → protocol.matches p k ≡ true
      → subscribed protocol ps k ≡ true
  unfolding held subscribed
  subscribed-held p k [] h m = h
  subscribed-held p k (q ∷ ps) h m =
      either (same p q)
      (λ t. let e : p ≡ q = same_true p q t in let mq : protocol.matches q k ≡ true = rw e at m in rw mq)
      (λ t. either (protocol.matches q k) (λ mq. rw mq) (λ mq. rw mq (subscribed-held p k ps (rw t at h) m)))

  -- what a WRITE sends of a key to a client that watches it
  known-notices : (k x : Bytes) (v : Option Bytes) (s : Store) (ps : Patterns) (p : Bytes) → held p ps ≡ true
      → protocol.matches p k ≡ true
      → known (lookup k s) k (notices protocol (write x v) s ps) ≡ lookup k (store_after_write x v s)
  unfolding notices known
  known-notices k x v s ps p h m =
      rw (lookup-store_after_write k x v s) (either (same k x)
      (λ t. let q : k ≡ x = same_true k x t in
      let w : subscribed protocol ps x ≡ true = rw q at (subscribed-held p k ps h m) in
      either (changes x v s)
      (λ c. rw (c, w, t))
      (λ c. rw (c, t) (rw q (sym (unchanged x v s c)))))
      (λ t. either (changes x v s && subscribed protocol ps x) (λ c. rw (c, t)) (λ c. rw (c, t))))

  -- A client that holds these patterns and was queued these messages, each pattern added after as many as `f` says.
  pub record Informed (s : Store) (ps : Patterns) (ms : List Message) (f : Bytes → ℕ) : Type 0 where
    pub within : (p : Bytes) → held p ps ≡ true → f p ≤ length ms
    pub last : (p k : Bytes) → held p ps ≡ true → protocol.matches p k ≡ true
        → known none k (drop (f p) ms) ≡ lookup k s

  module _ (s : Store) (ps : Patterns) (ms : List Message) (f : Bytes → ℕ) (i : Informed s ps ms f) where
    on : (new : List Message) (p k : Bytes) → held p ps ≡ true → protocol.matches p k ≡ true
        → known none k (drop (f p) (ms ++ new)) ≡ known (lookup k s) k new
    on new p k h m =
        let b : f p ≤ length ms = i.within p h in
        rw (drop-append-le (f p) ms new b, known-append none k (drop (f p) ms) new, i.last p k h m)

    longer : (new : List Message) (p : Bytes) → held p ps ≡ true → f p ≤ length (ms ++ new)
    longer new p h = rw (length-append ms new) (omega (arith, i.within p h))

    -- more messages, under which each key's value stays what it is
    keep : (t : Store) (new : List Message)
        → ((p k : Bytes) → held p ps ≡ true → protocol.matches p k ≡ true → known (lookup k s) k new ≡ lookup k t)
        → Informed t ps (ms ++ new) f
    keep t new g =
        record {
          within = longer new;
          last = λ p k h m. on new p k h m ∙ g p k h m;
        }

    -- an ERROR says nothing of a key
    pub after-error : (r : Refusal) → Informed s ps (ms ++ (error r ∷ [])) f
    unfolding known
    after-error r = keep s (error r ∷ []) (λ p k h m. refl)

    infos-keep : Ascending s → (q k : Bytes) → known (lookup k s) k (infos protocol q s) ≡ lookup k s
    infos-keep a q k =
        rw (known-infos (lookup k s) k q s a)
        (either (protocol.matches q k) (λ m. rw (m, or_else-self (lookup k s))) (λ m. rw m))

    sub-new : Ascending s → (q : Bytes) → held q ps ≡ false
        → Informed s (ps ++ (q ∷ [])) (ms ++ infos protocol q s) (λ p. cond (same p q) (length ms) (f p))
    sub-new a q n =
        record {
          within = λ p h. either (same p q)
              (λ t. rw (t, length-append ms (infos protocol q s)) (omega arith))
              (λ t. rw t (longer (infos protocol q s) p (held-earlier p q ps t h)));
          last = λ p k h m. either (same p q)
              (λ t. let e : p ≡ q = same_true p q t in
              let mq : protocol.matches q k ≡ true = rw e at m in
              rw (t, drop-append_seam ms (infos protocol q s), known-infos none k q s a, mq)
              (or_else-none (lookup k s)))
              (λ t. rw t (on (infos protocol q s) p k (held-earlier p q ps t h) m ∙ infos-keep a q k));
        }

    turn-notices : (a : Action) → Informed (store_after a s) ps (ms ++ notices protocol a s ps) f
    unfolding store_after notices known
    turn-notices (hello t) = keep s [] (λ p k h m. refl)
    turn-notices (sub q) = keep s [] (λ p k h m. refl)
    turn-notices (unsub q) = keep s [] (λ p k h m. refl)
    turn-notices (read x) = keep s [] (λ p k h m. refl)
    turn-notices (write x v) =
        keep (store_after_write x v s) (notices protocol (write x v) s ps) (λ p k h m. known-notices k x v s ps p h m)
    turn-notices (ping x) = keep s [] (λ p k h m. refl)

    turn-sub : Ascending s → (q : Bytes)
        → Informed s (add_pattern q ps) (ms ++ infos protocol q s)
        (cond (held q ps) f (λ p. cond (same p q) (length ms) (f p)))
    unfolding add_pattern
    turn-sub a q =
        either (held q ps)
        (λ t. rw t (keep s (infos protocol q s) (λ p k h m. infos-keep a q k)))
        (λ t. rw t (sub-new a q t))

    turn-unsub : (q : Bytes) → Informed s (remove_pattern q ps) (ms ++ []) f
    unfolding known
    turn-unsub q =
        let j : Informed s ps (ms ++ []) f = keep s [] (λ p k h m. refl) in
        record {
          within = λ p h. j.within p (held-before p q ps h);
          last = λ p k h m. j.last p k (held-before p q ps h) m;
        }

    -- One action at its turn.
    pub turn : Ascending s → (mine : Bool) (a : Action)
        → Informed (store_after a s) (patterns_after mine a ps) (ms ++ owes protocol mine a s ps)
        (added_after mine a ps (length ms) f)
    unfolding store_after patterns_after owes replies notices added_after known
    turn a false x = turn-notices x
    turn a true (hello t) = keep s (version ∷ []) (λ p k h m. refl)
    turn a true (sub q) = rw append-nil (turn-sub a q)
    turn a true (unsub q) = turn-unsub q
    turn a true (read x) =
        keep s (info x (lookup x s) ∷ []) (λ p k h m. either (same k x)
        (λ t. rw t (rw (same_true k x t)))
        (λ t. rw t))
    turn a true (write x v) = turn-notices (write x v)
    turn a true (ping x) = keep s (pong x ∷ []) (λ p k h m. refl)

  -- All actions of a step, each at its turn.
  pub turns : (mine : Bool) (xs : List Action) (s : Store) (ps : Patterns) (ms : List Message) (f : Bytes → ℕ)
      → Ascending s → Informed s ps ms f
      → Informed (store_after_all xs s) (patterns_after_all mine xs ps) (ms ++ owes_all protocol mine xs s ps)
      (added_after_all protocol mine xs s ps (length ms) f)
  unfolding store_after_all patterns_after_all owes_all added_after_all
  turns mine [] s ps ms f a i = rw append-nil i
  turns mine (x ∷ xs) s ps ms f a i =
      let r = turns mine xs (store_after x s) (patterns_after mine x ps) (ms ++ owes protocol mine x s ps)
      (added_after mine x ps (length ms) f)
      (ascending-store_after x s a) (turn s ps ms f i a mine x) in
      rw (append_assoc, length-append) at r
