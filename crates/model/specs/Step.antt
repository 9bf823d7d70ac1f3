-- One step (document 01, "The simple server"): the actions that run, a single one or a commit's, each at its turn.
-- For each action: the store and the patterns after it, whether it is refused, and what it owes each client. A
-- client of whom `mine` is true is the one that the actions come from.
use Rattle.std.specs.Prelude.{ℕ, List, [], ◌∷◌, ◌++◌, Bool, true, false, cond, not, ◌&&◌, ◌||◌, ltb, length}
use Rattle.std.proofs.Math.Option.{some}
use Rattle.octets.specs.Octets.{Bytes}
use Rattle.protocol.specs.Terms.{Action, hello, sub, unsub, read, write, ping, Message, version, info, pong, Protocol}
use Rattle.model.specs.Store.{Store, lookup, store_after_write, store_fits, changes}
use Rattle.model.specs.Patterns.{Patterns, add_pattern, remove_pattern}

-- the store after an action: only a WRITE changes it
unfoldable pub store_after : Action → Store → Store
store_after (hello t) s = s
store_after (sub p) s = s
store_after (unsub p) s = s
store_after (read k) s = s
store_after (write k v) s = store_after_write k v s
store_after (ping i) s = s

-- a client's patterns after an action: only its own SUB and UNSUB change them
unfoldable pub patterns_after : Bool → Action → Patterns → Patterns
patterns_after false a ps = ps
patterns_after true (hello t) ps = ps
patterns_after true (sub p) ps = add_pattern p ps
patterns_after true (unsub p) ps = remove_pattern p ps
patterns_after true (read k) ps = ps
patterns_after true (write k v) ps = ps
patterns_after true (ping i) ps = ps

-- whether an action is refused with 102 at its turn: a WRITE by the store after it, a SUB by a 17th distinct pattern
unfoldable pub refuses : ℕ → Action → Store → Patterns → Bool
refuses S (hello t) s ps = false
refuses S (sub p) s ps = ltb 16 (length (add_pattern p ps))
refuses S (unsub p) s ps = false
refuses S (read k) s ps = false
refuses S (write k v) s ps = not (store_fits S (store_after_write k v s))
refuses S (ping i) s ps = false

-- the store after actions in order
unfoldable pub store_after_all : List Action → Store → Store
store_after_all [] s = s
store_after_all (a ∷ xs) s = store_after_all xs (store_after a s)

-- a client's patterns after actions in order
unfoldable pub patterns_after_all : Bool → List Action → Patterns → Patterns
patterns_after_all mine [] ps = ps
patterns_after_all mine (a ∷ xs) ps = patterns_after_all mine xs (patterns_after mine a ps)

-- whether any of the actions is refused at its turn, with the earlier ones done
unfoldable pub refuses_any : ℕ → List Action → Store → Patterns → Bool
refuses_any S [] s ps = false
refuses_any S (a ∷ xs) s ps = refuses S a s ps || refuses_any S xs (store_after a s) (patterns_after true a ps)

module _ (protocol : Protocol) where
  -- whether at least one of the patterns matches the key
  unfoldable pub subscribed : Patterns → Bytes → Bool
  subscribed [] k = false
  subscribed (p ∷ ps) k = cond (protocol.matches p k) true (subscribed ps k)

  -- INFO for each entry that the pattern matches, in store order
  unfoldable pub infos : Bytes → Store → List Message
  infos p [] = []
  infos p (e ∷ s) = cond (protocol.matches p e.key) (info e.key (some e.value) ∷ infos p s) (infos p s)

  -- what an action sends back to its own client
  unfoldable pub replies : Action → Store → List Message
  replies (hello t) s = version ∷ []
  replies (sub p) s = infos p s
  replies (unsub p) s = []
  replies (read k) s = info k (lookup k s) ∷ []
  replies (write k v) s = []
  replies (ping i) s = pong i ∷ []

  -- what an action sends to a client because of its patterns: one INFO for a WRITE that changes a key they match
  unfoldable pub notices : Action → Store → Patterns → List Message
  notices (hello t) s ps = []
  notices (sub p) s ps = []
  notices (unsub p) s ps = []
  notices (read k) s ps = []
  notices (write k v) s ps = cond (changes k v s && subscribed ps k) (info k v ∷ []) []
  notices (ping i) s ps = []

  -- what an action owes a client: the writer gets notices as every other client does
  unfoldable pub owes : Bool → Action → Store → Patterns → List Message
  owes true a s ps = replies a s ++ notices a s ps
  owes false a s ps = notices a s ps

  -- all that a step owes a client: what each action gives it, at its turn and in the step's order
  unfoldable pub owes_all : Bool → List Action → Store → Patterns → List Message
  owes_all mine [] s ps = []
  owes_all mine (a ∷ xs) s ps = owes mine a s ps ++ owes_all mine xs (store_after a s) (patterns_after mine a ps)
