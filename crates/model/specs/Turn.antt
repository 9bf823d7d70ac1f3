-- What an action of a commit finds at its turn (document 01, "The simple server", COMMIT), from the recorded actions
-- before it and what was there at the COMMIT. The step itself runs the actions one after the other; these say the
-- same without running them.
use Rattle.std.specs.Prelude.{List, [], ◌∷◌, Bool, true, false, cond}
use Rattle.std.proofs.Math.Option.{Option, some, none}
use Rattle.octets.specs.Octets.{Bytes}
use Rattle.octets.specs.Order.{same}
use Rattle.protocol.specs.Terms.{Action, hello, sub, unsub, read, write, ping}
use Rattle.model.specs.Store.{Store, lookup}
use Rattle.model.specs.Patterns.{Patterns, held}

-- the first if there is one, else the second
abbrev pub or_else : {A : Type 0} → Option A → Option A → Option A
or_else (some a) b = some a
or_else none b = b

-- what was found, or this where nothing was
abbrev pub found_or : {A : Type 0} → Option A → A → A
found_or (some a) b = a
found_or none b = b

-- what an action leaves for the key, a value or none, if it is a WRITE of it
unfoldable pub write_of : Bytes → Action → Option (Option Bytes)
write_of k (hello t) = none
write_of k (sub p) = none
write_of k (unsub p) = none
write_of k (read x) = none
write_of k (write x v) = cond (same k x) (some v) none
write_of k (ping i) = none

-- what the last WRITE of the key among the actions left, if there is one
unfoldable pub last_write : Bytes → List Action → Option (Option Bytes)
last_write k [] = none
last_write k (a ∷ xs) = or_else (last_write k xs) (write_of k a)

-- what an action finds for the key: what the last WRITE of it earlier in the recording left, a value or none, else
-- the store's
unfoldable pub value_at_turn : Bytes → List Action → Store → Option Bytes
value_at_turn k earlier s = found_or (last_write k earlier) (lookup k s)

-- whether an action adds the pattern or removes it, if it does either
unfoldable pub subscription_of : Bytes → Action → Option Bool
subscription_of p (hello t) = none
subscription_of p (sub q) = cond (same p q) (some true) none
subscription_of p (unsub q) = cond (same p q) (some false) none
subscription_of p (read k) = none
subscription_of p (write k v) = none
subscription_of p (ping i) = none

-- whether the last SUB or UNSUB of the pattern among the actions is a SUB, if there is one
unfoldable pub last_subscription : Bytes → List Action → Option Bool
last_subscription p [] = none
last_subscription p (a ∷ xs) = or_else (last_subscription p xs) (subscription_of p a)

-- whether the pattern is held at a turn: by the last SUB or UNSUB of it earlier in the recording, else by what was
-- held
unfoldable pub held_at_turn : Bytes → List Action → Patterns → Bool
held_at_turn p earlier ps = found_or (last_subscription p earlier) (held p ps)
