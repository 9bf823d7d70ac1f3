-- The order of checks (document 01, "The numbers a call gives back"), as one table that computes.
use mathlib.Core.Path.{◌≡◌, refl}
use mathlib.Core.List.{List, [], ◌∷◌, map}
use mathlib.Core.Bool.{true, false}
use Rattle.octets.specs.Octets.{Bytes}
use Rattle.protocol.specs.declared.Kind.TheVariants.{Packets}
use Rattle.model.specs.State.{off, free, used, Slot}
use Rattle.model.specs.Decision.{Decision}
use Rattle.model.specs.Feed.{Context, decide_feed}
use Rattle.model.specs.Calls.{opening_of, decide_open_at, decide_open, decide_take_from, decide_take, decide_close}

-- a slot without a client, and one with a shut client that has these messages
abbrev vacant : Slot
vacant = free

abbrev shut_with : List Bytes → Slot
shut_with q = used (record { kind = Packets; hangs_up = false; shut = true; patterns = []; transaction = off; queue = q })

-- Each row fails every check of its call from one on, and that one answers. Open of two slots: number 2, then form 9,
-- then a slot that is not free. Feed of any input: no client, then a shut one. Take into no bytes: no client, then no
-- message, then one of a byte. Close: no client.
pub order-of-checks : (x : Context) (bs : Bytes)
    → map (λ (d : Decision). d.reply.answer)
    (decide_open 2 2 9 (shut_with []) ∷ decide_open 2 0 9 (shut_with []) ∷ decide_open 2 0 1 (shut_with [])
    ∷ decide_feed x bs vacant ∷ decide_feed x bs (shut_with [])
    ∷ decide_take 0 0 vacant ∷ decide_take 0 0 (shut_with []) ∷ decide_take 0 0 (shut_with ((0 ∷ []) ∷ []))
    ∷ decide_close 0 vacant ∷ [])
    ≡ 2 ∷ 8 ∷ 4 ∷ 2 ∷ 3 ∷ 2 ∷ 6 ∷ 5 ∷ 2 ∷ []
unfolding opening_of decide_open_at decide_open decide_feed decide_take_from decide_take decide_close
order-of-checks x bs = refl
