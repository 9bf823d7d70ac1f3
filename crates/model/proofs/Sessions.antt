-- A session: each line of an input is fed to a slot, and then all messages are taken, slot 0 first. Document 01's
-- script program runs so. Beside it, examples of set up and of the history.
use Prim.Native.Nat.{ℕ, zero, suc}
use mathlib.Core.Path.{◌≡◌, refl}
use mathlib.Core.List.{List, [], ◌∷◌, ◌++◌, map}
use mathlib.Core.Option.{some, none}
use lib.ListN.{drop, replicate}
use Rattle.octets.specs.Octets.{Bytes, ascii}
use Rattle.protocol.specs.Terms.{sub, unsub, read, write, ping, Message, info, pong, Protocol}
use Rattle.protocol.specs.declared.Kind.TheVariants.{Framed}
use Rattle.model.specs.State.{Sizes, State, empty_server, set_up_answer}
use Rattle.model.specs.Queue.{encoded}
use Rattle.model.specs.Decision.{opens, feeds, takes}
use Rattle.model.specs.Calls.{serve, after_calls}
use Rattle.model.specs.History.{history_of, drain}
use Rattle.model.proofs.Definitions.{definitions}
use Rattle.model.proofs.Tiny.{tiny, Line, ◌says◌, begins, commits, reading_of, calls_of, tiny-definitions}

-- ---- sessions

-- what was taken, and from which slot
abbrev pub Delivery : Type 0
Delivery = ℕ × Bytes

module _ (protocol : Protocol) (most len : ℕ) where
  -- all messages of the slots from j on, n of them, at most so many of each and into so many bytes
  unfoldable pub take_all : ℕ → ℕ → State → List Delivery
  take_all zero j st = []
  take_all (suc n) j st =
      map (λ m. (j, m)) (drain protocol most j len st)
      ++ take_all n (suc j) (after_calls protocol (replicate most (takes j len)) st)

  -- the state after that
  unfoldable pub after_take_all : ℕ → ℕ → State → State
  after_take_all zero j st = st
  after_take_all (suc n) j st = after_take_all n (suc j) (after_calls protocol (replicate most (takes j len)) st)

  -- the input's lines, each a slot and the bytes fed to it, for a server of n slots
  unfoldable pub session : ℕ → List Delivery → State → List Delivery
  session n [] st = []
  session n (l ∷ ls) st =
      take_all n 0 (serve protocol (feeds l.0 l.1) st).next
      ++ session n ls (after_take_all n 0 (serve protocol (feeds l.0 l.1) st).next)

unfoldable pub session-definitions : Unit {0}
unfolding take_all after_take_all session
session-definitions = tt

-- ---- document 01's script, with the tiny reader and matcher

abbrev site-state : Bytes
site-state = ascii "site.7.state"

abbrev site-km : Bytes
site-km = ascii "site.7.km"

abbrev script : List Line
script =
    (1 says sub site-state)
    ∷ (0 says write site-state (some (ascii "alert")))
    ∷ begins 0
    ∷ (0 says write site-km (some (ascii "4")))
    ∷ (0 says write site-state (some (ascii "clear")))
    ∷ (1 says read site-km)
    ∷ commits 0
    ∷ (1 says ping (ascii "x"))
    ∷ []

-- the n-th byte fed is the number of the n-th line
abbrev input : List Delivery
input =
    (1, 0 ∷ []) ∷ (0, 1 ∷ []) ∷ (0, 2 ∷ []) ∷ (0, 3 ∷ []) ∷ (0, 4 ∷ []) ∷ (1, 5 ∷ []) ∷ (0, 6 ∷ []) ∷ (1, 7 ∷ []) ∷ []

unfoldable output : List Delivery
output =
    map (λ m. (1, m)) (encoded (tiny []) Framed
    (info site-state (some (ascii "alert"))
    ∷ info site-km none
    ∷ info site-state (some (ascii "clear"))
    ∷ pong (ascii "x")
    ∷ []))

unfoldable script_output : List Delivery
script_output =
    let p : Protocol = tiny (map reading_of script) in
    session p 9 1024 2 input
    (after_calls p (opens 0 1 ∷ opens 1 1 ∷ [])
    (empty_server (record { slot_count = 2; store_room = 1024; queue_room = 1024; record_room = 256 })))

script-right : script_output ≡ output
unfolding definitions tiny-definitions session-definitions script_output output
script-right = refl

-- ---- set up

abbrev sizes : ℕ → ℕ → ℕ → ℕ → Sizes
sizes n s q r = record { slot_count = n; store_room = s; queue_room = q; record_room = r }

set-up-answers : map set_up_answer
    (sizes 1 256 1024 256 ∷ sizes 32 1048576 1048576 262144 ∷ sizes 0 256 1024 256 ∷ sizes 33 256 1024 256
    ∷ sizes 1 255 1024 256 ∷ sizes 1 1048577 1024 256 ∷ sizes 1 256 1023 256 ∷ sizes 1 256 1048577 256
    ∷ sizes 1 256 1024 255 ∷ sizes 1 256 1024 262145 ∷ [])
    ≡ 0 ∷ 0 ∷ 8 ∷ 8 ∷ 8 ∷ 8 ∷ 8 ∷ 8 ∷ 8 ∷ 8 ∷ []
unfolding definitions
set-up-answers = refl

-- ---- the history

abbrev key : Bytes
key = 65 ∷ []

abbrev other : Bytes
other = 66 ∷ []

-- the messages queued to slot 0 since it last added the pattern, after the lines
unfoldable since : List Line → Bytes → List Message
since ls p =
    let t = history_of (tiny (map reading_of ls)) (sizes 2 256 1024 256) (opens 0 1 ∷ opens 1 1 ∷ calls_of 0 ls) in
    drop ((t.logs 0).added p) (t.logs 0).queued

-- Slot 0 holds the pattern since the commit's first SUB alone: the three messages before its turn do not count, its
-- own INFO, that of the second SUB, which adds nothing, and what came later do.
since-its-turn : since
    ((0 says sub key) ∷ (0 says write key (some (7 ∷ []))) ∷ begins 0 ∷ (0 says read other)
    ∷ (0 says write key (some (8 ∷ []))) ∷ (0 says unsub key) ∷ (0 says sub key) ∷ (0 says sub key) ∷ commits 0
    ∷ (1 says write key none) ∷ []) key
    ≡ info key (some (8 ∷ [])) ∷ info key (some (8 ∷ [])) ∷ info key none ∷ []
unfolding definitions tiny-definitions since
since-its-turn = refl
