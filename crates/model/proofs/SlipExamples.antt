-- Typing errors (document 02, P2) on small cases, by computation. Streams become text here. With the tiny writer an
-- ERROR 100 charges 21 and an ERROR 103 charges 15; 960 of Q 1,024 can be used.
use mathlib.Core.Path.{◌≡◌, refl}
use mathlib.Core.List.{List, [], ◌∷◌, ◌++◌, map}
use mathlib.Core.Option.{some, none}
use lib.ListN.{replicate}
use Rattle.protocol.specs.Terms.{sub, read, write, ping, info, pong, error, blank, invalid}
use Rattle.protocol.specs.declared.Kind.TheVariants.{Text}
use Rattle.protocol.specs.declared.Refusal.TheVariants.{Unknown, Parameter, Room, State as BadState}
use Rattle.model.specs.Decision.{opens, closes}
use Rattle.model.proofs.Tiny.{◌says◌, ◌sends◌, begins, commits, host}
use Rattle.model.proofs.Scripts.{
  Example,
  computed_in,
  expected_in,
  example-definitions,
  small,
  A,
  any,
  alert,
  long,
}

-- ---- outside a transaction

abbrev slips : List Example
slips =
    -- a first line that is refused leaves an open text client, and so does a second
    record {
      sizes = small;
      lines = (0 sends invalid Unknown) ∷ (0 sends invalid Parameter) ∷ (0 says ping A) ∷ commits 0 ∷ [];
      answers = 100 ∷ 101 ∷ 0 ∷ 0 ∷ [];
      queue-0 = error Unknown ∷ error Parameter ∷ pong A ∷ [];
      queue-1 = [];
    }
    -- patterns are kept, and another client is not touched
    ∷ record {
      sizes = small;
      lines =
          (0 says sub any) ∷ (1 says sub any) ∷ (0 sends invalid Parameter) ∷ (1 says write A (some alert)) ∷ [];
      answers = 0 ∷ 0 ∷ 101 ∷ 0 ∷ [];
      queue-0 = error Parameter ∷ info A (some alert) ∷ [];
      queue-1 = info A (some alert) ∷ [];
    }
    -- 102 shuts, and drops the patterns
    ∷ record {
      sizes = small;
      lines =
          (0 says sub any) ∷ (0 sends invalid Room) ∷ (1 says write A (some alert)) ∷ (0 says ping A)
          ∷ (1 says write A (some (long 248))) ∷ (1 says ping A) ∷ [];
      answers = 0 ∷ 102 ∷ 0 ∷ 3 ∷ 102 ∷ 3 ∷ [];
      queue-0 = error Room ∷ [];
      queue-1 = error Room ∷ [];
    }
    -- an ERROR that fills Q − 64 to the byte fits, and one byte less of room shuts with 102
    ∷ record {
      sizes = small;
      lines =
          (0 says ping (long 934)) ∷ (0 sends invalid Unknown) ∷ (1 says ping (long 935)) ∷ (1 sends invalid Unknown)
          ∷ (0 sends blank) ∷ (1 sends blank) ∷ [];
      answers = 0 ∷ 100 ∷ 0 ∷ 102 ∷ 0 ∷ 3 ∷ [];
      queue-0 = pong (long 934) ∷ error Unknown ∷ [];
      queue-1 = pong (long 935) ∷ error Room ∷ [];
    }
    -- a packet client is shut
    ∷ record {
      sizes = small;
      lines =
          host (closes 0) ∷ host (opens 0 0) ∷ (0 sends invalid Unknown) ∷ (0 sends blank) ∷ [];
      answers = 0 ∷ 0 ∷ 100 ∷ 3 ∷ [];
      queue-0 = error Unknown ∷ [];
      queue-1 = [];
    }
    -- a client of form 2 is shut; the slot's next client, of form 1, is not, and the other way round
    ∷ record {
      sizes = small;
      lines =
          host (closes 0) ∷ host (opens 0 3) ∷ host (opens 0 2) ∷ (0 sends invalid Unknown) ∷ (0 sends blank)
          ∷ host (closes 0) ∷ host (opens 0 1) ∷ (0 sends invalid Parameter) ∷ (0 sends blank)
          ∷ (1 sends invalid Unknown) ∷ host (closes 1) ∷ host (opens 1 2) ∷ (1 sends invalid Parameter)
          ∷ (1 sends blank) ∷ [];
      answers = 0 ∷ 8 ∷ 0 ∷ 100 ∷ 3 ∷ 0 ∷ 0 ∷ 101 ∷ 0 ∷ 100 ∷ 0 ∷ 0 ∷ 101 ∷ 3 ∷ [];
      queue-0 = error Parameter ∷ [];
      queue-1 = error Parameter ∷ [];
    }
    ∷ []

slips-right : map (computed_in Text) slips ≡ map (expected_in Text) slips
unfolding example-definitions alert
slips-right = refl

-- ---- inside a transaction

abbrev spoiling : List Example
spoiling =
    -- a slip spoils: nothing of the transaction is done, COMMIT is 103 once, and then all is as without one
    record {
      sizes = small;
      lines =
          begins 0 ∷ (0 says write A (some alert)) ∷ (0 sends invalid Unknown) ∷ (0 says write A (some alert))
          ∷ commits 0 ∷ (0 says read A) ∷ commits 0 ∷ begins 0 ∷ (0 says ping A) ∷ commits 0 ∷ [];
      answers = 0 ∷ 0 ∷ 100 ∷ 0 ∷ 103 ∷ 0 ∷ 0 ∷ 0 ∷ 0 ∷ 0 ∷ [];
      queue-0 = error Unknown ∷ error BadState ∷ info A none ∷ pong A ∷ [];
      queue-1 = [];
    }
    -- BEGIN in a transaction spoils it, and in a spoiled one is 103 again
    ∷ record {
      sizes = small;
      lines = begins 0 ∷ begins 0 ∷ begins 0 ∷ commits 0 ∷ begins 0 ∷ [];
      answers = 0 ∷ 103 ∷ 103 ∷ 103 ∷ 0 ∷ [];
      queue-0 = error BadState ∷ error BadState ∷ error BadState ∷ [];
      queue-1 = [];
    }
    -- a slip outside spoils nothing; in a spoiled one there is no 65th command, no sum over R, no full store, and a
    -- blank line and a second slip leave it spoiled
    ∷ record {
      sizes = small;
      lines =
          (0 sends invalid Parameter) ∷ begins 0 ∷ (0 sends invalid Parameter) ∷ replicate 70 (0 says ping A)
          ++ (0 says write A (some (long 248))) ∷ (0 says ping (long 300)) ∷ (0 sends blank)
          ∷ (0 sends invalid Parameter) ∷ commits 0 ∷ [];
      answers = 101 ∷ 0 ∷ 101 ∷ replicate 70 0 ++ 0 ∷ 0 ∷ 0 ∷ 101 ∷ 103 ∷ [];
      queue-0 = error Parameter ∷ error Parameter ∷ error Parameter ∷ error BadState ∷ [];
      queue-1 = [];
    }
    -- 102 in a transaction shuts, be it spoiled
    ∷ record {
      sizes = small;
      lines =
          begins 0 ∷ (0 sends invalid Room) ∷ (0 sends blank) ∷ begins 1 ∷ begins 1 ∷ (1 sends invalid Room)
          ∷ (1 sends blank) ∷ [];
      answers = 0 ∷ 102 ∷ 3 ∷ 0 ∷ 103 ∷ 102 ∷ 3 ∷ [];
      queue-0 = error Room ∷ [];
      queue-1 = error BadState ∷ error Room ∷ [];
    }
    -- the ERROR of a COMMIT fits to the byte behind one that spoiled, or the client is shut with 102
    ∷ record {
      sizes = small;
      lines =
          (0 says ping (long 925)) ∷ begins 0 ∷ begins 0 ∷ commits 0 ∷ commits 0
          ∷ (1 says ping (long 926)) ∷ begins 1 ∷ begins 1 ∷ commits 1 ∷ commits 1 ∷ [];
      answers = 0 ∷ 0 ∷ 103 ∷ 103 ∷ 0 ∷ 0 ∷ 0 ∷ 103 ∷ 102 ∷ 3 ∷ [];
      queue-0 = pong (long 925) ∷ error BadState ∷ error BadState ∷ [];
      queue-1 = pong (long 926) ∷ error BadState ∷ error Room ∷ [];
    }
    ∷ []

spoiling-right : map (computed_in Text) spoiling ≡ map (expected_in Text) spoiling
unfolding example-definitions alert
spoiling-right = refl
