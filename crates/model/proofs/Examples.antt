-- The simple server on small cases, by computation: the slips that document 01 lists (but the first, which is the
-- matcher's), and commits.
use mathlib.Core.Path.{◌≡◌, refl}
use mathlib.Core.List.{List, [], ◌∷◌, ◌++◌, map}
use mathlib.Core.Option.{some, none}
use lib.ListN.{replicate}
use Rattle.protocol.specs.Terms.{sub, unsub, read, write, ping, info, pong, error}
use Rattle.protocol.specs.declared.Refusal.TheVariants.{Room}
use Rattle.model.specs.Decision.{opens, closes}
use Rattle.model.proofs.Tiny.{◌says◌, begins, commits, host}
use Rattle.model.proofs.Scripts.{Example, computed, expected, example-definitions, small, large}
use Rattle.model.proofs.Scripts.{A, B, any, alert, clear, long, subs}

-- ---- the slips

abbrev slips : List Example
slips =
    -- an all-clear committed before a later alert is queued before it
    record {
      sizes = small;
      lines =
          (1 says sub A) ∷ begins 0 ∷ (0 says write A (some clear)) ∷ commits 0 ∷ (0 says write A (some alert)) ∷ [];
      answers = 0 ∷ 0 ∷ 0 ∷ 0 ∷ 0 ∷ [];
      queue-0 = [];
      queue-1 = info A (some clear) ∷ info A (some alert) ∷ [];
    }
    -- two patterns match, one INFO; an equal write sends nothing
    ∷ record {
      sizes = small;
      lines =
          (1 says sub A) ∷ (1 says sub any) ∷ (0 says write A (some alert)) ∷ (0 says write A (some alert)) ∷ [];
      answers = 0 ∷ 0 ∷ 0 ∷ 0 ∷ [];
      queue-0 = [];
      queue-1 = info A (some alert) ∷ [];
    }
    -- an empty value is no deletion; the deletion of an absent key sends nothing
    ∷ record {
      sizes = small;
      lines =
          (1 says sub any) ∷ (0 says write A (some [])) ∷ (1 says read A) ∷ (0 says write A none)
          ∷ (0 says write A none) ∷ [];
      answers = 0 ∷ 0 ∷ 0 ∷ 0 ∷ 0 ∷ [];
      queue-0 = [];
      queue-1 = info A (some []) ∷ info A (some []) ∷ info A none ∷ [];
    }
    -- of a commit's messages the first would fit and the second not: a slow client gets none and is shut, another
    -- gets all
    ∷ record {
      sizes = large;
      lines =
          (0 says sub any) ∷ (1 says sub any) ∷ (1 says ping (long 300)) ∷ begins 0 ∷
          (0 says write A (some (long 400)))
          ∷ (0 says write B (some (long 400))) ∷ commits 0 ∷ (0 says write A none) ∷ [];
      answers = 0 ∷ 0 ∷ 0 ∷ 0 ∷ 0 ∷ 0 ∷ 0 ∷ 0 ∷ [];
      queue-0 = info A (some (long 400)) ∷ info B (some (long 400)) ∷ info A none ∷ [];
      queue-1 = pong (long 300) ∷ error Room ∷ [];
    }
    -- a reopened slot has none of the last client's patterns, messages or recording
    ∷ record {
      sizes = small;
      lines =
          (1 says sub any) ∷ (1 says ping A) ∷ begins 1 ∷ host (closes 1) ∷ host (opens 1 1) ∷
          (0 says write A (some alert))
          ∷ commits 1 ∷ [];
      answers = 0 ∷ 0 ∷ 0 ∷ 0 ∷ 0 ∷ 0 ∷ 0 ∷ [];
      queue-0 = [];
      queue-1 = [];
    }
    ∷ []

slips-avoided : map computed slips ≡ map expected slips
unfolding example-definitions alert clear
slips-avoided = refl

-- ---- commits

abbrev commit-examples : List Example
commit-examples =
    -- READ finds what the recording's last WRITE of the key left, a value or none; before COMMIT nothing recorded
    -- counts
    record {
      sizes = small;
      lines =
          (0 says write A (some alert)) ∷ begins 0 ∷ (0 says read A) ∷ (0 says write A (some clear)) ∷ (0 says read A)
          ∷ (0 says write A none) ∷ (0 says read A) ∷ (1 says read A) ∷ commits 0 ∷ (1 says read A) ∷ [];
      answers = replicate 10 0;
      queue-0 = info A (some alert) ∷ info A (some clear) ∷ info A none ∷ [];
      queue-1 = info A (some alert) ∷ info A none ∷ [];
    }
    -- room freed by a deletion at an earlier turn is used
    ∷ record {
      sizes = small;
      lines =
          (0 says write A (some (long 200))) ∷ begins 0 ∷ (0 says write A none) ∷ (0 says write B (some (long 200)))
          ∷ commits 0 ∷ (1 says read B) ∷ [];
      answers = replicate 6 0;
      queue-0 = [];
      queue-1 = info B (some (long 200)) ∷ [];
    }
    -- and by a deletion at a later turn is not: nothing of the commit is done
    ∷ record {
      sizes = small;
      lines =
          (0 says write A (some (long 200))) ∷ begins 0 ∷ (0 says write B (some (long 200))) ∷ (0 says write A none)
          ∷ commits 0 ∷ (1 says read B) ∷ (1 says read A) ∷ [];
      answers = 0 ∷ 0 ∷ 0 ∷ 0 ∷ 102 ∷ 0 ∷ 0 ∷ [];
      queue-0 = error Room ∷ [];
      queue-1 = info B none ∷ info A (some (long 200)) ∷ [];
    }
    -- sixteen patterns: in a commit a SUB after an UNSUB finds room
    ∷ record {
      sizes = small;
      lines =
          subs 1 16 ++ begins 0 ∷ (0 says unsub (1 ∷ [])) ∷ (0 says sub A) ∷ commits 0 ∷
          (1 says write A (some alert)) ∷ [];
      answers = replicate 21 0;
      queue-0 = info A (some alert) ∷ [];
      queue-1 = [];
    }
    -- before the UNSUB it does not, and nothing of the commit is done
    ∷ record {
      sizes = small;
      lines =
          subs 1 16 ++ begins 0 ∷ (0 says write A (some alert)) ∷ (0 says sub A) ∷ (0 says unsub (1 ∷ [])) ∷ commits 0
          ∷ (1 says read A) ∷ [];
      answers = replicate 20 0 ++ 102 ∷ 0 ∷ [];
      queue-0 = error Room ∷ [];
      queue-1 = info A none ∷ [];
    }
    -- SUB gives the entries in store order, and sees the recording's WRITEs
    ∷ record {
      sizes = small;
      lines =
          (0 says write B (some alert)) ∷ begins 1 ∷ (1 says write A (some clear)) ∷ (1 says sub any)
          ∷ (1 says write B none) ∷ commits 1 ∷ [];
      answers = replicate 6 0;
      queue-0 = [];
      queue-1 = info A (some clear) ∷ info B (some alert) ∷ info B none ∷ [];
    }
    -- changes are judged at each turn: a value written and written back sends two INFOs
    ∷ record {
      sizes = small;
      lines =
          (1 says sub A) ∷ begins 0 ∷ (0 says write A (some alert)) ∷ (0 says write A none) ∷ commits 0 ∷ [];
      answers = replicate 5 0;
      queue-0 = [];
      queue-1 = info A (some alert) ∷ info A none ∷ [];
    }
    -- the feeder that overflows: the answer is 0 and the step stands, but of its messages it gets none, and ERROR 102
    ∷ record {
      sizes = large;
      lines =
          begins 0 ∷ (0 says ping A) ∷ (0 says write A (some (long 500))) ∷ (0 says read A) ∷ (0 says read A) ∷
          commits 0
          ∷ (0 says ping A) ∷ (1 says read A) ∷ [];
      answers = 0 ∷ 0 ∷ 0 ∷ 0 ∷ 0 ∷ 0 ∷ 3 ∷ 0 ∷ [];
      queue-0 = error Room ∷ [];
      queue-1 = info A (some (long 500)) ∷ [];
    }
    ∷ []

commits-right : map computed commit-examples ≡ map expected commit-examples
unfolding example-definitions alert clear subs
commits-right = refl
