-- The simple server on small cases, by computation: recordings, and the table of answers. Streams become framed here.
use mathlib.Core.Path.{◌≡◌, refl}
use mathlib.Core.List.{List, [], ◌∷◌, ◌++◌, map}
use mathlib.Core.Option.{some, none}
use lib.ListN.{replicate}
use Rattle.protocol.specs.Terms.{hello, read, write, ping, version, info, pong, error, blank, invalid}
use Rattle.protocol.specs.declared.Refusal.TheVariants.{Unknown, Parameter, Room, State as BadState}
use Rattle.model.specs.Decision.{opens, feeds, takes, closes}
use Rattle.model.proofs.Tiny.{◌says◌, ◌sends◌, begins, commits, host}
use Rattle.model.proofs.Scripts.{Example, computed, expected, example-definitions, small, A, B, alert, long}

-- ---- recording

abbrev recording-examples : List Example
recording-examples =
    -- BEGIN while recording is 103, also after 64 recorded commands
    record {
      sizes = small;
      lines = begins 0 ∷ replicate 64 (0 says ping []) ++ begins 0 ∷ [];
      answers = replicate 65 0 ++ 103 ∷ [];
      queue-0 = error BadState ∷ [];
      queue-1 = [];
    }
    -- a 65th command is 102, and a blank line is neither counted nor charged
    ∷ record {
      sizes = small;
      lines = begins 0 ∷ replicate 64 (0 says ping []) ++ (0 sends blank) ∷ (0 says ping []) ∷ [];
      answers = replicate 66 0 ++ 102 ∷ [];
      queue-0 = error Room ∷ [];
      queue-1 = [];
    }
    -- a sum over R is 102: two payloads of 124 charge 256, one more byte is too much
    ∷ record {
      sizes = small;
      lines = begins 0 ∷ (0 says ping (long 124)) ∷ (0 says ping (long 124)) ∷ begins 1 ∷ (1 says ping (long 124))
          ∷ (1 says ping (long 125)) ∷ commits 0 ∷ [];
      answers = 0 ∷ 0 ∷ 0 ∷ 0 ∷ 0 ∷ 102 ∷ 0 ∷ [];
      queue-0 = pong (long 124) ∷ pong (long 124) ∷ [];
      queue-1 = error Room ∷ [];
    }
    -- a message refused while recording drops the recording; COMMIT without BEGIN has no effect
    ∷ record {
      sizes = small;
      lines =
          begins 0 ∷ (0 says write A (some alert)) ∷ (0 sends invalid Parameter) ∷ commits 1 ∷ (1 says read A) ∷ [];
      answers = 0 ∷ 0 ∷ 101 ∷ 0 ∷ 0 ∷ [];
      queue-0 = error Parameter ∷ [];
      queue-1 = info A none ∷ [];
    }
    ∷ []

recording-right : map computed recording-examples ≡ map expected recording-examples
unfolding example-definitions alert
recording-right = refl

-- ---- answers

abbrev answer-examples : List Example
answer-examples =
    -- the store of 256: a key of 1 and a value of 247 fit
    record {
      sizes = small;
      lines = (0 says write A (some (long 247))) ∷ (0 says hello []) ∷ [];
      answers = 0 ∷ 0 ∷ [];
      queue-0 = version ∷ [];
      queue-1 = [];
    }
    -- a value of 248 does not: the client is shut, and another client's READ finds the key absent
    ∷ record {
      sizes = small;
      lines = (0 says write A (some (long 248))) ∷ (0 says hello []) ∷ (1 says read A) ∷ [];
      answers = 102 ∷ 3 ∷ 0 ∷ [];
      queue-0 = error Room ∷ [];
      queue-1 = info A none ∷ [];
    }
    -- an equal write into a full store is not refused, nor is a deletion
    ∷ record {
      sizes = small;
      lines = (0 says write A (some (long 247))) ∷ (0 says write A (some (long 247))) ∷ (0 says write B none) ∷ [];
      answers = 0 ∷ 0 ∷ 0 ∷ [];
      queue-0 = [];
      queue-1 = [];
    }
    -- open: 2 before 8 before 4; forms are wide numbers
    ∷ record {
      sizes = small;
      lines =
          host (opens 2 9) ∷ host (opens 0 9) ∷ host (opens 0 256) ∷ host (opens 0 0) ∷ host (closes 0) ∷ host
          (opens 0 0) ∷ [];
      answers = 2 ∷ 8 ∷ 8 ∷ 4 ∷ 0 ∷ 0 ∷ [];
      queue-0 = [];
      queue-1 = [];
    }
    -- a slot free or N or more is 2; an incomplete message is 1; a shut client is 3, also with an incomplete one, and
    -- its messages may still be taken
    ∷ record {
      sizes = small;
      lines =
          host (feeds 2 []) ∷ host (takes 7 9) ∷ host (closes 2) ∷ host (feeds 0 []) ∷ (0 says ping A) ∷
          (0 sends invalid Unknown)
          ∷ (0 says ping A) ∷ host (feeds 0 []) ∷ host (takes 0 9) ∷ host (closes 1) ∷ host (closes 1) ∷ host
          (feeds 1 []) ∷ [];
      answers = 2 ∷ 2 ∷ 2 ∷ 1 ∷ 0 ∷ 100 ∷ 3 ∷ 3 ∷ 0 ∷ 0 ∷ 2 ∷ 2 ∷ [];
      queue-0 = error Unknown ∷ [];
      queue-1 = [];
    }
    -- take: 6 for an empty queue, 5 for an out slice too short, which takes nothing
    ∷ record {
      sizes = small;
      lines = host (takes 0 0) ∷ (0 says ping A) ∷ host (takes 0 1) ∷ host (takes 0 2) ∷ host (takes 0 2) ∷ [];
      answers = 6 ∷ 0 ∷ 5 ∷ 0 ∷ 6 ∷ [];
      queue-0 = [];
      queue-1 = [];
    }
    ∷ []

answers-right : map computed answer-examples ≡ map expected answer-examples
unfolding example-definitions
answers-right = refl
