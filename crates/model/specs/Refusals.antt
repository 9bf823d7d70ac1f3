-- What a refused message leaves of its own client (demand 1, as document 02, P2, rereads it: "Demand 1's 'shuts' and
-- 'drops' cover binary clients, form 2, and 102").
use Rattle.std.specs.Prelude.{ℕ, ◌≡◌, [], ◌∷◌, true, false}
use Rattle.protocol.specs.Terms.{begin, commit, error, Reading, command, invalid, Protocol}
use Rattle.protocol.specs.declared.Kind.{Kind}
use Rattle.protocol.specs.declared.Refusal.{Refusal}
use Rattle.model.specs.Queueing.{Queueing}
use Rattle.model.specs.State.{Transaction, off, spoiled, after_slip, ClientOf, with_kind}
use Rattle.model.specs.Queue.{fits_all}
use Rattle.model.specs.Feed.{stays_open}

-- The transaction before and after a message that reads so and is refused while its client stays open: an invalid
-- message and a BEGIN spoil one, and a COMMIT is so refused only in a spoiled one, which it ends.
pub data Spoils : Reading → Transaction → Transaction → Type 0 where
  by-invalid : (r : Refusal) (t : Transaction) → Spoils (invalid r) t (after_slip t)
  by-begin : (t : Transaction) → Spoils (command begin) t (after_slip t)
  by-commit : Spoils (command commit) spoiled off

module _ (protocol : Protocol) {queueing : Queueing} (Q : ℕ) where
  -- The open client c, whose queue has the room Q, after a message that reads so, fixes the kind k and is refused: it
  -- has one ERROR more, and it is shut, or stays open.
  pub data Leaves (x : Reading) (k : Kind) (r : Refusal) (c : ClientOf queueing) : ClientOf queueing → Type 0 where
    -- it is shut, and has no patterns and no transaction
    shut-alone : stays_open k c.hangs_up r ≡ false → Leaves x k r c (record {
      kind = k;
      hangs_up = c.hangs_up;
      shut = true;
      patterns = [];
      transaction = off;
      queue = queueing.appended c.queue (protocol.written k (error r) ∷ []);
    })
    -- it stays open and has its patterns; the ERROR fits in Q − 64
    stayed-alone : (t : Transaction) → stays_open k c.hangs_up r ≡ true
        → fits_all protocol Q (error r ∷ []) (with_kind k c) ≡ true → Spoils x c.transaction t
        → Leaves x k r c (record {
          kind = k;
          hangs_up = c.hangs_up;
          shut = false;
          patterns = c.patterns;
          transaction = t;
          queue = queueing.appended c.queue (protocol.written k (error r) ∷ []);
        })
