-- A refused message of an open client: what is decided of it by the three tests of the code.
use mathlib.Core.Path.{◌≡◌, refl, ◌∙◌}
use mathlib.Core.Bool.{true, false}
use Prim.Native.Nat.{ℕ}
use Rattle.octets.specs.Octets.{Bytes}
use Rattle.protocol.specs.declared.Refusal.{Refusal}
use Rattle.protocol.specs.declared.Refusal.TheVariants.{Room}
use Rattle.model.specs.State.{after_slip, slot_at, with_kind}
use Rattle.model.specs.Queue.{fits_all}
use Rattle.model.specs.Decision.{slip}
use Rattle.model.specs.Feed as F
use Rattle.model.specs.Feed.{context_of, stays_open, decide_refusal}
use Rattle.slot.specs.Image.{ClientImage, error_fits}
use Rattle.memory.specs.Image.{Image, client_in, client_at, image_of}
use Rattle.memory.specs.Promises.{InOpenResting}
use Rattle.memory.proofs.Lent.{used-is}
use Rattle.infod3.specs.Infod3.{infod3}
use Rattle.refinement.proofs.Ends.{all-resting}
use Rattle.broker.specs.FeedParts.{Speaking, refusal_decision, shut_decision}
use Rattle.broker.proofs.Fixed.{speaking-used}

module _ {m : Bytes} {i : ℕ} (s : Speaking m i) where
  abbrev im : Image
  im = image_of m

  abbrev client : ClientImage
  client = client_at i im

  -- nothing is owed to it between calls
  pub speaking-resting : InOpenResting m i
  unfolding client_at
  speaking-resting =
      record {
        in-open = s.in-open;
        none-pending = all-resting m s.fine i (client_in (slot_at i im)) (used-is (slot_at i im) (speaking-used s));
      }

  -- the server's test of the room for an ERROR is the memory's
  error_fits-image : (r : Refusal)
      → F.error_fits (context_of infod3 im i) client.kind client r ≡ error_fits im.sizes.queue_room r client
  unfolding fits_all with_kind
  error_fits-image r = refl

  module _ (n : ℕ) (r : Refusal) where
    pub refusal-shuts : stays_open client.kind client.hangs_up r ≡ false
        → refusal_decision m i n r ≡ shut_decision m i n r
    unfolding decide_refusal
    refusal-shuts e = rw e

    module _ (e : stays_open client.kind client.hangs_up r ≡ true) where
      pub refusal-full : error_fits im.sizes.queue_room r client ≡ false
          → refusal_decision m i n r ≡ shut_decision m i n Room
      unfolding decide_refusal
      refusal-full f = rw (error_fits-image r ∙ f, e)

      pub refusal-stays : error_fits im.sizes.queue_room r client ≡ true
          → refusal_decision m i n r ≡ slip n i client.kind r (after_slip client.transaction)
      unfolding decide_refusal
      refusal-stays f = rw (error_fits-image r ∙ f, e)
