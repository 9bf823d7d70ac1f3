-- Examples of what a step makes of a client: with room a message that is owed is queued at the step's end, without it
-- the client is shut with 102; a shut client is owed nothing and stays as it is.
use Rattle.std.specs.Prelude.{◌≡◌, refl, [], ◌∷◌, false}
use Rattle.octets.specs.Number.{big_endian}
use Rattle.protocol.specs.Terms.{version, message_payload}
use Rattle.protocol.specs.declared.Kind.TheVariants.{Packets}
use Rattle.protocol.specs.declared.Refusal.TheVariants.{Room, State}
use Rattle.message.specs.Forms.{written, encoded, form}
use Rattle.queue.specs.Rows.{row}
use Rattle.queue.specs.Meaning.{fits, owed as owed_to, kept_rows}
use Rattle.model.specs.State.{opening_with, free, new_client, with_queue, with_patterns}
use Rattle.model.specs.Events.{on_client}
use Rattle.model.specs.Queue.{shut_by}
use Rattle.slot.specs.Image.{ClientImage, owed, refused, settled_by, settled, notified}

-- a client that was opened in form 0 and has sent nothing
abbrev new : ClientImage
new = new_client (opening_with Packets false)

-- a queue room of 1,024 bytes holds a VERSION
settled-version : (settled (owed 1024 version new)).queue.queued ≡ row (written Packets version)
unfolding settled settled_by owed new_client with_queue owed_to fits kept_rows row big_endian written encoded form message_payload
settled-version = refl

-- one of 64 bytes does not: all 64 are kept back for the ERROR
settled-full : settled (owed 64 version new) ≡ refused Room new
unfolding settled settled_by owed new_client with_queue owed_to fits shut_by row big_endian written encoded form message_payload
settled-full = refl

-- once shut, a client is not notified, and the end of a step leaves it as it is
notified-refused : notified 1024 (97 ∷ []) 1 (refused State (with_patterns ((97 ∷ []) ∷ []) new))
    ≡ refused State new
unfolding notified shut_by with_patterns new_client
notified-refused = refl

settled-refused : settled (refused State new) ≡ refused State new
unfolding settled shut_by new_client
settled-refused = refl

-- a free slot stays free
settled-free : on_client settled free ≡ free
unfolding on_client
settled-free = refl
