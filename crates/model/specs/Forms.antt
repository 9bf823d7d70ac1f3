-- A state with each queue in another form.
use Rattle.std.specs.Prelude.{map}
use Rattle.model.specs.Queueing.{Queueing}
use Rattle.model.specs.State.{ClientOf, SlotOf, free, used, StateOf}

module _ {A B : Queueing} (form : A.Queue → B.Queue) where
  -- a client with its queue in the other form
  unfoldable pub client_with : ClientOf A → ClientOf B
  client_with c =
      record {
        kind = c.kind;
        hangs_up = c.hangs_up;
        shut = c.shut;
        patterns = c.patterns;
        transaction = c.transaction;
        queue = form c.queue;
      }

  unfoldable pub slot_with : SlotOf A → SlotOf B
  slot_with free = free
  slot_with (used c) = used (client_with c)

  unfoldable pub state_with : StateOf A → StateOf B
  state_with st = record { sizes = st.sizes; store = st.store; slots = map slot_with st.slots }
