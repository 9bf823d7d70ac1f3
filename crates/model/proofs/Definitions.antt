-- The definitions that a computed example opens, under one name: a proof by computation says `unfolding definitions`.
use Rattle.octets.specs.Octets.{ascii}
use Rattle.octets.specs.Order.{same, before}
use Rattle.protocol.specs.Terms.{reason, value_tail, payload, message_payload}
use Rattle.model.specs.Store.{lookup, put, remove, store_after_write, store_charge, store_fits, same_value, changes}
use Rattle.model.specs.Patterns.{held, add_pattern, remove_pattern}
use Rattle.model.specs.Step.{store_after, patterns_after, refuses, store_after_all, patterns_after_all, refuses_any}
use Rattle.model.specs.Step.{subscribed, infos, replies, notices, owes, owes_all}
use Rattle.model.specs.State.{slot_at, new_client, recording_charge, recording_fits, in_range, empty_state}
use Rattle.model.specs.State.{with_kind, with_patterns, with_transaction, with_queue}
use Rattle.model.specs.State.{set_up_answer, set_up}
use Rattle.model.specs.Queueing.{queue_charge, rest}
use Rattle.model.specs.Queue.{queue_fits, after_take, shut_by, with_error, with_messages}
use Rattle.model.specs.Queue.{fits_all}
use Rattle.model.specs.Queue.{after_step, queued_by_step}
use Rattle.model.specs.Events.{store_after_event, on_client, each_slot, slot_after_event, after_event}
use Rattle.model.specs.Feed.{decide_refusal, decide_step, decide_command, decide_reading, decide_cut, decide_feed}
use Rattle.model.specs.Calls.{opening_of, decide_open_at, decide_open, decide_take_from, decide_take, decide_close}
use Rattle.model.specs.Calls.{decide}
use Rattle.model.specs.Calls.{serve, after_calls, replies_to}
use Rattle.model.specs.Log.{added_after, added_after_all, log_after_step, on_log, log_after_event, log_given}
use Rattle.model.specs.History.{past_of, closed_by, history_after, history_after_all, history_of, drain}
use Rattle.model.specs.LastInfo.{info_for, last_info}

unfoldable pub store-definitions : Unit {0}
unfolding
    ascii same before
    lookup put remove store_after_write store_charge store_fits same_value changes
store-definitions = tt

unfoldable pub step-definitions : Unit {0}
unfolding
    store-definitions
    reason value_tail payload message_payload
    held add_pattern remove_pattern
    store_after patterns_after refuses store_after_all patterns_after_all refuses_any
    subscribed infos replies notices owes owes_all
step-definitions = tt

unfoldable pub definitions : Unit {0}
unfolding
    step-definitions
    slot_at new_client recording_charge recording_fits in_range empty_state set_up_answer set_up
    queue_charge queue_fits rest after_take with_queue with_transaction with_kind shut_by with_error with_messages with_patterns
    fits_all after_step queued_by_step
    store_after_event on_client each_slot slot_after_event after_event
    decide_refusal decide_step decide_command decide_reading decide_cut decide_feed
    opening_of decide_open_at decide_open decide_take_from decide_take decide_close decide
    serve after_calls replies_to
    added_after added_after_all log_after_step on_log log_after_event log_given
    past_of closed_by history_after history_after_all history_of drain info_for last_info
definitions = tt
