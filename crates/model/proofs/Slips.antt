-- Document 02, P2, sentence by sentence: what a refusal shuts and what a slip leaves, what a spoiled transaction does
-- with later commands, and what ends it. Each is the whole reply and the whole state after the feed.
use mathlib.Core.Path.{◌≡◌, ◌∙◌}
use mathlib.Core.List.{List, []}
use mathlib.Core.Bool.{true, false}
use Prim.Native.Nat.{ℕ}
use Rattle.octets.specs.Octets.{Bytes}
use Rattle.protocol.specs.Terms.{number, Action, begin, commit, plain, Reading, command, invalid, Protocol}
use Rattle.protocol.specs.declared.Kind.{Kind}
use Rattle.protocol.specs.declared.Refusal.{Refusal}
use Rattle.protocol.specs.declared.Refusal.TheVariants.{Room, State as BadState}
use Rattle.model.specs.Queueing.{Queueing}
use Rattle.model.specs.State.{Transaction, off, begun, spoiled, after_slip, ClientOf, used, StateOf}
use Rattle.model.specs.State.{with_kind, with_transaction}
use Rattle.model.specs.Queue.{shut_by, with_error}
use Rattle.model.specs.Events.{after_event}
use Rattle.model.specs.Decision.{feeds, Decision, refusal, slip}
use Rattle.model.specs.Feed.{context_of, stays_open, error_fits, decide_refusal}
use Rattle.model.specs.Calls.{decide, Out, serve}
use Rattle.model.proofs.Outcomes.{Speaks}
use Rattle.model.proofs.NextStates.{with_slot, after-consumed, after-refused, after-slipped}
use Rattle.model.proofs.Decisions.{feed-invalid, feed-begin-again, feed-begin-spoiled, feed-commit-spoiled}
use Rattle.model.proofs.Decisions.{feed-spoiled, refusal-shuts, refusal-stays, refusal-full}

module _ (protocol : Protocol) {queueing : Queueing} (st : StateOf queueing) (i : ℕ) (bs : Bytes) (n : ℕ) (k : Kind)
    (x : Reading) (c : ClientOf queueing) (sp : Speaks protocol st i bs n k x c) where
  -- the feed gives this answer beside the message's length, and leaves this client in its slot and all else as it was
  abbrev Gives : ℕ → ClientOf queueing → Out queueing
  Gives answer d = record { reply = record { answer = answer; count = n; bytes = [] }; next = with_slot i (used d) st }

  by-decision : (d : Decision) → decide protocol (feeds i bs) st ≡ d
      → serve protocol (feeds i bs) st ≡ record { reply = d.reply; next = after_event protocol d.event st }
  unfolding serve
  by-decision d e = rw e

  -- the client with its ERROR, and this transaction
  abbrev stayed : Refusal → Transaction → ClientOf queueing
  stayed r t = with_error protocol.written r (with_transaction t (with_kind k c))

  -- the client shut with its ERROR
  abbrev shut : Refusal → ClientOf queueing
  shut r = shut_by protocol.written r (with_transaction off (with_kind k c))

  refused-staying : (r : Refusal) (t : Transaction) → stays_open k c.hangs_up r ≡ true
      → error_fits (context_of protocol st i) k c r ≡ true
      → decide protocol (feeds i bs) st ≡ decide_refusal (context_of protocol st i) n k c r t
      → serve protocol (feeds i bs) st ≡ Gives (number r) (stayed r t)
  refused-staying r t stays fits e =
      by-decision (slip n i k r t) (e ∙ refusal-stays protocol st i bs n k x c sp r t stays fits)
      ∙ rw (after-slipped protocol st i c sp.at k r t)

  refused_full : (r : Refusal) (t : Transaction) → stays_open k c.hangs_up r ≡ true
      → error_fits (context_of protocol st i) k c r ≡ false
      → decide protocol (feeds i bs) st ≡ decide_refusal (context_of protocol st i) n k c r t
      → serve protocol (feeds i bs) st ≡ Gives 102 (shut Room)
  refused_full r t stays full e =
      by-decision (refusal n i k Room) (e ∙ refusal-full protocol st i bs n k x c sp r t stays full)
      ∙ rw (after-refused protocol st i c sp.at k Room)

  -- "Demand 1's 'shuts' and 'drops' cover binary clients, form 2, and 102."
  pub refused-shuts : (r : Refusal) → x ≡ invalid r → stays_open k c.hangs_up r ≡ false
      → serve protocol (feeds i bs) st ≡ Gives (number r) (shut r)
  refused-shuts r e shuts =
      by-decision (refusal n i k r)
      (feed-invalid protocol st i bs n k x c sp r e
      ∙ refusal-shuts protocol st i bs n k x c sp r (after_slip c.transaction) shuts)
      ∙ rw (after-refused protocol st i c sp.at k r)

  -- "In form 1, text clients should now stay open after 100, 101 and 103"; "A slip inside a transaction spoils it"
  pub slip-spoils : (r : Refusal) → x ≡ invalid r → stays_open k c.hangs_up r ≡ true
      → error_fits (context_of protocol st i) k c r ≡ true
      → serve protocol (feeds i bs) st ≡ Gives (number r) (stayed r (after_slip c.transaction))
  slip-spoils r e stays fits =
      refused-staying r (after_slip c.transaction) stays fits (feed-invalid protocol st i bs n k x c sp r e)

  -- "If that ERROR doesn't fit in Q − 64, the client is shut with 102 instead and feed answers 102."
  pub slip-full : (r : Refusal) → x ≡ invalid r → stays_open k c.hangs_up r ≡ true
      → error_fits (context_of protocol st i) k c r ≡ false
      → serve protocol (feeds i bs) st ≡ Gives 102 (shut Room)
  slip-full r e stays full =
      refused_full r (after_slip c.transaction) stays full (feed-invalid protocol st i bs n k x c sp r e)

  -- BEGIN in a transaction is such a slip
  pub begin-spoils : (xs : List Action) → x ≡ command begin → c.transaction ≡ begun xs
      → stays_open k c.hangs_up BadState ≡ true → error_fits (context_of protocol st i) k c BadState ≡ true
      → serve protocol (feeds i bs) st ≡ Gives 103 (stayed BadState spoiled)
  begin-spoils xs e t stays fits =
      refused-staying BadState spoiled stays fits (feed-begin-again protocol st i bs n k x c sp xs e t)

  -- "later good commands get 0 and do nothing"
  pub spoiled-idle : (a : Action) → x ≡ command (plain a) → c.transaction ≡ spoiled
      → serve protocol (feeds i bs) st ≡ Gives 0 (with_transaction spoiled (with_kind k c))
  spoiled-idle a e t =
      by-decision _ (feed-spoiled protocol st i bs n k x c sp a e t)
      ∙ rw (after-consumed protocol st i c sp.at k spoiled)

  -- "BEGIN in a spoiled transaction is 103"
  pub spoiled-begin : x ≡ command begin → c.transaction ≡ spoiled → stays_open k c.hangs_up BadState ≡ true
      → error_fits (context_of protocol st i) k c BadState ≡ true
      → serve protocol (feeds i bs) st ≡ Gives 103 (stayed BadState spoiled)
  spoiled-begin e t stays fits =
      refused-staying BadState spoiled stays fits (feed-begin-spoiled protocol st i bs n k x c sp e t)

  -- "COMMIT gives 103, does nothing and ends the transaction"
  pub spoiled-commit : x ≡ command commit → c.transaction ≡ spoiled → stays_open k c.hangs_up BadState ≡ true
      → error_fits (context_of protocol st i) k c BadState ≡ true
      → serve protocol (feeds i bs) st ≡ Gives 103 (stayed BadState off)
  spoiled-commit e t stays fits =
      refused-staying BadState off stays fits (feed-commit-spoiled protocol st i bs n k x c sp e t)

  -- and where the ERROR of either does not fit
  pub spoiled-begin-full : x ≡ command begin → c.transaction ≡ spoiled → stays_open k c.hangs_up BadState ≡ true
      → error_fits (context_of protocol st i) k c BadState ≡ false
      → serve protocol (feeds i bs) st ≡ Gives 102 (shut Room)
  spoiled-begin-full e t stays full =
      refused_full BadState spoiled stays full (feed-begin-spoiled protocol st i bs n k x c sp e t)

  pub spoiled-commit-full : x ≡ command commit → c.transaction ≡ spoiled → stays_open k c.hangs_up BadState ≡ true
      → error_fits (context_of protocol st i) k c BadState ≡ false
      → serve protocol (feeds i bs) st ≡ Gives 102 (shut Room)
  spoiled-commit-full e t stays full =
      refused_full BadState off stays full (feed-commit-spoiled protocol st i bs n k x c sp e t)
