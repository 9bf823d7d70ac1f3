-- What the writer of commands answers.
use mathlib.Core.Path.{◌≡◌, refl, sym, ap, ◌∙◌}
use mathlib.Core.List.{[], ◌∷◌}
use mathlib.Core.Bool.{Bool, true, false}
use mathlib.Core.Option.{some, none}
use mathlib.Core.Logic.{◌⊎◌, inl, inr}
use Prim.Native.Nat.{ℕ, ◌≤◌, ◌<◌}
use lib.Dec.{leb, ltb}
use native.Mathlib.Omega.{arith}
use lib.ListN.{length}
use borrow.Author.Tests.{le-leb, leb-false, ltb-false}
use Rattle.std.specs.Prelude.{Ok, Err}
use Rattle.octets.specs.Octets.{Bytes}
use Rattle.protocol.specs.declared.Kind.{Kind}
use Rattle.protocol.specs.declared.Refusal.{Refusal}
use Rattle.protocol.specs.declared.Refusal.TheVariants.{Unknown}
use Rattle.protocol.specs.declared.command_id.CommandId.{CommandId}
use Rattle.protocol.specs.declared.command_id.CommandId.TheVariants.{Write, Ping}
use Rattle.protocol.specs.Ids.{id_of}
use Rattle.command.specs.declared.Command.{Command}
use Rattle.command.specs.Commands.{command_of}
use Rattle.command.specs.Refusals.{is_unknown, is_bad, is_long, verdict, refusal_of}
use Rattle.command.proofs.Order.{refusal-verdict}
use Rattle.client.specs.Reading.{kind_of_form}
use Rattle.client.specs.Writing.{outcome_of, by_verdict, write_in, write_command}
use Rattle.client.specs.Promises.{too_long}

-- a command that was read has the verdict of its ID and payload
pub read-good : (id : ℕ) (p : Bytes) (c : Command) → Ok c ≡ command_of id p → verdict id p ≡ none
read-good id p c e = sym (refusal-verdict id p) ∙ sym (ap refusal_of e)

pub read-bad : (id : ℕ) (p : Bytes) (r : Refusal) → Err r ≡ command_of id p → verdict id p ≡ some r
read-bad id p r e = sym (refusal-verdict id p) ∙ sym (ap refusal_of e)

pub ruleset readings = (read-good, read-bad)

-- only the length of a WRITE or a PING can be wrong
pub verdict-length : (c : CommandId) (p : Bytes) → (c ≡ Write) ⊎ (c ≡ Ping) → verdict (id_of c) p ≡ too_long p
unfolding verdict is_unknown is_bad is_long
verdict-length c p h = by (ltb 65535 (length p)) refl h
  where
    by : (b : Bool) → ltb 65535 (length p) ≡ b → (c ≡ Write) ⊎ (c ≡ Ping) → verdict (id_of c) p ≡ too_long p
    by true e (inl q) = rw (q, e)
    by true e (inr q) = rw (q, e)
    by false e (inl q) = rw (q, e)
    by false e (inr q) = rw (q, e)

-- an ID of 8 or more is unknown
pub verdict-unknown : (id : ℕ) (p : Bytes) → 8 ≤ id → verdict id p ≡ some Unknown
unfolding verdict is_unknown
verdict-unknown id p h = rw (le-leb 8 id h)

pub ruleset verdicts = (verdict-length, verdict-unknown)

-- what a command that is not refused has: one of the eight IDs, and a payload that is neither bad nor too long
pub record Taken (id : ℕ) (p : Bytes) : Type 0 where
  pub known : id < 8
  pub good : is_bad id p ≡ false
  pub short : length p ≤ 65535

pub taken : (id : ℕ) (p : Bytes) → verdict id p ≡ none → Taken id p
unfolding verdict is_unknown is_long
taken id p h = by (leb 8 id) (is_bad id p) (ltb 65535 (length p)) refl refl refl h
  where
    by : (a b c : Bool) → leb 8 id ≡ a → is_bad id p ≡ b → ltb 65535 (length p) ≡ c → verdict id p ≡ none → Taken id p
    by true b c e f g h = let z : ◌≡◌ {A = ℕ} 0 1 = cc (rw e at h) in absurd (omega arith)
    by false true c e f g h = let z : ◌≡◌ {A = ℕ} 0 1 = cc (rw (e, f) at h) in absurd (omega arith)
    by false false true e f g h = let z : ◌≡◌ {A = ℕ} 0 1 = cc (rw (e, f, g) at h) in absurd (omega arith)
    by false false false e f g h = record { known = leb-false _ _ e; good = f; short = ltb-false _ _ g }

pub write-nil : (k : Kind) (c o : Bytes) → length c ≡ 0 → write_in k c o ≡ outcome_of 100 0 o
unfolding write_in
write-nil k [] o h = refl
write-nil k (b ∷ c) o h = absurd (omega arith)

pub write-cons : (k : Kind) (id : ℕ) (p o : Bytes) → write_in k (id ∷ p) o ≡ by_verdict (verdict id p) k id p o
unfolding write_in
write-cons k id p o = refl

-- the writer by form
pub write-form : (f : ℕ) (k : Kind) (c o : Bytes) → kind_of_form f ≡ some k → write_command f c o ≡ write_in k c o
unfolding write_command
write-form f k c o e = rw e

pub write-no-form : (f : ℕ) (c o : Bytes) → kind_of_form f ≡ none → write_command f c o ≡ outcome_of 8 0 o
unfolding write_command
write-no-form f c o e = rw e

pub ruleset by_form = (write-form, write-no-form)

pub ruleset commands = (write-nil, write-cons)
