-- What the parts of a WRITE's payload say: the value behind its key (`value-delete`, `value-start`), and the row that
-- it leaves for its key (`written_size-charge`, `written_size-le`).
use mathlib.Core.Path.{◌≡◌}
use mathlib.Core.Option.{some, none}
use Prim.Native.Nat.{ℕ, ◌+◌, ◌≤◌, ◌<◌}
use native.Mathlib.Numerals.{add-one}
use native.Mathlib.Omega.{arith}
use lib.ListN.{length, take, drop, length-drop, drop_of_length-le}
use lib.Seq.{drop-cons, length-take-le}
use Rattle.octets.specs.Octets.{Bytes}
use Rattle.octets.proofs.Nul.{first_nul-within}
use Rattle.command.specs.declared.Written.{Written}
use Rattle.command.specs.declared.Written.TheVariants.{Delete, Value}
use Rattle.command.specs.Commands.{Splits}
use Rattle.command.proofs.Laws.{Behind, splits-behind}
use Rattle.recording.specs.Encoding.{value_behind}
use Rattle.store.specs.Operation.{charge}
use Rattle.commit.specs.Tally.{written_size}

module _ (p : Bytes) (n : ℕ) where
  -- a deletion gives no value
  pub value-delete : Behind n (length p) Delete → value_behind (drop n p) ≡ none
  unfolding value_behind
  value-delete l = rw (drop_of_length-le p l)

  -- a value starts where the parts say
  pub value-start : (start len : ℕ) → Behind n (length p) (Value start len)
      → value_behind (drop n p) ≡ some (drop start p)
  unfolding value_behind
  value-start start len h =
      let l : n < length p = omega (arith, h.0, h.1) in
      rw (h.0, drop-cons p n 0 l, add-one n)

  size-charge : (w : Written) → Behind n (length p) w → written_size n w ≡ charge (take n p) (value_behind (drop n p))
  unfolding charge
  size-charge Delete l = rw (value-delete l)
  size-charge (Value start len) h =
      let l : n ≤ length p = omega (arith, h.0, h.1) in
      rw (value-start start len h) (omega (arith, length-take-le n p l, length-drop start p, h.0, h.1))

  size-le : (w : Written) → Behind n (length p) w → written_size n w ≤ 7 + length p
  size-le Delete l = omega arith
  size-le (Value start len) h = omega (arith, h.0, h.1)

module _ {p : Bytes} {n : ℕ} {w : Written} (s : Splits p n w) where
  -- the key lies within the payload
  pub splits-within : n ≤ length p
  splits-within = omega (arith, s.key, first_nul-within p)

  -- the row is as long as the key charges with its value
  pub written_size-charge : written_size n w ≡ charge (take n p) (value_behind (drop n p))
  written_size-charge = size-charge p n w (splits-behind s)

  -- and short
  pub written_size-le : written_size n w ≤ 7 + length p
  written_size-le = size-le p n w (splits-behind s)
