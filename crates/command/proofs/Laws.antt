-- Empty payloads by length, unknown IDs, where the first NUL is, and what the parts of a WRITE's payload say.
use mathlib.Core.Path.{◌≡◌, refl, sym, subst}
use mathlib.Core.List.{[], ◌∷◌}
use mathlib.Core.Bool.{Bool, true, false, cond}
use Prim.Native.Nat.{ℕ, suc, ◌+◌, ◌-◌, ◌≤◌}
use native.Mathlib.Omega.{arith}
use lib.Dec.{eqb, ltb}
use lib.ListN.{length}
use Rattle.std.specs.Prelude.{Ok, Err}
use borrow.Author.Tests.{ne_eqb, ltb-true, ltb-false}
use Rattle.octets.specs.Octets.{Bytes, first_nul}
use Rattle.protocol.specs.declared.Refusal.TheVariants.{Unknown, Parameter}
use Rattle.command.specs.declared.Written.{Written}
use Rattle.command.specs.declared.Written.TheVariants.{Delete, Value}
use Rattle.command.specs.declared.Command.{Command}
use Rattle.command.specs.declared.Command.TheVariants.{Hello}
use Rattle.command.specs.Commands.{fitting, hello_of, empty_of, command_of, written_of, Splits}

pub empty_of_nil : (p : Bytes) (c : Command) → length p ≡ 0 → Ok c ≡ empty_of p c
unfolding empty_of
empty_of_nil [] c h = refl
empty_of_nil (b ∷ p) c h = absurd (omega arith)

pub empty_of_cons : (p : Bytes) (c : Command) → (length p ≡ 0 → ⊥) → Err Parameter ≡ empty_of p c
unfolding empty_of
empty_of_cons [] c h = absurd (h refl)
empty_of_cons (b ∷ p) c h = refl

pub hello_of_nil : (p : Bytes) → length p ≡ 0 → Err Parameter ≡ hello_of p
unfolding hello_of
hello_of_nil [] h = refl
hello_of_nil (b ∷ p) h = absurd (omega arith)

pub hello_of_cons : (p : Bytes) → (length p ≡ 0 → ⊥) → fitting p Hello ≡ hello_of p
unfolding hello_of
hello_of_cons [] h = absurd (h refl)
hello_of_cons (b ∷ p) h = refl

pub first_nul-le : (p : Bytes) → first_nul p ≤ length p
unfolding first_nul
first_nul-le [] = omega arith
first_nul-le (c ∷ p) = by (eqb c 0) (first_nul-le p)
  where
    by : (b : Bool) → first_nul p ≤ length p → cond b 0 (first_nul p + 1) ≤ suc (length p)
    by true h = omega arith
    by false h = omega arith

-- an ID of 8 or more is unknown
pub command_of_unknown : (id : ℕ) (p : Bytes) → 8 ≤ id → command_of id p ≡ Err Unknown
unfolding command_of
command_of_unknown id p h =
    simp (
      ne_eqb id 0 (λ e. omega arith),
      ne_eqb id 1 (λ e. omega arith),
      ne_eqb id 2 (λ e. omega arith),
      ne_eqb id 3 (λ e. omega arith),
      ne_eqb id 4 (λ e. omega arith),
      ne_eqb id 5 (λ e. omega arith),
      ne_eqb id 6 (λ e. omega arith),
      ne_eqb id 7 (λ e. omega arith),
    )

-- ---- the parts of a WRITE's payload

-- What stands behind a key of n bytes in a payload of `size`: a deletion ends with its key, and a value starts behind
-- the NUL and runs to the end.
abbrev pub Behind : ℕ → ℕ → Written → Type 0
Behind n size Delete = size ≤ n
Behind n size (Value start len) = (start ≡ n + 1) × (start + len ≡ size)

behind-written_of : (n size : ℕ) → Behind n size (written_of n size)
unfolding written_of
behind-written_of n size = by (ltb n size) refl
  where
    by : (b : Bool) → ltb n size ≡ b → Behind n size (cond b (Value (n + 1) (size - (n + 1))) Delete)
    by true e = let l = ltb-true n size e in (refl, omega arith)
    by false e = ltb-false n size e

pub splits-behind : {p : Bytes} {n : ℕ} {w : Written} → Splits p n w → Behind n (length p) w
splits-behind {p} {n} {w} s =
    rw s.key (subst (Behind (first_nul p) (length p)) (sym s.written) (behind-written_of (first_nul p) (length p)))
