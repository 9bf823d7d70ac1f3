-- Every refusal is the first of 100, 101 and 102 that holds (`refusal-verdict`).
use mathlib.Core.Path.{◌≡◌, refl}
use mathlib.Core.List.{[], ◌∷◌}
use mathlib.Core.Bool.{Bool, true, false, cond, not, ◌||◌}
use mathlib.Core.Option.{none, some}
use Prim.Native.Nat.{ℕ, zero, suc, ◌≤◌}
use native.Mathlib.Omega.{arith}
use lib.Dec.{leb, ltb}
use lib.ListN.{length}
use Rattle.std.specs.Prelude.{Ok, Err}
use borrow.Author.Tests.{le-leb, leb-true, leb-false, lt-ltb, le-ltb}
use Rattle.octets.specs.Octets.{Bytes, has_nul}
use Rattle.pattern.specs.Syntax.{valid}
use Rattle.protocol.specs.declared.Refusal.TheVariants.{Parameter, Room}
use Rattle.command.specs.declared.Command.{Command}
use Rattle.command.specs.declared.Command.TheVariants.{Hello, Sub, Unsub, Read, Ping}
use Rattle.command.specs.Commands.{fitting, hello_of, pattern_of, read_of, write_of, empty_of, command_of}
use Rattle.command.proofs.Laws.{command_of_unknown}
use Rattle.command.specs.Refusals.{is_unknown, is_bad, is_long, verdict, refusal_of}

-- a payload that is short enough, or no room
fitting-refusal : (p : Bytes) (c : Command)
    → refusal_of (fitting p c) ≡ cond (ltb 65535 (length p) || false) (some Room) none
unfolding fitting
fitting-refusal p c = by (leb (length p) 65535) refl
  where
    by : (b : Bool) → leb (length p) 65535 ≡ b
        → refusal_of (cond b (Ok c) (Err Room)) ≡ cond (ltb 65535 (length p) || false) (some Room) none
    by true f = rw (le-ltb 65535 (length p) (leb-true _ _ f))
    by false f = rw (lt-ltb 65535 (length p) (leb-false _ _ f))

pattern-refusal : (p : Bytes) (c : Command)
    → refusal_of (pattern_of p c)
    ≡ cond ((has_nul p || not (valid p)) || false) (some Parameter)
    (cond (ltb 65535 (length p) || ltb 255 (length p)) (some Room) none)
unfolding pattern_of
pattern-refusal p c = by (has_nul p) (valid p) (leb (length p) 255) refl
  where
    by : (a b t : Bool) → leb (length p) 255 ≡ t
        → refusal_of (cond a (Err Parameter) (cond b (cond t (Ok c) (Err Room)) (Err Parameter)))
        ≡ cond ((a || not b) || false) (some Parameter)
        (cond (ltb 65535 (length p) || ltb 255 (length p)) (some Room) none)
    by true b t f = refl
    by false false t f = refl
    by false true true f =
        let h = leb-true (length p) 255 f in
        rw (le-ltb 65535 (length p) (omega arith), le-ltb 255 (length p) h)
    by false true false f =
        let h = leb-false (length p) 255 f in
        rw (lt-ltb 255 (length p) h) (over (ltb 65535 (length p)))
      where
        over : (b : Bool) → some Room ≡ cond (b || true) (some Room) none
        over true = refl
        over false = refl

read-refusal : (p : Bytes)
    → refusal_of (read_of p)
    ≡ cond (has_nul p || false) (some Parameter) (cond (ltb 65535 (length p) || false) (some Room) none)
unfolding read_of
read-refusal p = by (has_nul p)
  where
    by : (b : Bool) → refusal_of (cond b (Err Parameter) (fitting p Read))
        ≡ cond (b || false) (some Parameter) (cond (ltb 65535 (length p) || false) (some Room) none)
    by true = refl
    by false = fitting-refusal p Read

unknown-refusal : (id : ℕ) (p : Bytes) → 8 ≤ id → refusal_of (command_of id p) ≡ verdict id p
unfolding verdict is_unknown
unknown-refusal id p h = rw (le-leb 8 id h, command_of_unknown id p h)

-- a command is refused as the verdict says, and not otherwise
pub refusal-verdict : (id : ℕ) (p : Bytes) → refusal_of (command_of id p) ≡ verdict id p
unfolding command_of hello_of empty_of write_of verdict is_unknown is_bad is_long
refusal-verdict zero [] = refl
refusal-verdict zero (v ∷ t) = fitting-refusal (v ∷ t) Hello
refusal-verdict (suc zero) p = pattern-refusal p Sub
refusal-verdict (suc (suc zero)) p = pattern-refusal p Unsub
refusal-verdict (suc (suc (suc zero))) p = read-refusal p
refusal-verdict (suc (suc (suc (suc zero)))) p = fitting-refusal p _
refusal-verdict (suc (suc (suc (suc (suc zero))))) [] = refl
refusal-verdict (suc (suc (suc (suc (suc zero))))) (b ∷ p) = refl
refusal-verdict (suc (suc (suc (suc (suc (suc zero)))))) [] = refl
refusal-verdict (suc (suc (suc (suc (suc (suc zero)))))) (b ∷ p) = refl
refusal-verdict (suc (suc (suc (suc (suc (suc (suc zero))))))) p = fitting-refusal p Ping
refusal-verdict (suc (suc (suc (suc (suc (suc (suc (suc id)))))))) p =
    unknown-refusal (suc (suc (suc (suc (suc (suc (suc (suc id)))))))) p (omega arith)
