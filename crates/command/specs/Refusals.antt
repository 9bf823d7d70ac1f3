-- Why a command is refused, one test for each sentence of document 01 ("From bytes to one command", Payloads and
-- Order), and the order of the tests: 100, then 101, then 102.
use Rattle.std.specs.Prelude.{[], ◌∷◌, Bool, true, false, cond, not, ◌&&◌, ◌||◌, ℕ, eqb, leb, ltb, length}
use Rattle.std.specs.Prelude.{Result, Ok, Err}
use Rattle.std.proofs.Math.Option.{Option, none, some}
use Rattle.octets.specs.Octets.{Bytes, has_nul}
use Rattle.pattern.specs.Syntax.{valid}
use Rattle.protocol.specs.declared.Refusal.{Refusal}
use Rattle.protocol.specs.declared.Refusal.TheVariants.{Unknown, Parameter, Room}
use Rattle.command.specs.declared.Command.{Command}

-- whether there is no payload
abbrev pub is_empty : Bytes → Bool
is_empty [] = true
is_empty (b ∷ p) = false

-- SUB and UNSUB have a pattern
abbrev pub has_pattern : ℕ → Bool
has_pattern id = eqb id 1 || eqb id 2

-- 100: the ID is none of HELLO to PING
unfoldable pub is_unknown : ℕ → Bool
is_unknown id = leb 8 id

-- 101: HELLO without a version byte; a NUL in READ's key or in a pattern; an invalid pattern; BEGIN or COMMIT with a
-- payload
unfoldable pub is_bad : ℕ → Bytes → Bool
is_bad id p =
    (eqb id 0 && is_empty p)
    || ((eqb id 3 && has_nul p)
    || ((has_pattern id && (has_nul p || not (valid p))) || ((eqb id 5 || eqb id 6) && not (is_empty p))))

-- 102: a payload over 65,535 bytes, or a pattern over 255
unfoldable pub is_long : ℕ → Bytes → Bool
is_long id p = ltb 65535 (length p) || (has_pattern id && ltb 255 (length p))

-- the first of the three that holds
unfoldable pub verdict : ℕ → Bytes → Option Refusal
verdict id p =
    cond (is_unknown id) (some Unknown) (cond (is_bad id p) (some Parameter) (cond (is_long id p) (some Room) none))

-- why a command is refused, where it is
abbrev pub refusal_of : Result Command Refusal → Option Refusal
refusal_of (Ok c) = none
refusal_of (Err r) = some r
