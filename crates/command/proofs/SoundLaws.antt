-- Every command that is read is sound (`reading-sound`): its payload is what came in, keys have no NUL, patterns are
-- good, and nothing is too long. A WRITE has the parts of its payload (`write-splits`).
use mathlib.Core.Path.{◌≡◌, refl, sym, subst}
use mathlib.Core.List.{[], ◌∷◌, ◌++◌, append-nil}
use mathlib.Core.Bool.{Bool, true, false, cond}
use Prim.Native.Nat.{ℕ, zero, suc, ◌+◌, ◌-◌, ◌≤◌, ◌<◌}
use native.Mathlib.Numerals.{add-one}
use native.Mathlib.Omega.{arith}
use lib.Dec.{eqb, leb, ltb}
use Rattle.std.specs.Prelude.{Result, Ok, Err}
use lib.ListN.{length, take, drop, get_or, length-drop}
use lib.Seq.{take_all, split_at}
use borrow.Author.Tests.{eqb-true, leb-true, ltb-true, ltb-false}
use Rattle.octets.specs.Octets.{Bytes, has_nul, first_nul}
use Rattle.pattern.specs.Syntax.{valid}
use Rattle.protocol.specs.declared.Refusal.{Refusal}
use Rattle.protocol.specs.declared.Refusal.TheVariants.{Parameter, Room}
use Rattle.protocol.specs.Terms.{payload, value_tail}
use Rattle.command.specs.declared.Written.{Written}
use Rattle.command.specs.declared.Written.TheVariants.{Delete, Value}
use Rattle.command.specs.declared.Command.{Command}
use Rattle.command.specs.declared.Command.TheVariants.{Hello, Sub, Unsub, Read, Write, Begin, Commit, Ping}
use Rattle.command.specs.Commands.{fitting, hello_of, pattern_of, read_of, written_of, write_of, empty_of, command_of}
use Rattle.command.specs.Commands.{Splits}
use Rattle.command.specs.Meaning.{meant, reading_of}
use Rattle.command.proofs.Laws.{command_of_unknown}
use Rattle.command.specs.Sound.{GoodPattern, SoundReading}

-- ---- the first NUL

has_nul-front : (p : Bytes) → has_nul (take (first_nul p) p) ≡ false
unfolding has_nul first_nul
has_nul-front [] = refl
has_nul-front (c ∷ p) = by (eqb c 0) refl (has_nul-front p)
  where
    by : (b : Bool) → eqb c 0 ≡ b → has_nul (take (first_nul p) p) ≡ false
        → has_nul (take (cond b 0 (first_nul p + 1)) (c ∷ p)) ≡ false
    by true e h = refl
    by false e h = rw (add-one (first_nul p), e) h

get_d-first_nul : (p : Bytes) → get_or p (first_nul p) 0 ≡ 0
unfolding first_nul
get_d-first_nul [] = refl
get_d-first_nul (c ∷ p) = by (eqb c 0) refl (get_d-first_nul p)
  where
    by : (b : Bool) → eqb c 0 ≡ b → get_or p (first_nul p) 0 ≡ 0 → get_or (c ∷ p) (cond b 0 (first_nul p + 1)) 0 ≡ 0
    by true e h = eqb-true c 0 e
    by false e h = rw (add-one (first_nul p)) h

-- a key, NUL and a value are the payload again
write-value : (p : Bytes) → first_nul p < length p
    → take (first_nul p) p ++ 0 ∷ take (length p - (first_nul p + 1)) (drop (first_nul p + 1) p) ≡ p
write-value p h =
    let n : length (drop (first_nul p + 1) p) ≤ length p - (first_nul p + 1) = simp length-drop (omega arith) in
    rw (take_all (length p - (first_nul p + 1)) (drop (first_nul p + 1) p) n, add-one (first_nul p))
    (sym (rw (get_d-first_nul p) at (split_at p (first_nul p) 0 h)))

write-delete : (p : Bytes) → length p ≤ first_nul p → take (first_nul p) p ++ [] ≡ p
write-delete p h = rw (append-nil (take (first_nul p) p)) (take_all (first_nul p) p h)

-- ---- commands

fitting-sound : (id : ℕ) (p : Bytes) (c : Command) → (length p ≤ 65535 → SoundReading id p (meant p (Ok c)))
    → SoundReading id p (meant p (fitting p c))
unfolding fitting meant
fitting-sound id p c h = by (leb (length p) 65535) refl
  where
    by : (b : Bool) → leb (length p) 65535 ≡ b → SoundReading id p (meant p (cond b (Ok c) (Err Room)))
    by true e = h (leb-true (length p) 65535 e)
    by false e = tt

pattern-sound : (id : ℕ) (p : Bytes) (c : Command) → (GoodPattern p → SoundReading id p (meant p (Ok c)))
    → SoundReading id p (meant p (pattern_of p c))
unfolding pattern_of meant
pattern-sound id p c h = by (has_nul p) (valid p) (leb (length p) 255) refl refl refl
  where
    by : (a b t : Bool) → has_nul p ≡ a → valid p ≡ b → leb (length p) 255 ≡ t
        → SoundReading id p
        (meant p (cond a (Err Parameter) (cond b (cond t (Ok c) (Err Room)) (Err Parameter))))
    by true b t e f g = tt
    by false false t e f g = tt
    by false true false e f g = tt
    by false true true e f g = h (record { clean = e; valid = f; short = leb-true (length p) 255 g })

read-sound : (p : Bytes) → SoundReading 3 p (meant p (read_of p))
unfolding read_of meant payload
read-sound p = by (has_nul p) refl
  where
    by : (b : Bool) → has_nul p ≡ b → SoundReading 3 p (meant p (cond b (Err Parameter) (fitting p Read)))
    by true e = tt
    by false e = fitting-sound 3 p Read (λ h. record { identity = refl; content = refl; fits = h; fine = e })

write-sound : (p : Bytes) → SoundReading 4 p (meant p (write_of p))
unfolding write_of written_of meant payload value_tail
write-sound p = fitting-sound 4 p (Write (first_nul p) (written_of (first_nul p) (length p)))
    (by (ltb (first_nul p) (length p)) refl)
  where
    by : (b : Bool) → ltb (first_nul p) (length p) ≡ b → length p ≤ 65535
        → SoundReading 4 p
        (meant p (Ok (Write (first_nul p) (cond b (Value (first_nul p + 1) (length p - (first_nul p + 1))) Delete))))
    by true e h =
        record { identity = refl; content = write-value p (ltb-true _ _ e); fits = h; fine = has_nul-front p }
    by false e h =
        record { identity = refl; content = write-delete p (ltb-false _ _ e); fits = h; fine = has_nul-front p }

unknown-sound : (id : ℕ) (p : Bytes) → 8 ≤ id → SoundReading id p (reading_of id p)
unfolding meant
unknown-sound id p h = rw (command_of_unknown id p h) tt

pub reading-sound : (id : ℕ) (p : Bytes) → SoundReading id p (reading_of id p)
unfolding command_of hello_of empty_of meant payload
reading-sound zero [] = tt
reading-sound zero (v ∷ t) =
    fitting-sound 0 (v ∷ t) Hello (λ h. record { identity = refl; content = refl; fits = h; fine = omega arith })
reading-sound (suc zero) p =
    pattern-sound 1 p Sub (λ g. record { identity = refl; content = refl; fits = omega (arith, g.short); fine = g })
reading-sound (suc (suc zero)) p =
    pattern-sound 2 p Unsub
    (λ g. record { identity = refl; content = refl; fits = omega (arith, g.short); fine = g })
reading-sound (suc (suc (suc zero))) p = read-sound p
reading-sound (suc (suc (suc (suc zero)))) p = write-sound p
reading-sound (suc (suc (suc (suc (suc zero))))) [] = (refl, refl)
reading-sound (suc (suc (suc (suc (suc zero))))) (b ∷ p) = tt
reading-sound (suc (suc (suc (suc (suc (suc zero)))))) [] = (refl, refl)
reading-sound (suc (suc (suc (suc (suc (suc zero)))))) (b ∷ p) = tt
reading-sound (suc (suc (suc (suc (suc (suc (suc zero))))))) p =
    fitting-sound 7 p Ping (λ h. record { identity = refl; content = refl; fits = h; fine = tt })
reading-sound (suc (suc (suc (suc (suc (suc (suc (suc id)))))))) p =
    unknown-sound (suc (suc (suc (suc (suc (suc (suc (suc id)))))))) p (omega arith)

-- ---- the parts of a WRITE

-- a WRITE has the parts of its payload; nothing is asked of any other command
abbrev Parted : Bytes → Result Command Refusal → Type 0
Parted p (Ok Hello) = Unit {0}
Parted p (Ok Sub) = Unit {0}
Parted p (Ok Unsub) = Unit {0}
Parted p (Ok Read) = Unit {0}
Parted p (Ok (Write n w)) = Splits p n w
Parted p (Ok Begin) = Unit {0}
Parted p (Ok Commit) = Unit {0}
Parted p (Ok Ping) = Unit {0}
Parted p (Err r) = Unit {0}

module _ (p : Bytes) where
  -- a command is as it was, or refused
  parted-cond : (b : Bool) (c d : Result Command Refusal) → Parted p c → Parted p d → Parted p (cond b c d)
  parted-cond true c d h k = h
  parted-cond false c d h k = k

  parted-fitting : (c : Command) → Parted p (Ok c) → Parted p (fitting p c)
  unfolding fitting
  parted-fitting c h = parted-cond (leb (length p) 65535) (Ok c) (Err Room) h tt

  parted-pattern : (c : Command) → Parted p (Ok c) → Parted p (pattern_of p c)
  unfolding pattern_of
  parted-pattern c h =
      parted-cond (has_nul p) (Err Parameter) _ tt
      (parted-cond (valid p) _ (Err Parameter) (parted-cond (leb (length p) 255) (Ok c) (Err Room) h tt) tt)

  parted-read : Parted p (read_of p)
  unfolding read_of
  parted-read = parted-cond (has_nul p) (Err Parameter) _ tt (parted-fitting Read tt)

  parted-write : Parted p (write_of p)
  unfolding write_of
  parted-write =
      parted-fitting (Write (first_nul p) (written_of (first_nul p) (length p))) (record { key = refl; written = refl })

parted-hello : (p : Bytes) → Parted p (hello_of p)
unfolding hello_of
parted-hello [] = tt
parted-hello (v ∷ t) = parted-fitting (v ∷ t) Hello tt

parted-empty : (p : Bytes) (c : Command) → Parted p (Ok c) → Parted p (empty_of p c)
unfolding empty_of
parted-empty [] c h = h
parted-empty (b ∷ p) c h = tt

parted : (id : ℕ) (p : Bytes) → Parted p (command_of id p)
unfolding command_of
parted id p =
    parted-cond p (eqb id 0) _ _ (parted-hello p)
    (parted-cond p (eqb id 1) _ _ (parted-pattern p Sub tt)
    (parted-cond p (eqb id 2) _ _ (parted-pattern p Unsub tt)
    (parted-cond p (eqb id 3) _ _ (parted-read p)
    (parted-cond p (eqb id 4) _ _ (parted-write p)
    (parted-cond p (eqb id 5) _ _ (parted-empty p Begin tt)
    (parted-cond p (eqb id 6) _ _ (parted-empty p Commit tt)
    (parted-cond p (eqb id 7) _ _ (parted-fitting p Ping tt) tt)))))))

pub write-splits : (id : ℕ) (p : Bytes) (n : ℕ) (w : Written) → command_of id p ≡ Ok (Write n w) → Splits p n w
write-splits id p n w e = subst (Parted p) e (parted id p)
