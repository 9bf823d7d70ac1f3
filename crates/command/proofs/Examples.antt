-- Messages and what they mean, computed.
use Prim.Native.Nat.{ℕ}
use mathlib.Core.Path.{◌≡◌, refl}
use mathlib.Core.List.{List, [], ◌∷◌, map}
use mathlib.Core.Option.{none, some}
use lib.ListN.{replicate}
use Rattle.octets.specs.Octets.{Bytes, has_nul, first_nul}
use Rattle.protocol.specs.declared.Refusal.TheVariants.{Unknown, Parameter, Room}
use Rattle.protocol.specs.Terms.{Reading, command, invalid, plain, begin, hello, sub, read, write, ping}
use Rattle.pattern.specs.Tokens.{single, tokens}
use Rattle.pattern.specs.Syntax.{valid, fits, star_fits}
use Rattle.command.specs.Commands.{fitting, hello_of, pattern_of, read_of, written_of, write_of, empty_of, command_of}
use Rattle.command.specs.Meaning.{meant, reading_of}

abbrev computed : ℕ × Bytes × Reading → Reading
computed e = reading_of e.0 e.1

abbrev given : ℕ × Bytes × Reading → Reading
given e = e.2

-- an empty value is a value; a value, an identifier and HELLO's text may hold NULs; an empty key is allowed; an
-- invalid pattern that is too long is a bad parameter
abbrev examples : List (ℕ × Bytes × Reading)
examples =
    (7, 120 ∷ [], command (plain (ping (120 ∷ []))))
    ∷ (7, 0 ∷ [], command (plain (ping (0 ∷ []))))
    ∷ (0, 5 ∷ [], command (plain (hello (5 ∷ []))))
    ∷ (0, 5 ∷ 0 ∷ 255 ∷ [], command (plain (hello (5 ∷ 0 ∷ 255 ∷ []))))
    ∷ (0, [], invalid Parameter)
    ∷ (4, 107 ∷ [], command (plain (write (107 ∷ []) none)))
    ∷ (4, 107 ∷ 0 ∷ [], command (plain (write (107 ∷ []) (some []))))
    ∷ (4, 107 ∷ 0 ∷ 0 ∷ 1 ∷ [], command (plain (write (107 ∷ []) (some (0 ∷ 1 ∷ [])))))
    ∷ (4, [], command (plain (write [] none)))
    ∷ (4, 0 ∷ 120 ∷ [], command (plain (write [] (some (120 ∷ [])))))
    ∷ (3, [], command (plain (read [])))
    ∷ (3, 97 ∷ 0 ∷ [], invalid Parameter)
    ∷ (1, 42 ∷ 42 ∷ [], invalid Parameter)
    ∷ (1, 97 ∷ 42 ∷ [], command (plain (sub (97 ∷ 42 ∷ []))))
    ∷ (2, 97 ∷ 0 ∷ [], invalid Parameter)
    ∷ (1, replicate 255 97, command (plain (sub (replicate 255 97))))
    ∷ (1, replicate 256 97, invalid Room)
    ∷ (2, replicate 256 42, invalid Parameter)
    ∷ (5, [], command begin)
    ∷ (5, 0 ∷ [], invalid Parameter)
    ∷ (6, 1 ∷ [], invalid Parameter)
    ∷ (8, [], invalid Unknown)
    ∷ (128, 0 ∷ [], invalid Unknown)
    ∷ []

pub examples-hold : map computed examples ≡ map given examples
unfolding has_nul first_nul single tokens valid fits star_fits fitting hello_of pattern_of read_of written_of write_of empty_of
    command_of meant
examples-hold = refl
