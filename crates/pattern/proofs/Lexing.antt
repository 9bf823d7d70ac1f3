-- The tokens from a place of the pattern on, by the byte that stands there.
use mathlib.Core.Path.{◌≡◌, refl}
use mathlib.Core.List.{[], ◌∷◌}
use mathlib.Core.Bool.{true, false}
use Prim.Native.Nat.{ℕ, suc, ◌+◌, ◌<◌, ◌≤◌}
use native.Mathlib.Numerals.{add-one, add-two}
use native.Mathlib.Omega.{arith}
use lib.ListN.{length, get_or, drop_of_length-le}
use lib.Seq.{drop-cons}
use lib.Dec.{eqb}
use borrow.Author.Tests.{eq-eqb, ne_eqb}
use Rattle.octets.specs.Octets.{Bytes}
use Rattle.pattern.specs.declared.token.Token.TheVariants.{Byte}
use Rattle.pattern.specs.Tokens.{single, tokens}
use Rattle.pattern.specs.Checking.{tokens_at}

tokens-plain : (c : ℕ) (q : Bytes) → eqb c 92 ≡ false → tokens (c ∷ q) ≡ single c ∷ tokens q
unfolding tokens
tokens-plain c [] e = refl
tokens-plain c (d ∷ q) e = rw e

tokens-escape : (c d : ℕ) (q : Bytes) → eqb c 92 ≡ true → tokens (c ∷ d ∷ q) ≡ Byte d ∷ tokens q
unfolding tokens
tokens-escape c d q e = rw e

module _ (p : Bytes) (at : ℕ) where
  pub tokens-end : length p ≤ at → tokens_at p at ≡ []
  unfolding tokens_at tokens
  tokens-end h = rw drop_of_length-le

  pub token-plain : at < length p → (get_or p at 0 ≡ 92 → ⊥) → tokens_at p at ≡ single (get_or p at 0) ∷ tokens_at p (at + 1)
  unfolding tokens_at
  token-plain h n = rw (add-one, drop-cons p at 0) (tokens-plain _ _ (ne_eqb _ _ n))

  pub token-last : at < length p → length p ≤ at + 1 → tokens_at p at ≡ single (get_or p at 0) ∷ tokens_at p (at + 1)
  unfolding tokens_at tokens
  token-last h l =
      let l' : length p ≤ suc at = omega arith in
      rw (add-one, drop-cons p at 0, drop_of_length-le)

  pub token-escape : at + 1 < length p → get_or p at 0 ≡ 92
      → tokens_at p at ≡ Byte (get_or p (at + 1) 0) ∷ tokens_at p (at + 2)
  unfolding tokens_at
  token-escape h e =
      let h₀ : at < length p = omega arith in
      let h₁ : suc at < length p = omega arith in
      rw (add-one, add-two, drop-cons p at 0, drop-cons p (suc at) 0) (tokens-escape _ _ _ (eq-eqb _ _ e))
