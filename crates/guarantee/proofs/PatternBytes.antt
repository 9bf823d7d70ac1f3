-- Patterns table_bytes as a subscriptions region: it keeps the rules and means the patterns.
use mathlib.Core.Path.{◌≡◌, refl, ap, ◌∙◌}
use mathlib.Core.List.{List, [], ◌∷◌, map}
use mathlib.Core.Bool.{true}
use Prim.Native.Nat.{◌≤◌}
use native.Mathlib.Nat.{mul-le-mul_right}
use native.Mathlib.Omega.{arith}
use lib.ListN.{length, drop}
use lib.Seq.{take-append_seam}
use Rattle.octets.specs.Octets.{Bytes}
use Rattle.pattern.specs.Syntax.{valid}
use Rattle.model.specs.Patterns.{Patterns}
use Rattle.model.specs.Lawful.{ValidPattern}
use Rattle.model.specs.Invariant.{Each}
use Rattle.subscriptions.specs.Region.{cell, count_of, patterns_of, subscriptions_fine}
use Rattle.subscriptions.proofs.Cells.{rules-fine}
use Rattle.guarantee.proofs.Filled.{numbers_then, length-numbers_then, number_at-numbers_then, drop-numbers_then}
use Rattle.guarantee.proofs.Filled.{filled, length-filled}
use Rattle.guarantee.proofs.Filled.{table_bytes, length-table_bytes, rows-table_bytes}

-- a pattern as a cell
unfoldable pub cell_bytes : Bytes → Bytes
cell_bytes p = filled 256 (length p ∷ p)

-- the patterns as a region
unfoldable pub subscriptions_bytes : Patterns → Bytes
subscriptions_bytes ps = numbers_then (length ps ∷ []) (filled 4096 (table_bytes cell_bytes ps))

length-cell : (p : Bytes) → ValidPattern valid p → length (cell_bytes p) ≡ 256
unfolding cell_bytes
length-cell p v = length-filled 256 (length p ∷ p) (omega (arith, v.short))

cell-bytes : (p : Bytes) → ValidPattern valid p → cell (cell_bytes p) ≡ p
unfolding cell_bytes cell filled
cell-bytes p v = take-append_seam p _

map_same : {A : Type 0} (l : List A) → map (λ (a : A). a) l ≡ l
map_same [] = refl
map_same (a ∷ l) = ap (λ (r : List _). a ∷ r) (map_same l)

module _ (ps : Patterns) (few : length ps ≤ 16) (all : Each (ValidPattern valid) ps) where
  length-cells : length (table_bytes cell_bytes ps) ≤ 4096
  length-cells =
      let l = length-table_bytes cell_bytes (ValidPattern valid) 256 length-cell ps all in
      omega (arith, l, mul-le-mul_right 256 few)

  pub length-subscriptions : length (subscriptions_bytes ps) ≡ 4100
  unfolding subscriptions_bytes
  length-subscriptions = rw (length-numbers_then, length-filled 4096 (table_bytes cell_bytes ps) length-cells)

  count-is : count_of (subscriptions_bytes ps) ≡ length ps
  unfolding subscriptions_bytes count_of
  count-is =
      number_at-numbers_then (length ps ∷ []) (filled 4096 (table_bytes cell_bytes ps)) (omega (arith, few), tt) 0
      (omega arith)

  pub subscriptions-fine : subscriptions_fine (subscriptions_bytes ps) ≡ true
  subscriptions-fine = rules-fine (record { size = length-subscriptions; few = rw count-is few })

  pub patterns-are : patterns_of (subscriptions_bytes ps) ≡ ps
  unfolding patterns_of subscriptions_bytes filled
  patterns-are =
      let d : drop 4 (subscriptions_bytes ps) ≡ filled 4096 (table_bytes cell_bytes ps) =
      drop-numbers_then (length ps ∷ []) (filled 4096 (table_bytes cell_bytes ps)) in
      rw (count-is, d)
      (rows-table_bytes cell_bytes (ValidPattern valid) 256 length-cell cell (λ p. p) cell-bytes ps _ all ∙ map_same ps)
