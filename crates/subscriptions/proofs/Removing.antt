-- What writes make of the region: its header, a pattern added, and the loop that keeps the cells that are not removed.
use mathlib.Core.Path.{◌≡◌, refl, sym, ap, ◌∙◌}
use mathlib.Core.List.{[], ◌∷◌, ◌++◌, append_assoc, append-nil}
use mathlib.Core.Bool.{true, false}
use Prim.Native.Nat.{ℕ, suc, ◌+◌, ◌-◌, ◌*◌, ◌≤◌, ◌<◌}
use native.Mathlib.Nat.{sub-zero, zero-add, add-zero, le_refl}
use native.Mathlib.Numerals.{add-one}
use native.Mathlib.Omega.{arith}
use lib.ListN.{length, take, drop, set, length-append}
use lib.Seq.{sets, sets-eq, length-sets}
use Rattle.octets.specs.Octets.{Bytes}
use Rattle.octets.specs.Part.{part}
use Rattle.octets.specs.Number.{big_endian}
use Rattle.octets.specs.Table.{rows}
use Rattle.octets.proofs.Parts.{length_part, part-sets-within, part-sets-same, drop-sets, take-part-drop}
use Rattle.octets.proofs.Numbers.{number_at-sets-same, length-big_endian}
use Rattle.octets.proofs.Tables.{table-sets-after}
use Rattle.model.specs.Patterns.{Patterns, held, add_pattern, remove_pattern}
use Rattle.subscriptions.specs.Region.{cell, cell_at, count_of, patterns_of, subscriptions_fine}
use Rattle.subscriptions.specs.Promises.{Becomes, Addable, Places, Kept, dropped, kept}
use Rattle.subscriptions.proofs.Cells.{fine-rules, rules-fine, length-patterns_of, cell-sets, rows-cons}
use Rattle.subscriptions.proofs.Cells.{rows_snoc}

-- ---- the header written

module _ (s : Bytes) (n : ℕ) (l : length s ≡ 4100) (few : n ≤ 16) where
  count_of-headed : count_of (sets s 0 (big_endian 4 n)) ≡ n
  unfolding count_of
  count_of-headed = number_at-sets-same 4 s 0 n (omega arith) (omega arith)

  patterns_of-headed : patterns_of (sets s 0 (big_endian 4 n)) ≡ rows cell 256 n (drop 4 s)
  unfolding patterns_of
  patterns_of-headed =
      rw (count_of-headed, drop-sets s 0 (big_endian 4 n) 4 (rw (length-big_endian 4 n) (omega arith)))

  pub becomes-headed : (ps : Patterns) (s₀ : Bytes) → length s₀ ≡ 4100 → rows cell 256 n (drop 4 s) ≡ ps
      → Becomes ps s₀ (sets s 0 (big_endian 4 n))
  becomes-headed ps s₀ l₀ e =
      record {
        fine = rules-fine (record { size = length-sets s 0 (big_endian 4 n) ∙ l; few = rw count_of-headed few });
        size = length-sets s 0 (big_endian 4 n) ∙ l ∙ sym l₀;
        holds = patterns_of-headed ∙ e;
      }

-- ---- a pattern added

module _ (s p : Bytes) (w : Addable s p) where
  pub add-held : held p (patterns_of s) ≡ true → Becomes (add_pattern p (patterns_of s)) s s
  unfolding add_pattern
  add-held h = record { fine = w.fine; size = refl; holds = rw h }

  pub add-room : held p (patterns_of s) ≡ false → count_of s + 1 ≤ 16
  unfolding add_pattern
  add-room h =
      let f : length (patterns_of s ++ (p ∷ [])) ≤ 16 = rw h at w.few in
      omega (arith, length-append (patterns_of s) (p ∷ []), length-patterns_of s)

  cell-added : held p (patterns_of s) ≡ false → cell_at (sets s (4 + count_of s * 256) (length p ∷ p)) (count_of s) ≡ p
  unfolding cell_at
  cell-added h =
      let at : ℕ = 4 + count_of s * 256 in
      let f : at + 256 ≤ length s = omega (arith, add-room h, (fine-rules w.fine).size) in
      let e : part (sets s (at + 0) (length p ∷ p)) at 256 ≡ sets (part s at 256) 0 (length p ∷ p) =
      part-sets-within s at 256 0 (length p ∷ p) (omega (arith, w.short)) in
      rw (add-zero at) at (ap cell e) ∙ cell-sets (part s at 256) p (omega (arith, length_part s at 256 f, w.short))

  rows-added : held p (patterns_of s) ≡ false
      → rows cell 256 (count_of s + 1) (drop 4 (sets s (4 + count_of s * 256) (length p ∷ p)))
      ≡ add_pattern p (patterns_of s)
  unfolding add_pattern patterns_of
  rows-added h =
      let t : Bytes = sets s (4 + count_of s * 256) (length p ∷ p) in
      let a : rows cell 256 (count_of s) (drop 4 t) ≡ rows cell 256 (count_of s) (drop 4 s) =
      table-sets-after cell 256 4 (count_of s) s (4 + count_of s * 256) (length p ∷ p) (le_refl (4 + count_of s * 256)) in
      rw (h, add-one (count_of s)) (rows_snoc t (count_of s) 0 ∙ rw (zero-add (count_of s), a, cell-added h))

  pub add-new : held p (patterns_of s) ≡ false
      → Becomes (add_pattern p (patterns_of s)) s
      (sets (sets (set s (4 + count_of s * 256) (length p)) (4 + count_of s * 256 + 1) p) 0 (big_endian 4 (count_of s + 1)))
  add-new h =
      let at : ℕ = 4 + count_of s * 256 in
      let l : length s ≡ 4100 = (fine-rules w.fine).size in
      rw (add-one at)
      (becomes-headed (sets s at (length p ∷ p)) (count_of s + 1) (length-sets s at (length p ∷ p) ∙ l) (add-room h)
      (add_pattern p (patterns_of s)) s l (rows-added h))

-- ---- the loop that removes

-- a part stored where it stands
pub sets-part : (s : Bytes) (at n : ℕ) → at + n ≤ length s → sets s at (part s at n) ≡ s
sets-part s at n h =
    let l : length (part s at n) ≡ n = length_part s at n h in
    let f : at + length (part s at n) ≤ length s = omega arith in
    sets-eq (part s at n) s at f
    ∙ rw (l, append_assoc (take at s) (part s at n) (drop (at + n) s)) (take-part-drop s at n)

-- `to` of the cells before `from` are kept, in the front, and those from there on are as they were
pub record Sifted (ps : Patterns) (p : Bytes) (n : ℕ) (s : Bytes) (from to : ℕ) : Type 0 where
  pub size : length s ≡ 4100
  pub few : n ≤ 16
  pub step : from ≤ n
  pub order : to ≤ from
  pub value : rows cell 256 to (drop 4 s) ++ remove_pattern p (rows cell 256 (n - from) (drop (4 + from * 256) s))
      ≡ remove_pattern p ps

pub sift-start : (p s : Bytes) (n : ℕ) → subscriptions_fine s ≡ true → n ≡ count_of s → Sifted (patterns_of s) p n s 0 0
unfolding patterns_of rows
sift-start p s n h e =
    let w = fine-rules h in
    record {
      size = w.size;
      few = omega (arith, w.few);
      step = omega arith;
      order = omega arith;
      value =
          rw (sub-zero n, e);
    }

module _ (ps : Patterns) (p : Bytes) (n : ℕ) (s : Bytes) (from to : ℕ) (w : Sifted ps p n s from to) where
  pub sift-places : from < n → Places s from to
  sift-places l = record { cell = record { size = w.size; index = omega (arith, w.few) }; order = w.order }

  sift-turn : from < n
      → rows cell 256 (n - from) (drop (4 + from * 256) s)
      ≡ cell_at s from ∷ rows cell 256 (n - (from + 1)) (drop (4 + (from + 1) * 256) s)
  sift-turn l =
      let e : n - from ≡ suc (n - (from + 1)) = omega arith in
      rw e (rows-cons s (n - (from + 1)) from)

  -- the cell moved to the place `to`
  moved : Bytes
  moved = sets s (4 + to * 256) (part s (4 + from * 256) 256)

  moved-rows : from < n
      → rows cell 256 (to + 1) (drop 4 moved) ++ remove_pattern p
      (rows cell 256 (n - (from + 1)) (drop (4 + (from + 1) * 256) moved))
      ≡ rows cell 256 to (drop 4 s)
      ++ (cell_at s from ∷ remove_pattern p (rows cell 256 (n - (from + 1)) (drop (4 + (from + 1) * 256) s)))
  unfolding cell_at moved
  moved-rows l =
      let v : Bytes = part s (4 + from * 256) 256 in
      let lv : length v ≡ 256 = length_part s (4 + from * 256) 256 (omega (arith, w.size, w.few)) in
      let a : rows cell 256 to (drop 4 moved) ≡ rows cell 256 to (drop 4 s) =
      table-sets-after cell 256 4 to s (4 + to * 256) v (le_refl (4 + to * 256)) in
      let b : part moved (4 + to * 256) 256 ≡ v =
      rw lv at (part-sets-same s (4 + to * 256) v (omega (arith, lv, w.size, w.few, w.order))) in
      let d : drop (4 + (from + 1) * 256) moved ≡ drop (4 + (from + 1) * 256) s =
      drop-sets s (4 + to * 256) v (4 + (from + 1) * 256) (omega (arith, lv, w.order)) in
      let c : rows cell 256 (to + 1) (drop 4 moved) ≡ rows cell 256 to (drop 4 s) ++ (cell v ∷ []) =
      rw (add-one to) (rows_snoc moved to 0 ∙ rw (zero-add to, a, b)) in
      rw (c, d) (append_assoc (rows cell 256 to (drop 4 s)) (cell v ∷ []) _)

  pub sift-next : from < n → (m : ℕ) (s' : Bytes) → Kept s p from to m s' → Sifted ps p n s' (from + 1) m
  unfolding remove_pattern moved
  sift-next l m s' (dropped t e q) =
      rw (q, e)
      (record {
        size = w.size;
        few = w.few;
        step = omega arith;
        order = omega (arith, w.order);
        value = rw (sift-turn l, t) at w.value;
      })
  sift-next l m s' (kept t e q) =
      rw (q, e)
      (record {
        size = length-sets s (4 + to * 256) (part s (4 + from * 256) 256) ∙ w.size;
        few = w.few;
        step = omega arith;
        order = omega (arith, w.order);
        value = moved-rows l ∙ rw (sift-turn l, t) at w.value;
      })

  pub sift-end : n ≤ from → rows cell 256 to (drop 4 s) ≡ remove_pattern p ps
  unfolding remove_pattern rows
  sift-end l =
      let e : n - from ≡ 0 = omega arith in
      sym (append-nil (rows cell 256 to (drop 4 s))) ∙ rw e at w.value
