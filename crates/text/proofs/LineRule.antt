-- A line that is not blank is read by the row that its word names (`line_gives`), and is refused with 100 exactly where
-- there is none (`unknown-word`).
use mathlib.Core.Path.{◌≡◌, refl, sym, ◌∙◌}
use mathlib.Core.Logic.{◌⊎◌, inl, inr}
use mathlib.Core.List.{[], ◌∷◌}
use mathlib.Core.Option.{Option, none, some}
use Prim.Native.Nat.{ℕ}
use native.Mathlib.Omega.{arith}
use Rattle.octets.specs.Octets.{Bytes}
use Rattle.protocol.specs.declared.Refusal.TheVariants.{Unknown}
use Rattle.words.specs.Words.{id_of}
use Rattle.words.proofs.Rule.{id_of-gives, gives-id_of}
use Rattle.text.specs.Fields.{trim, word, after_word}
use Rattle.text.specs.Payload.{payload_for}
use Rattle.text.specs.Line.{blank, refused, payload_of, of_payload, of_id, begun, line_of, Worded}

begun-word : (t : Bytes) → (t ≡ [] → ⊥) → begun t ≡ of_id (id_of (word t)) (after_word t)
unfolding begun
begun-word [] h = absurd (h refl)
begun-word (c ∷ t) h = refl

pub line_gives : (s : Bytes) (o : Option ℕ) → Worded s o → line_of s ≡ of_id o (after_word (trim s))
unfolding line_of
line_gives s o w = rw (← gives-id_of (word (trim s)) o w.gives) (begun-word (trim s) w.begins)

-- every line is blank or has a word
pub blank-or-worded : (s : Bytes) → ((trim s ≡ []) × (line_of s ≡ blank)) ⊎ ((o : Option ℕ) × Worded s o)
unfolding line_of begun
blank-or-worded s = by (trim s) refl
  where
    by : (t : Bytes) → trim s ≡ t → ((trim s ≡ []) × (line_of s ≡ blank)) ⊎ ((o : Option ℕ) × Worded s o)
    by [] e = inl (e, rw e)
    by (c ∷ t) e = inr (
      id_of (word (trim s)),
      record {
        begins = λ n. let z : ◌≡◌ {A = ℕ} 0 1 = cc (e, n) in omega arith;
        gives = id_of-gives (word (trim s)) (id_of (word (trim s))) refl;
      },
    )

pub unknown-word : (s : Bytes) → line_of s ≡ refused Unknown → Worded s none
unknown-word s h = by (blank-or-worded s)
  where
    known : (i : ℕ) (p : Option Bytes) → of_payload i p ≡ refused Unknown → Worded s none
    known i none e = let z : ◌≡◌ {A = ℕ} 0 1 = cc in absurd (omega arith)
    known i (some p) e = let z : ◌≡◌ {A = ℕ} 0 1 = cc in absurd (omega arith)

    by : ((trim s ≡ []) × (line_of s ≡ blank)) ⊎ ((o : Option ℕ) × Worded s o) → Worded s none
    by (inl (e, b)) = let z : ◌≡◌ {A = ℕ} 0 1 = cc (b, h) in absurd (omega arith)
    by (inr (none, w)) = w
    by (inr (some i, w)) = known i (payload_of (payload_for i) (after_word (trim s))) (sym (line_gives s (some i) w) ∙ h)
