-- The words of text commands on the wire. The reader's words are the writer's (`words-agree`). A text client's line is
-- received by the row that its word names (`received-gives`); 100 answers an unknown word (`received-unknown`) and
-- nothing else that a text client sends (`unknown-received`).
use mathlib.Core.Path.{◌≡◌, refl, sym, ap, ◌∙◌}
use mathlib.Core.Logic.{◌⊎◌, inl, inr}
use mathlib.Core.List.{[], map}
use mathlib.Core.Bool.{Bool, true, false, cond, not, ◌&&◌}
use mathlib.Core.Option.{Option, none, some}
use Prim.Native.Nat.{ℕ, suc, ◌-◌, ◌<◌}
use native.Mathlib.Omega.{arith}
use lib.Dec.{leb, ltb}
use lib.ListN.{length, take}
use borrow.Author.Tests.{leb-true, leb-false, ltb-true, ltb-false, not-true}
use Rattle.octets.specs.Octets.{Bytes, ascii}
use Rattle.protocol.specs.declared.Kind.{Kind}
use Rattle.protocol.specs.declared.Kind.TheVariants.{Text}
use Rattle.protocol.specs.declared.Refusal.TheVariants.{Unknown, Parameter, Room}
use Rattle.protocol.specs.Terms.{invalid, whole}
use Rattle.protocol.specs.Terms as Terms
use Rattle.framing.specs.Framing.{kind_of, line_end, longest_line}
use Rattle.words.specs.Words.{Entry, words, Gives}
use Rattle.words.proofs.Rule.{every, every_in}
use Rattle.text.specs.Fields.{trim, word, after_word}
use Rattle.text.specs.Payload.{payload_for}
use Rattle.text.specs.Line.{blank, payload_of, of_payload, of_id, begun, line_of, Worded}
use Rattle.text.proofs.LineRule.{line_gives, blank-or-worded}
use Rattle.message.specs.Rows.{Row, command_rows}
use Rattle.command.specs.Refusals as Refusals
use Rattle.wire.specs.Received.{reading_line, received}
use Rattle.wire.specs.Verdict.{refusal_of}
use Rattle.wire.proofs.Refusals.{reading-verdict}
use Rattle.wire.proofs.Lines.{received_more, received-line, over-long}

-- ---- the writer's words

-- the ASCII capital of a small letter; every other byte stays
abbrev upper : ℕ → ℕ
upper c = cond (leb 97 c && leb c 122) (c - 32) c

abbrev in_capitals : Entry → ℕ × Bytes
in_capitals e = (e.id, map upper e.word)

abbrev written : Row → ℕ × Bytes
written r = (r.id, r.word)

-- the eight words that the reader knows, in capitals and with their IDs, are those that the writer of commands writes
pub words-agree : map in_capitals words ≡ map written command_rows
unfolding ascii
words-agree = refl

-- ---- a known word is never refused with 100

abbrev is_known : Entry → Bool
is_known e = not (Refusals.is_unknown e.id)

-- no row has an unknown ID
words-known : every is_known words ≡ true
unfolding Refusals.is_unknown
words-known = refl

gives-known : (w : Bytes) (i : ℕ) → Gives w (some i) → Refusals.is_unknown i ≡ false
gives-known w i (e, m, n, q) = rw (← q) (not-true _ (every_in is_known words e words-known m))

known-other : (i : ℕ) (o : Option Bytes) → Refusals.is_unknown i ≡ false
    → reading_line (of_payload i o) ≡ invalid Unknown → ⊥
unfolding Refusals.verdict
known-other i none h e = let z : ◌≡◌ {A = ℕ} 0 1 = cc in omega arith
known-other i (some p) h e =
    by (Refusals.is_bad i p) (Refusals.is_long i p) (rw h at (sym (reading-verdict i p) ∙ ap refusal_of e))
  where
    by : (b c : Bool) → cond b (some Parameter) (cond c (some Room) none) ≡ some Unknown → ⊥
    by true c e = let z : ◌≡◌ {A = ℕ} 0 1 = cc in omega arith
    by false true e = let z : ◌≡◌ {A = ℕ} 0 1 = cc in omega arith
    by false false e = let z : ◌≡◌ {A = ℕ} 0 1 = cc in omega arith

-- ---- the lines of a text client

-- a line that is refused with 100 has an unknown word
unknown-line : (s : Bytes) → reading_line (line_of s) ≡ invalid Unknown → Worded s none
unknown-line s h = by (blank-or-worded s)
  where
    by : ((trim s ≡ []) × (line_of s ≡ blank)) ⊎ ((o : Option ℕ) × Worded s o) → Worded s none
    by (inl (e, b)) = let z : ◌≡◌ {A = ℕ} 0 1 = cc (ap reading_line b, h) in absurd (omega arith)
    by (inr (none, w)) = w
    by (inr (some i, w)) =
        absurd (known-other i (payload_of (payload_for i) (after_word (trim s)))
        (gives-known (word (trim s)) i w.gives) (sym (ap reading_line (line_gives s (some i) w)) ∙ h))

module _ (k : Kind) (s : Bytes) (text : kind_of k s ≡ Text) where
  -- the line that the input begins with
  abbrev line : Bytes
  line = take (line_end s) s

  module _ (end : line_end s < length s) (within : line_end s < longest_line) where
    -- a blank one is consumed and means nothing
    pub received-blank : trim line ≡ [] → received k s ≡ whole (suc (line_end s)) Text Terms.blank
    unfolding line_of begun
    received-blank t = received-line k s text end within ∙ rw t

    -- any other is consumed and read by what its word gives
    pub received-gives : (o : Option ℕ) → Worded line o
        → received k s ≡ whole (suc (line_end s)) Text (reading_line (of_id o (after_word (trim line))))
    received-gives o w = received-line k s text end within ∙ rw (line_gives line o w)

    -- an unknown word is refused with 100
    pub received-unknown : Worded line none → received k s ≡ whole (suc (line_end s)) Text (invalid Unknown)
    received-unknown w = received-gives none w

  -- and what is refused with 100 is a line with an unknown word
  pub unknown-received : (n : ℕ) (l : Kind) → received k s ≡ whole n l (invalid Unknown) → Worded line none
  unknown-received n l h = by (leb longest_line (line_end s)) (ltb (line_end s) (length s)) refl refl
    where
      by : (a b : Bool) → leb longest_line (line_end s) ≡ a → ltb (line_end s) (length s) ≡ b → Worded line none
      by true b p q =
          let e = over-long k s text (leb-true longest_line (line_end s) p) in
          let z : ◌≡◌ {A = ℕ} 0 1 = cc (e, h) in absurd (omega arith)
      by false false p q =
          let e = received_more k s text (ltb-false (line_end s) (length s) q) (leb-false longest_line (line_end s) p) in
          let z : ◌≡◌ {A = ℕ} 0 1 = cc (e, h) in absurd (omega arith)
      by false true p q =
          let e = received-line k s text (ltb-true (line_end s) (length s) q) (leb-false longest_line (line_end s) p) in
          let r : reading_line (line_of line) ≡ invalid Unknown = cc (e, h) in unknown-line line r
