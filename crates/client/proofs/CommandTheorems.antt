-- What the client writes the server reads as the same command, in every form and whatever follows it
-- (`command-received`, `text-command-received`). A command is written exactly when the server's reader does not refuse
-- it (`refused-first`, `unrefused-written`), and then stands in the slice (`command-written`). The lemmas are over
-- every row of the commands.
use mathlib.Core.Path.{◌≡◌, refl, sym, ap, subst, ◌∙◌}
use mathlib.Core.List.{[], ◌∷◌, ◌++◌, append_assoc, append-nil}
use mathlib.Core.Bool.{Bool, true, false, cond, ◌||◌}
use mathlib.Core.Option.{Option, some, none}
use Prim.Native.Nat.{ℕ, suc, ◌+◌, ◌-◌, ◌/◌, ◌%◌, ◌≤◌, ◌<◌}
use native.Mathlib.Omega.{arith}
use lib.Dec.{eqb, leb}
use lib.ListN.{length, take, drop, get_or, length-append}
use lib.Seq.{take-append_seam, take-length, get_or_at}
use borrow.Author.Tests.{le-leb, lt-leb, lt-ltb, leb-true}
use Rattle.octets.specs.Octets.{Bytes}
use Rattle.protocol.specs.declared.Kind.{Kind}
use Rattle.protocol.specs.declared.Kind.TheVariants.{Packets, Stream, Framed, Text}
use Rattle.protocol.specs.declared.Refusal.{Refusal}
use Rattle.protocol.specs.declared.Refusal.TheVariants.{Unknown, Parameter, Room, State}
use Rattle.protocol.specs.Terms.{number, whole}
use Rattle.framing.specs.Framing.{starts_text, kind_of, ends_line, line_end, line_length, length_of, message_length}
use Rattle.text.specs.Fields.{word, after_word, trim}
use Rattle.words.specs.Words.{id_of}
use Rattle.text.specs.Line.{message, payload_of, begun, line_of, of_id}
use Rattle.command.specs.Meaning.{reading_of}
use Rattle.command.specs.Refusals.{verdict}
use Rattle.message.specs.Quoting.{has}
use Rattle.message.specs.Rows.{Row, command_rows, row_of}
use Rattle.message.specs.Forms.{fields, line, frame, form, encoded}
use Rattle.message.specs.Writing.{Outcome, outcome}
use Rattle.message.proofs.Theorems.{out-done, encoded-packets, encoded-framed, length-encoded-most}
use Rattle.wire.specs.Received.{binary, text_line, decoded_in, received, is_whole}
use Rattle.server_text.specs.Fields.{suits}
use Rattle.server_text.specs.Lines.{row_with}
use Rattle.server_text.proofs.FieldLaws.{word-before}
use Rattle.server_text.proofs.LineTheorems.{fields-spaced}
use Rattle.server_text.proofs.RowLaws.{row-id, word-filled, word-spaceless, body, body-lfless, body-crless}
use Rattle.client.specs.Writing.{outcome_of, by_verdict, write_in}
use Rattle.client.proofs.WriteLaws.{taken}
use Rattle.client.proofs.ReceivedTheorems.{Follows, encoded-stream, frame_length-frame}
use Rattle.client.proofs.CommandRows.{text-fields, sent-listed, sent-named, sent-visible}
use Rattle.client.proofs.CommandRows.{sent-capital, sent-ended, sent-framed, sent-pays, sent-fits, sent-row}

-- ---- a line

line_end-line : (l t : Bytes) → has 10 l ≡ false → has 13 l ≡ false → line_end (l ++ 10 ∷ t) ≡ length l
unfolding line_end ends_line has
line_end-line [] t h k = refl
line_end-line (c ∷ l) t h k = by (eqb c 10) (eqb c 13) h k (line_end-line l t)
  where
    by : (x y : Bool) → (x || has 10 l) ≡ false → (y || has 13 l) ≡ false
        → (has 10 l ≡ false → has 13 l ≡ false → line_end (l ++ 10 ∷ t) ≡ length l)
        → cond (x || y) 0 (line_end (l ++ 10 ∷ t) + 1) ≡ suc (length l)
    by true y h k f = let z : ◌≡◌ {A = ℕ} 0 1 = cc in absurd (omega arith)
    by false true h k f = let z : ◌≡◌ {A = ℕ} 0 1 = cc in absurd (omega arith)
    by false false h k f = omega (arith, f h k)

line_length-line : (l t : Bytes) → has 10 l ≡ false → has 13 l ≡ false → length l < 262152
    → line_length (l ++ 10 ∷ t) ≡ length l + 1
unfolding line_length
line_length-line l t h k m =
    let e = line_end-line l t h k in
    let g : length l < length (l ++ 10 ∷ t) = rw length-append (omega arith) in
    rw (e, lt-leb 262152 (length l) m, lt-ltb _ _ g)

text_line-line : (l : Bytes) → text_line (l ++ (10 ∷ [])) ≡ line_of l
unfolding text_line ends_line
text_line-line l =
    let n : length (l ++ (10 ∷ [])) - 1 ≡ length l = rw length-append (omega arith) in
    rw (n, get_or_at l 10 [] 0 (length l) refl, take-append_seam l (10 ∷ []))

-- a line that begins with a word has no space before it, and is not blank
word-begins : (w f : Bytes) → 0 < length w → eqb (get_or w 0 0) 32 ≡ false
    → line_of (w ++ f) ≡ of_id (id_of (word (w ++ f))) (after_word (w ++ f))
unfolding line_of trim begun
word-begins [] f h e = absurd (omega arith)
word-begins (c ∷ w) f h e = rw e

-- a stream that begins with a word is text
word-text : (w f : Bytes) → 0 < length w → starts_text (get_or w 0 0) ≡ true → kind_of Stream (w ++ f) ≡ Text
unfolding kind_of
word-text [] f h e = absurd (omega arith)
word-text (c ∷ w) f h e = rw e

-- the line of a command is read as its ID and its payload
line-decoded : (i : ℕ) (r : Row) → row_with i command_rows ≡ some r → (p : Bytes) → suits r.shape p ≡ true
    → get_or p 0 0 < 256 → line_of (body r p) ≡ message i p
unfolding payload_of
line-decoded i r e p h b =
    let l = sent-listed i r e in
    let f = fields r.shape p in
    let w = word-before r.word f (word-spaceless i r l) (fields-spaced r.shape p) in
    rw (
      word-begins r.word f (word-filled i r l) (sent-visible i r e),
      w.0,
      w.1,
      sent-named i r e,
      text-fields r.shape p h,
      sent-pays i r e p h b,
    )

-- ---- received

received-by : (k : Kind) (s : Bytes) (n : ℕ) (l : Kind) (id : ℕ) (p : Bytes) → message_length k s ≡ n
    → is_whole k n ≡ true → kind_of k s ≡ l → decoded_in (kind_of k (take n s)) (take n s) ≡ message id p
    → received k s ≡ whole n l (reading_of id p)
unfolding received
received-by k s n l id p e w f g = rw (e, w, f, g)

-- the kind that a client has from its message on: a stream that begins with a frame is framed
abbrev pub fixed : Kind → Kind
fixed Packets = Packets
fixed Stream = Framed
fixed Framed = Framed
fixed Text = Text

module _ (id : ℕ) (p : Bytes) (v : verdict id p ≡ none) (b : get_or p 0 0 < 256) where
  abbrev own : Row
  own = row_of id

  found : row_with id command_rows ≡ some own
  found = sent-row id (taken id p v).known

  fit : suits own.shape p ≡ true
  fit = sent-fits id own found p (taken id p v).good

  -- the line before its LF
  abbrev before_lf : Bytes
  before_lf = body own p

  encoded-text : encoded Text id p ≡ before_lf ++ (10 ∷ [])
  unfolding encoded form line
  encoded-text = rw (row-id id own (sent-listed id own found), sent-ended id own found)

  length-text : length (encoded Text id p) ≡ length before_lf + 1
  length-text = ap length encoded-text ∙ length-append before_lf (10 ∷ [])

  length-received : (t : Bytes) → line_length (encoded Text id p ++ t) ≡ length (encoded Text id p)
  length-received t =
      let l = sent-listed id own found in
      let m = length-encoded-most Text id p (taken id p v).short in
      let a : (before_lf ++ (10 ∷ [])) ++ t ≡ before_lf ++ 10 ∷ t = append_assoc before_lf (10 ∷ []) t in
      let g : length before_lf < 262152 = omega (arith, length-text) in
      ap line_length (ap (λ (x : Bytes). x ++ t) encoded-text ∙ a)
      ∙ line_length-line before_lf t (body-lfless id own l p) (body-crless id own l p) g ∙ sym length-text

  text-decoded : text_line (encoded Text id p) ≡ message id p
  text-decoded = ap text_line encoded-text ∙ text_line-line before_lf ∙ line-decoded id own found p fit b

  packet-received : received Packets (id ∷ p) ≡ whole (length (id ∷ p)) Packets (reading_of id p)
  unfolding kind_of length_of decoded_in binary
  packet-received =
      received-by Packets (id ∷ p) (length (id ∷ p)) Packets id p refl refl refl
      (ap (binary 0) (take-length (id ∷ p)))

  frame-received : (t : Bytes)
      → received Framed (frame id p ++ t) ≡ whole (length (frame id p)) Framed (reading_of id p)
  unfolding kind_of length_of decoded_in binary
  frame-received t =
      received-by Framed (frame id p ++ t) (length (frame id p)) Framed id p (frame_length-frame id p t)
      (lt-ltb 0 (length (frame id p)) (omega arith)) refl (ap (binary 2) (take-append_seam (frame id p) t))

  -- the ID of a command begins no text
  kind-frame : (t : Bytes) → kind_of Stream (id ∷ t) ≡ Framed
  unfolding kind_of
  kind-frame t = rw (sent-framed id own found)

  stream-received : (t : Bytes)
      → received Stream (frame id p ++ t) ≡ whole (length (frame id p)) Framed (reading_of id p)
  unfolding length_of decoded_in binary
  stream-received t =
      let k = kind-frame ((length p / 256) ∷ (length p % 256) ∷ (p ++ t)) in
      let l : message_length Stream (frame id p ++ t) ≡ length (frame id p) = rw k (frame_length-frame id p t) in
      let c : take (length (frame id p)) (frame id p ++ t) ≡ frame id p = take-append_seam (frame id p) t in
      let j = kind-frame ((length p / 256) ∷ (length p % 256) ∷ p) in
      received-by Stream (frame id p ++ t) (length (frame id p)) Framed id p l
      (lt-ltb 0 (length (frame id p)) (omega arith)) k (rw (c, j))

  text-received : (t : Bytes)
      → received Text (encoded Text id p ++ t) ≡ whole (length (encoded Text id p)) Text (reading_of id p)
  unfolding kind_of length_of decoded_in
  text-received t =
      let e = encoded Text id p in
      let c : take (length e) (e ++ t) ≡ e = take-append_seam e t in
      received-by Text (e ++ t) (length e) Text id p (length-received t)
      (lt-ltb 0 (length e) (omega (arith, length-text))) refl (ap text_line c ∙ text-decoded)

  -- every command that the server does not refuse, in every form, is read by the server as that command, whatever
  -- follows it
  pub command-received : (k : Kind) (t : Bytes) → Follows k t
      → received k (encoded k id p ++ t) ≡ whole (length (encoded k id p)) (fixed k) (reading_of id p)
  command-received Packets t f = rw (f, append-nil (encoded Packets id p), encoded-packets id p) packet-received
  command-received Stream t f = rw (encoded-stream id p) (stream-received t)
  command-received Framed t f = rw (encoded-framed id p) (frame-received t)
  command-received Text t f = text-received t

  kind-text : (t : Bytes) → kind_of Stream (encoded Text id p ++ t) ≡ Text
  kind-text t =
      let l = sent-listed id own found in
      let a : (own.word ++ fields own.shape p ++ (10 ∷ [])) ++ t
      ≡ own.word ++ (fields own.shape p ++ (10 ∷ []) ++ t) =
      ap (λ (x : Bytes). x ++ t) (append_assoc own.word (fields own.shape p) (10 ∷ []))
      ∙ append_assoc own.word (fields own.shape p ++ (10 ∷ [])) t in
      ap (λ (x : Bytes). kind_of Stream (x ++ t)) encoded-text ∙ ap (kind_of Stream) a
      ∙ word-text own.word (fields own.shape p ++ (10 ∷ []) ++ t) (word-filled id own l)
      (sent-capital id own found)

  -- a stream whose kind is open takes the command as text, too
  pub text-command-received : (t : Bytes)
      → received Stream (encoded Text id p ++ t) ≡ whole (length (encoded Text id p)) Text (reading_of id p)
  unfolding length_of decoded_in
  text-command-received t =
      let e = encoded Text id p in
      let k = kind-text t in
      let l : message_length Stream (e ++ t) ≡ length e = rw k (length-received t) in
      let c : take (length e) (e ++ t) ≡ e = take-append_seam e t in
      let j : kind_of Stream e ≡ Text = rw (append-nil e) at (kind-text []) in
      received-by Stream (e ++ t) (length e) Text id p l (lt-ltb 0 (length e) (omega (arith, length-text))) k
      (rw (c, j) text-decoded)

-- ---- the writer's answer

-- what the server's reader of commands refuses is refused with its number, whatever the slice: before 5
pub refused-first : (k : Kind) (id : ℕ) (p o : Bytes) (r : Refusal) → verdict id p ≡ some r
    → write_in k (id ∷ p) o ≡ outcome_of (number r) 0 o
unfolding write_in
refused-first k id p o r e = rw e

-- what it does not refuse is written, in a slice with room for it
pub unrefused-written : (k : Kind) (id : ℕ) (p o : Bytes) → verdict id p ≡ none
    → length (encoded k id p) ≤ length o → (write_in k (id ∷ p) o).number ≡ 0
unfolding write_in outcome
unrefused-written k id p o e h = rw (e, le-leb _ _ (taken id p e).short, le-leb _ _ h)

-- a writer that answers 0 has written: the length that it gives is that of the bytes, which stand at the front of the
-- slice
pub record Wrote (p e : Bytes) (x : Outcome) (o : Bytes) : Type 0 where
  pub short : length p ≤ 65535
  pub count : x.count ≡ length e
  pub out : x.out ≡ e ++ drop (length e) o

pub outcome-zero : (p e o : Bytes) → (outcome p e o).number ≡ 0 → Wrote p e (outcome p e o) o
unfolding outcome
outcome-zero p e o h = by (leb (length p) 65535) (leb (length e) (length o)) refl refl h
  where
    by : (a b : Bool) → leb (length p) 65535 ≡ a → leb (length e) (length o) ≡ b → (outcome p e o).number ≡ 0
        → Wrote p e (outcome p e o) o
    by true true f g h =
        let k = leb-true (length p) 65535 f in
        let l = leb-true (length e) (length o) g in
        record { short = k; count = rw (f, g); out = out-done p e o k l }
    by true false f g h = let z : ◌≡◌ {A = ℕ} 5 0 = rw (f, g) at h in absurd (omega arith)
    by false b f g h = let z : ◌≡◌ {A = ℕ} 102 0 = rw f at h in absurd (omega arith)

-- a writer of commands that answers 0 has a command that the server's reader does not refuse, and has written it
pub record CommandWritten (k : Kind) (id : ℕ) (p o : Bytes) : Type 0 where
  pub unrefused : verdict id p ≡ none
  pub wrote : Wrote p (encoded k id p) (write_in k (id ∷ p) o) o

pub command-written : (k : Kind) (id : ℕ) (p o : Bytes) → (write_in k (id ∷ p) o).number ≡ 0 → CommandWritten k id p o
unfolding write_in
command-written k id p o h = by (verdict id p) refl h
  where
    by : (x : Option Refusal) → verdict id p ≡ x → (by_verdict x k id p o).number ≡ 0 → CommandWritten k id p o
    by (some Unknown) f h = absurd (omega arith)
    by (some Parameter) f h = absurd (omega arith)
    by (some Room) f h = absurd (omega arith)
    by (some State) f h = absurd (omega arith)
    by none f h =
        let e : outcome p (encoded k id p) o ≡ write_in k (id ∷ p) o = rw f in
        record {
          unrefused = f;
          wrote = subst (λ (x : Outcome). Wrote p (encoded k id p) x o) e (outcome-zero p (encoded k id p) o h);
        }
