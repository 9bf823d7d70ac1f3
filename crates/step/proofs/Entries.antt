-- Entries of a memory's store by the offsets of their rows, and the messages made of their bodies.
use mathlib.Core.Path.{◌≡◌, refl, sym, ap, ◌∙◌}
use mathlib.Core.List.{◌∷◌, ◌++◌, append-nil}
use mathlib.Core.Bool.{true}
use mathlib.Core.Option.{Option, some, none}
use Prim.Native.Nat.{ℕ, ◌+◌, ◌≤◌, ◌<◌}
use native.Mathlib.Omega.{arith}
use lib.ListN.{length, length-append}
use lib.Seq.{sets}
use Rattle.octets.specs.Octets.{Bytes}
use Rattle.octets.proofs.Parts.{length_part, part-sets-same}
use Rattle.protocol.specs.Terms.{info, value_tail, message_payload}
use Rattle.message.specs.declared.Message.TheVariants.{Info}
use Rattle.message.specs.Forms.{encoded, written}
use Rattle.message.specs.Writing.{said}
use Rattle.message.proofs.FormLaws.{payload-info}
use Rattle.model.specs.Store.{Entry, Store, lookup, store_charge}
use Rattle.queue.specs.Meaning.{owing}
use Rattle.store.specs.Row.{row_size, body_length, body_of, row_fine}
use Rattle.store.specs.Region.{count_of, store_of}
use Rattle.store.specs.Operation.{charge, body, Found}
use Rattle.store.proofs.RowLaws.{sound}
use Rattle.store.proofs.Rows.{row-size}
use Rattle.store.proofs.Region.{length-store_of, remains-row, remains-behind}
use Rattle.store.proofs.Change.{found-row, found_none}
use Rattle.store.proofs.Laws.{row_first}
use Rattle.model.specs.State.{with_queue}
use Rattle.slot.specs.Image.{ClientImage, owed}
use Rattle.memory.specs.Layout.{sizes_of, store_part}
use Rattle.memory.specs.Image.{image_of}
use Rattle.memory.specs.Rules.{Sound}
use Rattle.memory.proofs.SizeLaws.{ranges}
use Rattle.step.specs.TurnParts.{row_from, entry_key, entry_body, Copied}

-- ---- bodies

module _ (s : Bytes) (f : row_fine s ≡ true) where
  length-body_of : length (body_of s) ≡ body_length s
  unfolding body_of
  length-body_of = length_part s 7 (body_length s) (sound s f).whole

  pub body-short : length (body_of s) ≤ 65535
  body-short = rw length-body_of (sound s f).short

  -- a row is its body and a head of seven bytes
  pub row-body : row_size s ≡ 7 + length (body_of s)
  row-body = ap (λ (n : ℕ). 7 + n) (sym length-body_of)

-- bytes that are copied to a buffer with room for them stand at its front
pub copied : {bs b : Bytes} (buf : Bytes) {buf' : Bytes} → length bs ≤ length buf → b ≡ bs → buf' ≡ sets buf 0 b
    → Copied bs (length b) buf'
copied {bs} {b} buf {buf'} l e c =
    record {
      count = ap length e;
      front = rw c (part-sets-same buf 0 b (omega (arith, ap length e)) ∙ e);
    }

-- A body is split at its first NUL where an INFO is made of it, but what is owed is the body, whatever the key holds.
pub owed-info : (Q : ℕ) (k : Bytes) (v : Option Bytes) (c : ClientImage)
    → owed Q (said Info (k ++ value_tail v)) c ≡ owed Q (info k v) c
unfolding owed written said message_payload
owed-info Q k v c =
    ap (λ (p : Bytes). with_queue (owing Q (encoded c.kind 129 p) c.queue) c) (payload-info (k ++ value_tail v))

-- ---- an entry of the store

-- the row at an offset is that of the entry e
pub record EntryOf (m : Bytes) (at : ℕ) (e : Entry) : Type 0 where
  pub row : row_fine (row_from m at) ≡ true
  pub key : entry_key m at ≡ e.key
  pub bytes : entry_body m at ≡ e.key ++ value_tail (some e.value)
  pub size : row_size (row_from m at) ≡ 8 + length e.key + length e.value
  pub small : at + row_size (row_from m at) ≤ 1048576

-- the entry behind es in the store
pub entry_of : {m : Bytes} (es : Store) (e : Entry) (fs : Store) → Sound m → (image_of m).store ≡ es ++ (e ∷ fs)
    → EntryOf m (store_charge es) e
unfolding image_of body value_tail
entry_of {m} es e fs h w =
    let r = remains-behind es (e ∷ fs) h.store w in
    let o = row_first r in
    let q = remains-row r in
    let z = sizes_of m in
    let s = (ranges z h.headed.ranged).store in
    let n = length_part m 20 (8 + z.store_room) (omega (arith, h.headed.long)) in
    record {
      row = o.fine;
      key = o.key;
      bytes = o.bytes;
      size = row-size q.0;
      small = omega (arith, q.1, r.long);
    }

-- the number of rows is the number of entries
pub count_entries : {m : Bytes} {n : ℕ} → Sound m → n ≡ count_of (store_part (sizes_of m) m)
    → n ≡ length (image_of m).store
unfolding image_of
count_entries {m} h e = e ∙ sym (length-store_of (store_part (sizes_of m) m) h.store)

-- ---- a key that was looked for

-- what a key with a value charges is its body and a head of seven bytes
charge-body : (k : Bytes) (o : Option Bytes) → 0 < charge k o → charge k o ≡ 7 + length (body k o)
unfolding charge body
charge-body k none h = absurd (omega arith)
charge-body k (some v) h = rw length-append (omega arith)

body-tail : (k : Bytes) (o : Option Bytes) → 0 < charge k o → body k o ≡ k ++ value_tail o
unfolding charge body value_tail
body-tail k none h = absurd (omega arith)
body-tail k (some v) h = refl

module _ {m k : Bytes} {at len : ℕ} (h : Sound m) (d : Found (store_part (sizes_of m) m) k at len) where
  pub found-entry : 0 < len → row_fine (row_from m at) ≡ true
  found-entry l = (found-row h.store d l).0

  -- its row is the body and a head of seven bytes
  pub found-size : 0 < len → len ≡ 7 + length (entry_body m at)
  found-size l =
      d.size ∙ charge-body k (lookup k (store_of (store_part (sizes_of m) m))) (omega (arith, d.size))
      ∙ ap (λ (b : Bytes). 7 + length b) (sym (found-row h.store d l).1)

  -- the body of the key's entry, and of an absent key
  pub found-body : 0 < len → entry_body m at ≡ k ++ value_tail (lookup k (image_of m).store)
  unfolding image_of
  found-body l =
      (found-row h.store d l).1
      ∙ body-tail k (lookup k (store_of (store_part (sizes_of m) m))) (omega (arith, d.size))

  pub absent-body : len ≡ 0 → k ≡ k ++ value_tail (lookup k (image_of m).store)
  unfolding image_of value_tail
  absent-body e = rw (found_none d e) (sym (append-nil k))
