-- A line by its word and its payload.
use mathlib.Core.Path.{◌≡◌, refl, ◌∙◌}
use mathlib.Core.List.{List, []}
use mathlib.Core.Bool.{false}
use mathlib.Core.Option.{Option, none, some}
use Prim.Native.Nat.{ℕ, zero, suc, ◌-◌, ◌≤◌, ◌<◌}
use native.Mathlib.Omega.{arith}
use lib.ListN.{length, drop, take}
use lib.Seq.{drop-cons}
use borrow.Author.Tests.{ne_eqb}
use Rattle.std.proofs.Common.{None, Some, Ok, Err}
use Rattle.std.specs.Option.{option_map}
use Rattle.octets.specs.Octets.{Bytes}
use Rattle.octets.specs.Options.{in_code}
use Rattle.protocol.specs.declared.Refusal.TheVariants.{Unknown, Parameter}
use Rattle.protocol.specs.declared.command_id.CommandId.{CommandId}
use Rattle.protocol.specs.Ids as Ids
use Rattle.words.specs.Words.{id_of}
use Rattle.text.specs.Fields.{trim, word, after_word, Field, fields, Next, next}
use Rattle.text.specs.Payload.{one_payload, no_payload, payload_for}
use Rattle.text.specs.Line.{made, payload_of, of_id, begun, line_of}
use Rattle.text.specs.PayloadPost.{BuildsAs, Fails, has_field, stores}
use Rattle.text.specs.FieldPost.{Skipped, Spelled}
use Rattle.text.specs.LinePost.{stores_for, stores_line, Translates}

-- ---- payloads by ID

-- SUB, UNSUB and READ
pub payload_for-one : (id : ℕ) (fs : List Field) → (id ≡ 0 → ⊥) → id < 4 → payload_for id fs ≡ one_payload fs
unfolding payload_for
payload_for-one zero fs h l = absurd (h refl)
payload_for-one (suc zero) fs h l = refl
payload_for-one (suc (suc zero)) fs h l = refl
payload_for-one (suc (suc (suc zero))) fs h l = refl
payload_for-one (suc (suc (suc (suc id)))) fs h l = absurd (omega arith)

-- BEGIN and COMMIT
pub payload_for-none : (id : ℕ) (fs : List Field) → 4 ≤ id → (id ≡ 4 → ⊥) → id < 7 → payload_for id fs ≡ no_payload fs
unfolding payload_for
payload_for-none zero fs h n l = absurd (omega arith)
payload_for-none (suc zero) fs h n l = absurd (omega arith)
payload_for-none (suc (suc zero)) fs h n l = absurd (omega arith)
payload_for-none (suc (suc (suc zero))) fs h n l = absurd (omega arith)
payload_for-none (suc (suc (suc (suc zero)))) fs h n l = absurd (n refl)
payload_for-none (suc (suc (suc (suc (suc zero))))) fs h n l = refl
payload_for-none (suc (suc (suc (suc (suc (suc zero)))))) fs h n l = refl
payload_for-none (suc (suc (suc (suc (suc (suc (suc id))))))) fs h n l = absurd (omega arith)

-- IDs that no command has
pub payload_for-other : (id : ℕ) (fs : List Field) → 7 ≤ id → (id ≡ 7 → ⊥) → payload_for id fs ≡ none
unfolding payload_for
payload_for-other id fs h n =
    simp (
      ne_eqb id 0 (λ e. omega arith),
      ne_eqb id 1 (λ e. omega arith),
      ne_eqb id 2 (λ e. omega arith),
      ne_eqb id 3 (λ e. omega arith),
      ne_eqb id 4 (λ e. omega arith),
      ne_eqb id 5 (λ e. omega arith),
      ne_eqb id 6 (λ e. omega arith),
      ne_eqb id 7 n,
    )

-- ---- whether a byte can have been stored, by ID

-- SUB, UNSUB, READ, WRITE and PING
pub stores-field : (id : ℕ) (x : Next) → (id ≡ 0 → ⊥) → (id ≡ 5 → ⊥) → (id ≡ 6 → ⊥) → stores id x ≡ has_field x
unfolding stores
stores-field id x h k l = simp (ne_eqb id 0 h, ne_eqb id 5 k, ne_eqb id 6 l)

-- BEGIN and COMMIT
pub stores-none : (id : ℕ) (x : Next) → 4 ≤ id → (id ≡ 4 → ⊥) → id < 7 → stores id x ≡ false
unfolding stores
stores-none zero x h n l = absurd (omega arith)
stores-none (suc zero) x h n l = absurd (omega arith)
stores-none (suc (suc zero)) x h n l = absurd (omega arith)
stores-none (suc (suc (suc zero))) x h n l = absurd (omega arith)
stores-none (suc (suc (suc (suc zero)))) x h n l = absurd (n refl)
stores-none (suc (suc (suc (suc (suc zero))))) x h n l = refl
stores-none (suc (suc (suc (suc (suc (suc zero)))))) x h n l = refl
stores-none (suc (suc (suc (suc (suc (suc (suc id))))))) x h n l = absurd (omega arith)

-- two rules that agree on every list of fields
pub payload_of-same : (f g : List Field → Option Bytes) → ((fs : List Field) → f fs ≡ g fs) → (s : Bytes)
    → payload_of f s ≡ payload_of g s
unfolding payload_of
payload_of-same f g h s = by (fields 2 s)
  where
    by : (o : Option (List Field)) → made f o ≡ made g o
    by none = refl
    by (some fs) = h fs

-- ---- the line

-- what the look-up of a word gives

pub id-none : (o : Option ℕ) → option_map Ids.id_of None ≡ in_code o → o ≡ none
id-none none e = refl
id-none (some n) e = let z : ◌≡◌ {A = ℕ} 0 1 = cc in absurd (omega arith)

pub id_some : (o : Option ℕ) (c : CommandId) → option_map Ids.id_of (Some c) ≡ in_code o → o ≡ some (Ids.id_of c)
id_some none c e = let z : ◌≡◌ {A = ℕ} 0 1 = cc in absurd (omega arith)
id_some (some n) c e = cc

pub begun-at : (line : Bytes) (i : ℕ) → i < length line
    → begun (drop i line) ≡ of_id (id_of (word (drop i line))) (after_word (drop i line))
unfolding begun
begun-at line i h = rw (drop-cons line i 0 h)

begun-spelled : {line : Bytes} {i e : ℕ} (k : Skipped line 0 i) (w : Spelled line i e)
    → begun (drop i line) ≡ of_id (id_of (take (e - i) (drop i line))) (drop e line)
begun-spelled {line} {i} k w = begun-at line i k.within ∙ rw (w.is, w.rest)

module _ (line buf : Bytes) where
  pub translates-blank : trim line ≡ [] → Translates (line_of line) (stores_line line) buf (Ok None) buf
  unfolding line_of begun
  translates-blank e = rw e (record { answer = refl; held = refl })

  module _ {i e : ℕ} (k : Skipped line 0 i) (w : Spelled line i e) where
    line_word : line_of line ≡ of_id (id_of (take (e - i) (drop i line))) (drop e line)
    unfolding line_of
    line_word = rw k.is (begun-spelled k w)

    stores-word : stores_line line ≡ stores_for (id_of (take (e - i) (drop i line))) (drop e line)
    unfolding stores_line
    stores-word = rw (k.is, w.is, w.rest)

    pub translates-unknown : option_map Ids.id_of None ≡ in_code (id_of (take (e - i) (drop i line)))
        → Translates (line_of line) (stores_line line) buf (Err Unknown) buf
    translates-unknown f = rw (line_word, stores-word, id-none (id_of (take (e - i) (drop i line))) f)
        (record { answer = refl; held = record { size = refl; same = λ q. refl } })

    module _ (id : CommandId) (f : option_map Ids.id_of (Some id) ≡ in_code (id_of (take (e - i) (drop i line))))
        (buf' : Bytes) where
      given : id_of (take (e - i) (drop i line)) ≡ some (Ids.id_of id)
      given = id_some (id_of (take (e - i) (drop i line))) id f

      pub stores-known : stores_line line ≡ stores (Ids.id_of id) (next (drop e line))
      stores-known = rw (stores-word, given)

      pub translates-message : (n most : ℕ)
          → BuildsAs (payload_of (payload_for (Ids.id_of id)) (drop e line)) most buf 0 n buf'
          → Translates (line_of line) (stores_line line) buf (Ok (Some (record { id = id; len = n }))) buf'
      translates-message n most b = rw (line_word, stores-word, given, b.is)
          (record { answer = record { value = b.value; is = refl; count = b.count }; held = b.held })

      pub translates-refused : length buf' ≡ length buf
          → Fails (payload_of (payload_for (Ids.id_of id)) (drop e line))
          (stores (Ids.id_of id) (next (drop e line))) buf buf'
          → Translates (line_of line) (stores_line line) buf (Err Parameter) buf'
      translates-refused l b = rw (line_word, stores-word, given, b.is)
          (record { answer = refl; held = record { size = l; same = b.same } })
