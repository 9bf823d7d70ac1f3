-- The look-up's loop: one turn of it, one row, and what it gives in the end.
use mathlib.Core.Path.{◌≡◌, refl, sym, ap, ◌∙◌}
use mathlib.Core.List.{[]}
use mathlib.Core.Bool.{true, false, not, cond}
use mathlib.Core.Option.{Option, some, none}
use Prim.Native.Nat.{ℕ, zero, suc, ◌+◌, ◌-◌, ◌≤◌, ◌<◌}
use native.Mathlib.Nat.{sub-zero}
use native.Mathlib.Omega.{arith}
use lib.ListN.{length, take, drop, length-drop}
use lib.Seq.{drop-drop}
use borrow.Author.Tests.{ne_eqb}
use denote.Bor.{Bor}
use Rattle.std.specs.Prelude as Code
use Rattle.std.specs.Option.{option_or, option_copied, unwrap_or}
use Rattle.octets.specs.Octets.{Bytes, first_nul}
use Rattle.octets.specs.Options.{in_code}
use Rattle.octets.specs.Order.{same}
use Rattle.protocol.specs.Terms.{Action, hello, sub, unsub, read, write, ping, action_id, payload}
use denote.Enum.Bare.{sameb}
use Rattle.protocol.specs.Ids.{id_of}
use Rattle.protocol.specs.contracts.command_id.CommandId.{the_type}
use Rattle.protocol.specs.declared.command_id.CommandId.{CommandId}
use Rattle.protocol.specs.declared.command_id.CommandId.TheVariants.{Hello, Sub, Unsub, Read, Write, Begin, Commit, Ping}
use Rattle.model.specs.Turn.{or_else, found_or}
use Rattle.recording.specs.Encoding.{key_in, write_from, action_of, row_size, action_at, rows_fine}
use Rattle.recording.specs.Region.{count_of, rows_of}
use Rattle.recording.specs.Turn.{body_for, last_body, actions_before, earlier}
use Rattle.recording.specs.Promises.{RowAt, Until}
use Rattle.recording.proofs.Encodings.{payload-write_from}
use Rattle.recording.proofs.Packed.{first-row, other-rows, no_rows}
use Rattle.recording.proofs.Regions.{fine-rules, length-rows_of}
use Rattle.recording.proofs.Walks.{action_of-action_at}

-- ---- the first of several

option_or-none : {X : Type 0} (o : Code.Option X) → option_or o Code.None ≡ o
option_or-none Code.None = refl
option_or-none (Code.Some x) = refl

option_or-assoc : {X : Type 0} (a b c : Code.Option X) → option_or (option_or a b) c ≡ option_or a (option_or b c)
option_or-assoc Code.None b c = refl
option_or-assoc (Code.Some x) b c = refl

in_code-or_else : {X : Type 0} (a b : Option X) → in_code (or_else a b) ≡ option_or (in_code a) (in_code b)
in_code-or_else none b = refl
in_code-or_else (some x) b = refl

pub option_copied-or : {X : Type 0} (a b : Code.Option (Bor X))
    → option_copied (option_or a b) ≡ option_or (option_copied a) (option_copied b)
option_copied-or Code.None b = refl
option_copied-or (Code.Some x) b = refl

-- ---- the look-up's loop

-- the loop stands at an offset: f is what was found before it
pub record Looked (r k : Bytes) (until at : ℕ) (f : Code.Option Bytes) : Type 0 where
  pub rest : ℕ
  pub rows : rows_fine rest (drop at (rows_of r)) ≡ true
  pub value : in_code (last_body k (earlier r until))
      ≡ option_or (in_code (last_body k (actions_before rest (until - at) (drop at (rows_of r))))) f

pub look-start : (r k : Bytes) (until : ℕ) → Until r until → Looked r k until 0 Code.None
unfolding earlier
look-start r k until h =
    let m = fine-rules h.fine in
    record {
      rest = count_of r;
      rows = m.rows;
      value = rw (sub-zero until)
          (sym (option_or-none (in_code (last_body k (actions_before (count_of r) until (rows_of r))))));
    }

module _ (r k : Bytes) (until at : ℕ) (f : Code.Option Bytes) (g : Until r until) (l : at < until) where
  look-some : (n : ℕ) → rows_fine n (drop at (rows_of r)) ≡ true → n ≡ 0 → ⊥
  look-some n h e =
      let m = fine-rules g.fine in
      let z : length (drop at (rows_of r)) ≡ 0 = no_rows (drop at (rows_of r)) (rw e at h) in
      omega (arith, g.within, length-drop at (rows_of r), length-rows_of m)

  pub look-row : Looked r k until at f → RowAt r at
  look-row h = go h.rest h.rows
    where
      go : (n : ℕ) → rows_fine n (drop at (rows_of r)) ≡ true → RowAt r at
      go zero e = absurd (look-some zero e refl)
      go (suc n) e = record { fine = g.fine; here = first-row n (drop at (rows_of r)) e }

  pub look-next : Looked r k until at f
      → Looked r k until (at + row_size (drop at (rows_of r)))
      (option_or (in_code (body_for k (action_at (drop at (rows_of r))))) f)
  unfolding actions_before last_body
  look-next h = go h.rest h.rows h.value
    where
      go : (n : ℕ) → rows_fine n (drop at (rows_of r)) ≡ true
          → in_code (last_body k (earlier r until))
          ≡ option_or (in_code (last_body k (actions_before n (until - at) (drop at (rows_of r))))) f
          → Looked r k until (at + row_size (drop at (rows_of r)))
          (option_or (in_code (body_for k (action_at (drop at (rows_of r))))) f)
      go zero e q = absurd (look-some zero e refl)
      go (suc n) e q =
          let s : Bytes = drop at (rows_of r) in
          let ne : until - at ≡ 0 → ⊥ = λ z. omega arith in
          let d : drop (row_size s) s ≡ drop (at + row_size s) (rows_of r) = drop-drop (row_size s) at (rows_of r) in
          let u : until - at - row_size s ≡ until - (at + row_size s) = omega arith in
          let xs : Option Bytes = last_body k (actions_before n (until - at - row_size s) (drop (row_size s) s)) in
          let b : Option Bytes = body_for k (action_at s) in
          let q₁ : in_code (last_body k (earlier r until)) ≡ option_or (in_code (or_else xs b)) f =
          rw (ne_eqb (until - at) 0 ne) at q in
          let q₂ : in_code (last_body k (earlier r until)) ≡ option_or (in_code xs) (option_or (in_code b) f) =
          q₁ ∙ ap (λ (o : Code.Option Bytes). option_or o f) (in_code-or_else xs b)
          ∙ option_or-assoc (in_code xs) (in_code b) f in
          record { rest = n; rows = rw d at (other-rows n s e); value = rw (u, d) at q₂ }

none_before : (n : ℕ) (s : Bytes) → actions_before n 0 s ≡ []
unfolding actions_before
none_before zero s = refl
none_before (suc n) s = refl

pub look-end : (r k : Bytes) (until at : ℕ) (f : Code.Option Bytes) → until ≤ at → Looked r k until at f
    → f ≡ in_code (last_body k (earlier r until))
unfolding last_body
look-end r k until at f l h =
    let z : until - at ≡ 0 = omega arith in
    sym (h.value ∙ rw (z, none_before h.rest (drop at (rows_of r))))

-- ---- one row

pub is_write : (c : CommandId) → false ≡ not (sameb the_type c Write) → id_of c ≡ 4
is_write Hello e = cc
is_write Sub e = cc
is_write Unsub e = cc
is_write Read e = cc
is_write Write e = refl
is_write Begin e = cc
is_write Commit e = cc
is_write Ping e = cc

pub is_other : (c : CommandId) → true ≡ not (sameb the_type c Write) → id_of c ≡ 4 → ⊥
is_other Hello e = λ n. omega arith
is_other Sub e = λ n. omega arith
is_other Unsub e = λ n. omega arith
is_other Read e = λ n. omega arith
is_other Write e = cc
is_other Begin e = λ n. omega arith
is_other Commit e = λ n. omega arith
is_other Ping e = λ n. omega arith

pub body_for-other : (k : Bytes) (a : Action) → (action_id a ≡ 4 → ⊥) → body_for k a ≡ none
unfolding body_for
body_for-other k (hello t) ne = refl
body_for-other k (sub p) ne = refl
body_for-other k (unsub p) ne = refl
body_for-other k (read x) ne = refl
body_for-other k (write x v) ne = absurd (ne refl)
body_for-other k (ping i) ne = refl

body_for-action_of : (k : Bytes) (id : ℕ) (p : Bytes) → id ≡ 4
    → body_for k (action_of id p) ≡ cond (same k (key_in p)) (some p) none
unfolding body_for action_of write_from
body_for-action_of k id p e =
    rw e (ap (λ (l : Bytes). cond (same k (take (first_nul p) p)) (some l) none) (payload-write_from p))

pub body_for-write : (k s : Bytes) → action_id (action_at s) ≡ 4
    → body_for k (action_at s) ≡ cond (same k (key_in (payload (action_at s)))) (some (payload (action_at s))) none
body_for-write k s e =
    ap (body_for k) (sym (action_of-action_at s))
    ∙ body_for-action_of k (action_id (action_at s)) (payload (action_at s)) e

-- ---- what the look-up gives

pub unwrap_or-found : (o : Code.Option (Bor Bytes)) (b : Bor Bytes) (x : Option Bytes) → option_copied o ≡ in_code x
    → (unwrap_or o b).now ≡ found_or x b.now
unwrap_or-found Code.None b none e = refl
unwrap_or-found Code.None b (some x) e = cc
unwrap_or-found (Code.Some p) b none e = cc
unwrap_or-found (Code.Some p) b (some x) e = cc
