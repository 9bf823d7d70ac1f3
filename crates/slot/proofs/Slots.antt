-- The laws of a slot: what its regions and its two head bytes are after a write to one of them, and what the slot then means.
use mathlib.Core.Path.{◌≡◌, refl, sym, ap, ◌∙◌}
use mathlib.Core.List.{[], ◌∷◌}
use mathlib.Core.Bool.{true}
use Prim.Native.Nat.{ℕ, ◌+◌, ◌≤◌}
use native.Mathlib.Nat.{add-zero}
use native.Mathlib.Omega.{arith}
use lib.Dec.{eqb}
use lib.ListN.{length, drop, set}
use lib.Seq.{sets, length-sets, get_or-set_same}
use borrow.Author.Tests.{eq-eqb, ne_eqb}
use Rattle.octets.specs.Octets.{Bytes}
use Rattle.octets.proofs.Parts.{drop-sets, drop-sets-add, part-sets-same, sets-whole, part-sets-before}
use Rattle.octets.proofs.Parts.{part-sets-after, get_d_sets_before, get_d-sets-after}
use Rattle.queue.specs.Region.{InStep, queue_of}
use Rattle.recording.specs.Region.{recording_fine, transaction_of}
use Rattle.subscriptions.specs.Region.{subscriptions_fine, patterns_of}
use Rattle.model.specs.State.{off, free, used}
use Rattle.slot.specs.Image.{ClientImage}
use Rattle.slot.specs.Region.{phase_of, kind_byte, subscriptions_part, recording_part, queue_part, kind_in, hangs_up_in}
use Rattle.slot.specs.Region.{client_of, slot_of, reserve_of, ClientRules}
use Rattle.slot.specs.Promises.{HasClient, Becomes}

-- ---- the parts of a slot

-- s is a slot of n bytes with this phase, kind byte and regions
pub record Holds (R : ℕ) (s : Bytes) (n f k : ℕ) (p r q : Bytes) : Type 0 where
  pub size : length s ≡ n
  pub phase : phase_of s ≡ f
  pub kind : kind_byte s ≡ k
  pub subscriptions : subscriptions_part s ≡ p
  pub recording : recording_part R s ≡ r
  pub queue : queue_part R s ≡ q

pub holds : (R : ℕ) (s : Bytes)
    → Holds R s (length s) (phase_of s) (kind_byte s) (subscriptions_part s) (recording_part R s) (queue_part R s)
holds R s = record { size = refl; phase = refl; kind = refl; subscriptions = refl; recording = refl; queue = refl }

module _ {R : ℕ} {s : Bytes} {n f k : ℕ} {p r q : Bytes} (fits : 4132 + R ≤ n) (h : Holds R s n f k p r q) where
  -- a region is replaced by one as long
  pub holds-subscriptions : (v : Bytes) → length v ≡ 4100 → Holds R (sets s 4 v) n f k v r q
  holds-subscriptions v l =
      record {
        size = length-sets s 4 v ∙ h.size;
        phase = get_d_sets_before s 4 v 0 (omega arith) ∙ h.phase;
        kind = get_d_sets_before s 4 v 1 (omega arith) ∙ h.kind;
        subscriptions = rw l at (part-sets-same s 4 v (omega (arith, h.size)));
        recording = part-sets-after s 4 v 4104 (12 + R) (omega arith) ∙ h.recording;
        queue = drop-sets s 4 v (4116 + R) (omega arith) ∙ h.queue;
      }

  pub holds-recording : (v : Bytes) → length v ≡ 12 + R → Holds R (sets s 4104 v) n f k p v q
  holds-recording v l =
      record {
        size = length-sets s 4104 v ∙ h.size;
        phase = get_d_sets_before s 4104 v 0 (omega arith) ∙ h.phase;
        kind = get_d_sets_before s 4104 v 1 (omega arith) ∙ h.kind;
        subscriptions = part-sets-before s 4104 v 4 4100 (omega arith) ∙ h.subscriptions;
        recording = rw l at (part-sets-same s 4104 v (omega (arith, h.size)));
        queue = drop-sets s 4104 v (4116 + R) (omega arith) ∙ h.queue;
      }

  pub holds-queue : (v : Bytes) → length v ≡ length q → Holds R (sets s (4116 + R) v) n f k p r v
  holds-queue v l =
      record {
        size = length-sets s (4116 + R) v ∙ h.size;
        phase = get_d_sets_before s (4116 + R) v 0 (omega arith) ∙ h.phase;
        kind = get_d_sets_before s (4116 + R) v 1 (omega arith) ∙ h.kind;
        subscriptions = part-sets-before s (4116 + R) v 4 4100 (omega arith) ∙ h.subscriptions;
        recording = part-sets-before s (4116 + R) v 4104 (12 + R) (omega arith) ∙ h.recording;
        queue =
            rw (add-zero (4116 + R)) at (drop-sets-add s (4116 + R) 0 v)
            ∙ sets-whole (drop (4116 + R) s) v (l ∙ sym (ap length h.queue));
      }

  -- a head byte is written
  pub holds-phase : (b : ℕ) → Holds R (set s 0 b) n b k p r q
  holds-phase b =
      record {
        size = length-sets s 0 (b ∷ []) ∙ h.size;
        phase = get_or-set_same s 0 b 0 (omega (arith, h.size));
        kind = get_d-sets-after s 0 (b ∷ []) 1 (omega arith) ∙ h.kind;
        subscriptions = part-sets-after s 0 (b ∷ []) 4 4100 (omega arith) ∙ h.subscriptions;
        recording = part-sets-after s 0 (b ∷ []) 4104 (12 + R) (omega arith) ∙ h.recording;
        queue = drop-sets s 0 (b ∷ []) (4116 + R) (omega arith) ∙ h.queue;
      }

  pub holds-kind : (b : ℕ) → Holds R (set s 1 b) n f b p r q
  holds-kind b =
      record {
        size = length-sets s 1 (b ∷ []) ∙ h.size;
        phase = get_d_sets_before s 1 (b ∷ []) 0 (omega arith) ∙ h.phase;
        kind = get_or-set_same s 1 b 0 (omega (arith, h.size));
        subscriptions = part-sets-after s 1 (b ∷ []) 4 4100 (omega arith) ∙ h.subscriptions;
        recording = part-sets-after s 1 (b ∷ []) 4104 (12 + R) (omega arith) ∙ h.recording;
        queue = drop-sets s 1 (b ∷ []) (4116 + R) (omega arith) ∙ h.queue;
      }

-- ---- what the parts mean

abbrev pub image : ℕ → ℕ → Bytes → Bytes → Bytes → ClientImage
image f k p r q =
    record {
      kind = kind_in k;
      hangs_up = hangs_up_in k;
      shut = eqb f 2;
      patterns = patterns_of p;
      transaction = transaction_of r;
      queue = queue_of q;
    }

-- the rules of a client, of the parts
pub record Fine (R n f k : ℕ) (p r q : Bytes) : Type 0 where
  pub sized : 4132 + R ≤ n
  pub taken-up : f ≡ 0 → ⊥
  pub phase : f ≤ 2
  pub kind : k ≤ 7
  pub subscriptions : subscriptions_fine p ≡ true
  pub recording : recording_fine r ≡ true
  pub queue : InStep (reserve_of f) q
  pub no-patterns : f ≡ 2 → patterns_of p ≡ []
  pub no-recording : f ≡ 2 → transaction_of r ≡ off

pub client-fine : {R : ℕ} {s : Bytes} → HasClient R s
    → Fine R (length s) (phase_of s) (kind_byte s) (subscriptions_part s) (recording_part R s) (queue_part R s)
unfolding client_of
client-fine h =
    record {
      sized = h.rules.sized;
      taken-up = h.taken-up;
      phase = h.rules.phase;
      kind = h.rules.kind;
      subscriptions = h.rules.subscriptions;
      recording = h.rules.recording;
      queue = h.rules.queue;
      no-patterns = λ e. (h.rules.bare e).no-patterns;
      no-recording = λ e. (h.rules.bare e).no-recording;
    }

-- the parts of an open client
pub open-fine : {R n k : ℕ} {p r q : Bytes} → 4132 + R ≤ n → k ≤ 7 → subscriptions_fine p ≡ true
    → recording_fine r ≡ true → InStep 64 q → Fine R n 1 k p r q
open-fine l k s r q =
    record {
      sized = l;
      taken-up = λ e. omega arith;
      phase = omega arith;
      kind = k;
      subscriptions = s;
      recording = r;
      queue = q;
      no-patterns = λ e. absurd (omega arith);
      no-recording = λ e. absurd (omega arith);
    }

pub client_of-holds : {R : ℕ} {s : Bytes} {n f k : ℕ} {p r q : Bytes} → Holds R s n f k p r q
    → client_of R s ≡ image f k p r q
unfolding client_of
client_of-holds {R} {s} {n} {f} {k} {p} {r} {q} h =
    ap (λ (x : ℕ). image x (kind_byte s) (subscriptions_part s) (recording_part R s) (queue_part R s)) h.phase
    ∙ ap (λ (x : ℕ). image f x (subscriptions_part s) (recording_part R s) (queue_part R s)) h.kind
    ∙ ap (λ (x : Bytes). image f k x (recording_part R s) (queue_part R s)) h.subscriptions
    ∙ ap (λ (x : Bytes). image f k p x (queue_part R s)) h.recording
    ∙ ap (λ (x : Bytes). image f k p r x) h.queue

pub rules-holds : {R : ℕ} {s : Bytes} {n f k : ℕ} {p r q : Bytes} → Holds R s n f k p r q → Fine R n f k p r q
    → ClientRules R s
unfolding client_of
rules-holds h w =
    record {
      sized = rw h.size w.sized;
      phase = rw h.phase w.phase;
      kind = rw h.kind w.kind;
      subscriptions = rw h.subscriptions w.subscriptions;
      recording = rw h.recording w.recording;
      queue = rw (h.phase, h.queue) w.queue;
      bare =
          λ e. record {
            no-patterns = ap patterns_of h.subscriptions ∙ w.no-patterns (sym h.phase ∙ e);
            no-recording = ap transaction_of h.recording ∙ w.no-recording (sym h.phase ∙ e);
          };
    }

pub slot_of-used : (R : ℕ) (s : Bytes) → (phase_of s ≡ 0 → ⊥) → slot_of R s ≡ used (client_of R s)
unfolding slot_of
slot_of-used R s n = rw (ne_eqb (phase_of s) 0 n)

pub slot_of-free : (R : ℕ) (s : Bytes) → phase_of s ≡ 0 → slot_of R s ≡ free
unfolding slot_of
slot_of-free R s e = rw (eq-eqb (phase_of s) 0 e)

-- the parts make up a client
pub becomes : {R : ℕ} {s s' : Bytes} {f k : ℕ} {p r q : Bytes} {c : ClientImage} → Holds R s' (length s) f k p r q
    → Fine R (length s) f k p r q → image f k p r q ≡ c → Becomes R s s' (used c)
becomes {R} {s} {s'} h w e =
    record {
      size = h.size;
      rules = λ _. rules-holds h w;
      means = slot_of-used R s' (λ z. w.taken-up (sym h.phase ∙ z)) ∙ ap used (client_of-holds h ∙ e);
    }
