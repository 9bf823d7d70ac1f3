-- What set up and the four calls after it promise, for every memory and every argument: the numbers given back, and
-- what the memory means afterwards (document 01, "The numbers a call gives back").
use Rattle.std.specs.Prelude.{◌≡◌, refl, List, [], ◌∷◌, true, false, cond, ℕ, ◌≤◌, leb, length, take}
use Rattle.std.proofs.lemmas.List.Edits.{sets}
use Rattle.octets.specs.Octets.{Bytes}
use Rattle.protocol.specs.Terms.{Protocol}
use Rattle.model.specs.State.{Sizes, State, in_range, empty_state}
use Rattle.model.specs.Events.{after_event}
use Rattle.model.specs.Decision.{Call, takes, Silent, Reply}
use Rattle.model.specs.Calls.{decide}
use Rattle.memory.specs.Layout.{sizes_of, memory_size}
use Rattle.memory.specs.Image.{Image, image_of}
use Rattle.memory.specs.Rules.{memory_fine, KeptBehind}
use Rattle.refinement.specs.Represents.{state_image}

-- the answer where the memory breaks a rule of its layout
abbrev pub broken : Reply
broken = record { answer = 7; count = 0; bytes = [] }

-- the memory keeps its rules and means this
pub record Holds (m : Bytes) (im : Image) : Type 0 where
  pub fine : memory_fine m ≡ true
  pub means : image_of m ≡ im

-- the memory holds a state of the simple server
abbrev pub Represents : Bytes → State → Type 0
Represents m st = Holds m (state_image st)

-- ---- set up

-- the sizes that a set up names
abbrev pub sizes_with : ℕ → ℕ → ℕ → ℕ → Sizes
sizes_with n s q r = record { slot_count = n; store_room = s; queue_room = q; record_room = r }

-- the bytes that a set up needs; 0 where a size is out of range
unfoldable pub size_for : Sizes → ℕ
size_for z = cond (in_range z) (memory_size z) 0

-- set up's answer: 8 for a size out of range, then 5 for a memory that is too short
unfoldable pub set_up_answer : Sizes → Bytes → ℕ
set_up_answer z m = cond (in_range z) (cond (leb (memory_size z) (length m)) 0 5) 8

-- a size out of range is 8 although the memory is too short, and sizes in range with that memory are 5
pub set-up-order : set_up_answer (sizes_with 33 256 1024 256) [] ∷ set_up_answer (sizes_with 32 256 1024 256) [] ∷ []
    ≡ 8 ∷ 5 ∷ []
unfolding set_up_answer in_range
set-up-order = refl

-- A set up that was lent the memory m gave these numbers and left m'. Answered 0, it leaves an empty store and free
-- slots, whatever m held; what is behind the slots is as it was.
pub record SetsUp (z : Sizes) (m : Bytes) (answer count : ℕ) (m' : Bytes) : Type 0 where
  pub answered : answer ≡ set_up_answer z m
  pub counted : count ≡ 0
  pub unaltered : 1 ≤ answer → m' ≡ m
  pub next : answer ≡ 0 → Holds m' (empty_state z)
  pub behind : KeptBehind z m m'

-- ---- the calls after it

-- The protocol is how messages are read and written and patterns matched; the broker's calls keep these contracts for
-- `infod3`.
module _ (protocol : Protocol) where
  -- what a call gives back, from the memory that it is lent: 7 before all else
  unfoldable pub reply_to : Call → Bytes → Reply
  reply_to x m = cond (memory_fine m) (decide protocol x (image_of m)).reply broken

  -- a memory that breaks a rule is 7, whatever the call
  pub broken-first : (x : Call) (m : Bytes) → memory_fine m ≡ false → reply_to x m ≡ broken
  unfolding reply_to
  broken-first x m e = rw e

  -- what the memory means after a call that found its rules kept
  unfoldable pub image_after : Call → Bytes → Image
  image_after x m = after_event protocol (decide protocol x (image_of m)).event (image_of m)

  -- A call that was lent the memory m gave these numbers and left m'. Beside the answers 1 to 8 every lent byte is as
  -- it was; a memory that kept its rules keeps them, and what is behind its slots is as it was.
  pub record Serves (x : Call) (m : Bytes) (answer count : ℕ) (m' : Bytes) : Type 0 where
    pub answered : answer ≡ (reply_to x m).answer
    pub counted : count ≡ (reply_to x m).count
    pub unaltered : 1 ≤ answer → answer ≤ 8 → m' ≡ m
    pub next : memory_fine m ≡ true → Holds m' (image_after x m)
    pub behind : memory_fine m ≡ true → KeptBehind (sizes_of m) m m'

  -- a take that was lent the slice out left out': the message stands at its front, and the rest is as it was
  pub record Takes (i : ℕ) (m out : Bytes) (answer count : ℕ) (m' out' : Bytes) : Type 0 where
    pub serves : Serves (takes i (length out)) m answer count m'
    pub written : out' ≡ sets out 0 (reply_to (takes i (length out)) m).bytes

  -- one call of a list: what it was, what it gave, and the memory that it left
  pub data Step (m : Bytes) : Call → Reply → Bytes → Type 0 where
    served : {x : Call} {answer count : ℕ} {m' : Bytes} → Silent x → Serves x m answer count m'
        → Step m x (record { answer = answer; count = count; bytes = [] }) m'
    -- what a take gave are the first bytes of its out slice, as many as its count says
    took : {i answer count : ℕ} {out m' out' : Bytes} → Takes i m out answer count m' out'
        → Step m (takes i (length out)) (record { answer = answer; count = count; bytes = take count out' }) m'

  -- a list of calls, each lent the memory that the last one left; what each gave; and the memory after all
  pub data Run : Bytes → List Call → List Reply → Bytes → Type 0 where
    none_left : {m : Bytes} → Run m [] [] m
    next : {m m' m'' : Bytes} {x : Call} {r : Reply} {xs : List Call} {rs : List Reply}
        → Step m x r m' → Run m' xs rs m'' → Run m (x ∷ xs) (r ∷ rs) m''
