-- What is promised of bring back (02, §11), each promise as a type with a name. Nothing is proved here: `Kept` has a theorem for each.
--
-- It is promised what `promises` promises of every other call, in the same words: `stays`, `serves`, `refuses`, `numbers`. Beyond that, that
-- bring back undoes a kill: `KillUndone`, `EntriesBack`.
use Rattle.std.specs.Prelude.{◌≡◌, ◌≢◌, List, [], ◌∷◌, ℕ, ◌/◌, ◌≤◌, ◌<◌, T, length}
use Rattle.meaning.specs.Refusal.{unplaced}
use Rattle.meaning.specs.Bits.{with_bit}
use Rattle.meaning.specs.Layout.{byte, field, hit, is_slot, taken, granules, granule_bytes, directory_granules}
use Rattle.meaning.specs.Names.{hash}
use Rattle.meaning.specs.Entries.{in_use, system, name_of}
use Rattle.meaning.specs.Chain.{chain, owned}
use Rattle.meaning.specs.LookUp.{named}
use Rattle.meaning.specs.Kill.{kill}
use Rattle.meaning.specs.BringBack.{bring_back}
use Rattle.meaning.specs.Calls.{Call, leaves}
use Rattle.meaning.specs.Plain.{File, found, nothing, plain, back_as}
use Rattle.meaning.specs.declared.Geometry.{Geometry}
use Rattle.meaning.specs.declared.Handle.{Handle}
use Rattle.meaning.specs.declared.BroughtBack.{BroughtBack}
use Rattle.lists.specs.Members.{In}
use Rattle.laws.specs.Frame.{Agree}
use Rattle.laws.specs.BringBack.{Whole}
use Rattle.laws.specs.Undo.{AsBefore}
use Rattle.promises.specs.Promises
use Rattle.promises.specs.Promises.{Good, Stays, Becomes, Table, Exactly, Promise, Brings}

-- One call --------------------------------------------------------------------------------------------------------------------------

-- Accepted: there was no file of the name, and there is one, at the slot given, with the attributes and the size that its entry bears; its
-- bytes are what its granules hold now (`becomes`, by `back_as`). Every other file is as it was, and so is whatever else `Becomes` speaks of.
-- The answer is how many slots and granules. Only bit 4 and the HIT bytes of its slots and its granules' GAT bits change.
pub record BringsBack (g : Geometry) (d d' : List ℕ) (s many more : ℕ) : Type 0 where
  pub becomes : Becomes g d d' (name_of g d s) nothing (found (back_as g d s))
  pub here : named g d' (name_of g d s) ≡ s ∷ []
  pub chain' : chain g d' s ≡ chain g d s
  pub owned' : owned g d' s ≡ owned g d s
  pub slots : many ≡ length (chain g d' s)
  pub granules' : more ≡ length (owned g d' s)
  pub flags : (x : ℕ) → In x (chain g d s) → field g d' x 0 ≡ with_bit 4 (field g d x 0)
  pub bytes : (x k : ℕ) → In x (chain g d s) → 1 ≤ k → k < 32 → field g d' x k ≡ field g d x k
  pub hits : (x : ℕ) → In x (chain g d s) → hit g d' x ≡ hash (name_of g d s)
  pub gat : (n : ℕ) → n < granules g → (In n (owned g d s) → ⊥) → taken g d' n ≡ taken g d n
  pub data' : (i : ℕ) → (In (i / granule_bytes g) (directory_granules g d) → ⊥) → byte d' i ≡ byte d i

-- 17 slot in use, 6 bit 6 set, 18 nothing whole to bring back, 19 name in use, 20 a granule is taken; after 2 (21 to 30) and 12, a slot the
-- directory lacks
abbrev pub back_table : Geometry → List ℕ → ℕ → Table
back_table g d s =
    Promises.disk_cases g d (
    (12, (T (is_slot g d s) → ⊥))
    ∷ (17, T (in_use g d s))
    ∷ (6, T (system g d s))
    ∷ (18, (Whole g d s → ⊥))
    ∷ (19, (f : File) × (plain g d (name_of g d s) ≡ found f))
    ∷ (20, (n : ℕ) × In n (owned g d s) × T (taken g d n))
    ∷ [])

-- what must hold of an answer, and of the image left
pub record BackPromised (g : Geometry) (d : List ℕ) (s : ℕ) (r : BroughtBack) (d' : List ℕ) : Type 0 where
  pub stays : Good g d → Stays g d d'
  pub serves : r.refusal.number ≡ 0 → BringsBack g d d' s r.slots r.granules
  pub refuses : r.refusal.number ≢ 0 → (d' ≡ d) × (r.slots ≡ 0) × (r.granules ≡ 0)
  pub numbers : Exactly r.refusal.number (back_table g d s)

-- and does of what the definition answers and leaves
abbrev pub BackPromise : Geometry → List ℕ → ℕ → Type 0
BackPromise g d s = BackPromised g d s (bring_back g d s).0 (bring_back g d s).1

-- whatever the disk, whatever the slot
abbrev pub EveryBack : Type 0
EveryBack = (g : Geometry) (d : List ℕ) (s : ℕ) → BackPromise g d s

-- Every state reached ---------------------------------------------------------------------------------------------------------------

-- a call of 01, or bring back
pub data Step : Type 0 where
  calls : (c : Call) → Step
  brings : (s : ℕ) → Step

unfoldable pub leaves_by : Geometry → List ℕ → Step → List ℕ
leaves_by g d (calls c) = leaves g d c
leaves_by g d (brings s) = (bring_back g d s).1

abbrev pub StepPromise : Geometry → List ℕ → Step → Type 0
StepPromise g d (calls c) = Promise g d c
StepPromise g d (brings s) = BackPromise g d s

abbrev pub AllBring : List Step → Type 0
AllBring [] = Unit {0}
AllBring (calls c ∷ cs) = Brings c × AllBring cs
AllBring (brings s ∷ cs) = AllBring cs

-- each is promised on the disk that those before it left, and leaves what is promised of the first disk
abbrev pub Along : Geometry → List ℕ → List ℕ → List Step → Type 0
Along g d₀ d [] = Stays g d₀ d
Along g d₀ d (c ∷ cs) = Stays g d₀ d × StepPromise g d c × Along g d₀ (leaves_by g d c) cs

abbrev pub EveryState : Type 0
EveryState = (g : Geometry) (d : List ℕ) → Good g d → (cs : List Step) → AllBring cs → Along g d d cs

-- Kill and bring back ---------------------------------------------------------------------------------------------------------------

-- Nothing written in between: it is accepted, tells the slots and granules that the file had, and leaves the very image.
abbrev pub KillUndone : Type 0
KillUndone = (g : Geometry) (d : List ℕ) (h : Handle) → (kill g d h).0.refusal.number ≡ 0
    → bring_back g (kill g d h).1 h.slot ≡
    (record { refusal = unplaced 0; slots = length (chain g d h.slot); granules = length (owned g d h.slot) }, d)

-- "If none of its slots was written since the kill, a brought-back file has the entry bytes it had before": e is any disk on which the
-- entries of the killed file stand as the kill left them, and on which bring back is accepted.
abbrev pub EntriesBack : Type 0
EntriesBack = (g : Geometry) (d : List ℕ) (h : Handle) → (kill g d h).0.refusal.number ≡ 0
    → (e : List ℕ) → ((x : ℕ) → In x (chain g d h.slot) → Agree g (kill g d h).1 e x)
    → (bring_back g e h.slot).0.refusal.number ≡ 0 → AsBefore g d (bring_back g e h.slot).1 h.slot
