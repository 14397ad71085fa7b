-- Slots that are known to be clear of some kinds of fault (02 §2): all of them below n.
use Rattle.std.specs.Prelude.{◌≡◌, List, true, false, ℕ, ◌≤◌, ◌<◌, get_or}
use Rattle.meaning.specs.Layout.{granules, taken}
use Rattle.meaning.specs.Entries.{in_use, entry_granules}
use Rattle.meaning.specs.Fault.{duplicate_fault, run_fault, gat_fault, shared_fault}
use Rattle.meaning.specs.declared.Geometry.{Geometry}
use Rattle.lists.specs.Members.{In}
use Rattle.layout.specs.Room.{Slot}

module _ (g : Geometry) (d : List ℕ) where
  -- 26, 27, 28: a run off the disk, a GAT bit missing, a granule shared
  pub record RunsClear (n : ℕ) : Type 0 where
    pub run : (s : ℕ) → s < n → Slot g d s → run_fault g d s ≡ false
    pub gat : (s : ℕ) → s < n → Slot g d s → gat_fault g d s ≡ false
    pub shared : (s : ℕ) → s < n → Slot g d s → shared_fault g d s ≡ false

  -- 24: a duplicate name
  pub record NamesClear (n : ℕ) : Type 0 where
    pub name : (s : ℕ) → s < n → Slot g d s → duplicate_fault g d s ≡ false

  -- the entries in use below slot n are off the owner map m: a granule that is open has its GAT bit set and is in none of them
  pub record ClearThrough (n : ℕ) (m : List ℕ) : Type 0 where
    pub clear : RunsClear n
    pub bits : (q : ℕ) → q < granules g → 1 ≤ get_or m q 0 → taken g d q ≡ true
    pub free : (q t : ℕ) → q < granules g → 1 ≤ get_or m q 0 → t < n → Slot g d t → in_use g d t ≡ true → In q (entry_granules g d t) → ⊥
