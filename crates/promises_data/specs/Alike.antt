-- Under two geometries alike but for the flag only those calls answer otherwise that create or grow (02 §4): the flag is the caller's word, and
-- nothing on a disk hangs on it but which slots are free for an entry. Nothing is proved here: `Kept` has the theorems.
use Rattle.std.specs.Prelude.{◌≡◌, ◌⊎◌, Bool, false, List, ℕ}
use Rattle.meaning.specs.Names.{comes_in}
use Rattle.meaning.specs.Consistent.{consistent}
use Rattle.meaning.specs.Free.{free_slots}
use Rattle.meaning.specs.Growth.{growth}
use Rattle.meaning.specs.Refusals.{check}
use Rattle.meaning.specs.LookUp.{look_up, missing}
use Rattle.meaning.specs.Open.{open'}
use Rattle.meaning.specs.Create.{create}
use Rattle.meaning.specs.Amount.{how_many}
use Rattle.meaning.specs.Read.{read_of, read_sector}
use Rattle.meaning.specs.Write.{write_of, to_write}
use Rattle.meaning.specs.Allot.{allot, to_allot}
use Rattle.meaning.specs.Trim.{trim}
use Rattle.meaning.specs.Kill.{kill}
use Rattle.meaning.specs.BringBack.{bring_back}
use Rattle.meaning.specs.Listing
use Rattle.meaning.specs.FreeSpace.{free_space}
use Rattle.meaning.specs.Calls.{Call, checks, looks_up, opens, creates, reads, reads_sector, writes, allots, trims, kills, lists, counts, measures}
use Rattle.meaning.specs.declared.Geometry.{Geometry}
use Rattle.meaning.specs.declared.Handle.{Handle}
use Rattle.differences.specs.Compare.{compare}

-- the same disk, stated as a system disk (true) or as a data disk (false)
abbrev pub stated : Bool → Geometry → Geometry
stated b g = record { blocks = g.blocks; units = g.units; start = g.start; noPassword = g.noPassword; system = b; granule = g.granule }

-- alike but for the flag
pub record ButForFlag (g h : Geometry) : Type 0 where
  pub blocks : g.blocks ≡ h.blocks
  pub units : g.units ≡ h.units
  pub start : g.start ≡ h.start
  pub noPassword : g.noPassword ≡ h.noPassword
  pub granule : g.granule ≡ h.granule

-- the file of that handle grows alike: to k granules more, or to the word that no slot is left
abbrev pub GrowsAlike : Geometry → Geometry → List ℕ → Handle → ℕ → Type 0
GrowsAlike g h d x k = growth g x.slot k d ≡ growth h x.slot k d

-- The whole answer is the same: number, slot, handle, buffer, and the image left. Of a create that is said where the file is there already or
-- the free slots are the same; of write and allot where the growth that they need is the same, as it is where none is needed.
abbrev pub Agrees : Geometry → Geometry → List ℕ → Call → Type 0
Agrees g h d checks = check g d ≡ check h d
Agrees g h d (looks_up n) = look_up g d n ≡ look_up h d n
Agrees g h d (opens n len checking code) = open' g d n len checking code ≡ open' h d n len checking code
Agrees g h d (creates n f checking) =
    (missing g d (comes_in n).name ≡ false) ⊎ (free_slots g d ≡ free_slots h d) → create g d n f checking ≡ create h d n f checking
Agrees g h d (reads a x b) = let n = how_many a x.len b in read_of g d x n b ≡ read_of h d x n b
Agrees g h d (reads_sector x k) = read_sector g d x k ≡ read_sector h d x k
Agrees g h d (writes a m x b) =
    let n = how_many a x.len b in GrowsAlike g h d x (to_write g d m x n) → write_of g d m x n b ≡ write_of h d m x n b
Agrees g h d (allots x k) = GrowsAlike g h d x (to_allot g d x k) → allot g d x k ≡ allot h d x k
Agrees g h d (trims x) = trim g d x ≡ trim h d x
Agrees g h d (kills x) = kill g d x ≡ kill h d x
Agrees g h d (lists i) = Listing.list g d i ≡ Listing.list h d i
Agrees g h d counts = Listing.counts g d ≡ Listing.counts h d
Agrees g h d measures = free_space g d ≡ free_space h d

abbrev pub EveryCall : Type 0
EveryCall = (g h : Geometry) → ButForFlag g h → (d : List ℕ) (c : Call) → Agrees g h d c

-- A disk that was filled as a data disk stays consistent when it is stated as a system disk, and the other way round.
abbrev pub EveryDisk : Type 0
EveryDisk = (g h : Geometry) → ButForFlag g h → (d : List ℕ) → consistent g d ≡ consistent h d

-- A kept slot may be brought back: bring back answers alike.
abbrev pub EveryBack : Type 0
EveryBack = (g h : Geometry) → ButForFlag g h → (d : List ℕ) (s : ℕ) → bring_back g d s ≡ bring_back h d s

-- Compare, each disk with a flag of its own
abbrev pub EveryPair : Type 0
EveryPair =
    (g h g' h' : Geometry) → ButForFlag g h → ButForFlag g' h' → (d d' : List ℕ) (i : ℕ) → compare g d g' d' i ≡ compare h d h' d' i
