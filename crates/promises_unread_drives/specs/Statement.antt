-- What is not read (01, Directory layout; `promises_unread`), of the calls on two drives (02 §9): two pairs of images, in each drive alike but for such
-- places, get the same answers from every call, with a drive number or without, and the images left are alike again, in both drives. This is said of any
-- images, consistent or not, and what may differ is each drive's own choice. Nothing is proved here: `Kept` has the theorem.
use Rattle.std.specs.Prelude.{◌≡◌, Bool, List, ℕ, ◌<◌}
use Rattle.meaning.specs.declared.Geometry.{Geometry}
use Rattle.meaning.specs.declared.NewFile.{NewFile}
use Rattle.meaning.specs.declared.Mode.{Mode}
use Rattle.drives.specs.Pair.{Pair, pair, geometry, image}
use Rattle.drives.specs.ByName.{look_up, open_file, create}
use Rattle.drives.specs.ByHandle.{read_record, read_sector, write_record, allot, trim, kill}
use Rattle.drives.specs.declared.DriveHandle.{DriveHandle}
use Rattle.promises_unread.specs.Statement.{Kinds, ReadAlike, Apart}

-- the further kinds that may differ in drive 0 and in drive 1, and the geometry stated for each
module _ (u v : Kinds) (g h : Geometry) where
  -- The answer and both images of a call that writes: the one is the same, the others alike.
  abbrev pub BothAlike : {A : Type 0} → A × List ℕ × List ℕ → A × List ℕ × List ℕ → Type 0
  BothAlike x y = (x.0 ≡ y.0) × ReadAlike u g x.1 y.1 × ReadAlike v h x.2 y.2

  pub record SameOn (p q : Pair) : Type 0 where
    pub looks_up : (numbered : Bool) (k : ℕ) (n : List ℕ) → look_up p numbered k n ≡ look_up q numbered k n
    pub opens : (numbered : Bool) (k : ℕ) (n : List ℕ) (len : ℕ) (checking : Bool) (code : ℕ)
        → open_file p numbered k n len checking code ≡ open_file q numbered k n len checking code
    pub creates : (numbered : Bool) (k : ℕ) (n : List ℕ) (f : NewFile) (checking : Bool)
        → BothAlike (create p numbered k n f checking) (create q numbered k n f checking)
    -- the buffer, but of a system file that owns granules of the directory in the drive that the handle names
    pub reads : (x : DriveHandle) (b : List ℕ) → ((read_record p x b).0 ≡ (read_record q x b).0)
        × ((x.drive < 2 → Apart (geometry p x.drive) (image p x.drive) x.handle.slot) → (read_record p x b).1 ≡ (read_record q x b).1)
    pub reads_sector : (x : DriveHandle) (k : ℕ) → read_sector p x k ≡ read_sector q x k
    pub writes : (m : Mode) (x : DriveHandle) (b : List ℕ) → BothAlike (write_record p m x b) (write_record q m x b)
    pub allots : (x : DriveHandle) (k : ℕ) → BothAlike (allot p x k) (allot q x k)
    pub trims : (x : DriveHandle) → BothAlike (trim p x) (trim q x)
    pub kills : (x : DriveHandle) → BothAlike (kill p x) (kill q x)

abbrev pub EveryDrive : Type 0
EveryDrive =
    (u v : Kinds) (g h : Geometry) (d d' e e' : List ℕ) → ReadAlike u g d d' → ReadAlike v h e e' → SameOn u v g h (pair g d h e) (pair g d' h e')
