-- What is promised of two drives (02 §9), demand 3 apart, which is in Interleaved.antt. Nothing is proved here.
use Rattle.std.specs.Prelude.{ℕ, ◌≡◌, ◌≢◌, ◌⊎◌, Bool, true, false, List}
use Rattle.meaning.specs.Refusals.{check}
use Rattle.meaning.specs.LookUp
use Rattle.meaning.specs.Open
use Rattle.meaning.specs.Create
use Rattle.meaning.specs.Read
use Rattle.meaning.specs.Write
use Rattle.meaning.specs.Allot
use Rattle.meaning.specs.Trim
use Rattle.meaning.specs.Kill
use Rattle.meaning.specs.declared.Answer.{Answer}
use Rattle.meaning.specs.declared.Handle.{Handle}
use Rattle.meaning.specs.declared.NewFile.{NewFile}
use Rattle.meaning.specs.declared.Mode.{Mode}
use Rattle.meaning.specs.declared.Refusal.{Refusal}
use Rattle.drives.specs.Pair.{Pair, geometry, image, leaving, no_such_drive, of_disk, naming', fault_drive, no_drive, tested, handle_on, answered}
use Rattle.drives.specs.ByName.{looked_up_on, opened_on, created_on, not_looked_up, not_opened, not_created, searched, passed_over, takes, look_up}
use Rattle.drives.specs.ByName.{open_file, create}
use Rattle.drives.specs.ByHandle.{unheld, part_on, no_part, read_record, read_sector, write_record, allot, trim, kill}
use Rattle.drives.specs.declared.DriveAnswer.{DriveAnswer}
use Rattle.drives.specs.declared.DriveHandle.{DriveHandle}

-- the numbers that a drive has
pub data IsDrive : ℕ → Type 0 where
  zeroth : IsDrive 0
  first : IsDrive 1

-- 1. Each call with a number is the call on one image ---------------------------------------------------------------------------------

-- what a call that changes answers on drive n, and both images: that of drive n as the call on one image leaves it, the other as it was
abbrev pub ChangesOn : Pair → ℕ → Answer × List ℕ → DriveAnswer × List ℕ × List ℕ → Type 0
ChangesOn p n r x = x ≡ (answered n r.0, leaving p n r.1 0, leaving p n r.1 1)

pub record OnOne (p : Pair) (n : ℕ) : Type 0 where
  pub looks_up : (m : List ℕ) → look_up p true n m ≡ looked_up_on n 0 (LookUp.look_up (geometry p n) (image p n) m)
  pub opens : (m : List ℕ) (len : ℕ) (checking : Bool) (code : ℕ)
      → open_file p true n m len checking code ≡ opened_on n (Open.open' (geometry p n) (image p n) m len checking code)
  pub creates : (m : List ℕ) (f : NewFile) (checking : Bool) → let r = Create.create (geometry p n) (image p n) m f checking in
      create p true n m f checking ≡ (created_on n r.0, leaving p n r.1 0, leaving p n r.1 1)
  pub reads : (h : Handle) (b : List ℕ) → let r = Read.read_record (geometry p n) (image p n) h b in read_record p (handle_on n h) b ≡ (answered n r.0, r.1)
  pub reads_sector : (h : Handle) (k : ℕ) → read_sector p (handle_on n h) k ≡ part_on n (Read.read_sector (geometry p n) (image p n) h k)
  pub writes : (m : Mode) (h : Handle) (b : List ℕ) → ChangesOn p n (Write.write_record (geometry p n) (image p n) m h b) (write_record p m (handle_on n h) b)
  pub allots : (h : Handle) (k : ℕ) → ChangesOn p n (Allot.allot (geometry p n) (image p n) h k) (allot p (handle_on n h) k)
  pub trims : (h : Handle) → ChangesOn p n (Trim.trim (geometry p n) (image p n) h) (trim p (handle_on n h))
  pub kills : (h : Handle) → ChangesOn p n (Kill.kill (geometry p n) (image p n) h) (kill p (handle_on n h))

abbrev pub EveryNumber : Type 0
EveryNumber = (p : Pair) (n : ℕ) → IsDrive n → OnOne p n

-- 2. A call on one drive changes no byte of the other -----------------------------------------------------------------------------------

abbrev pub Spares : Type 0
Spares = (p : Pair) (n k : ℕ) (d : List ℕ) → n ≢ k → leaving p n d k ≡ image p k

-- 3. Without a number -------------------------------------------------------------------------------------------------------------------

-- where neither disk is refused it is the call on the drive that the search names, whatever stands for the number
pub record Without (p : Pair) : Type 0 where
  pub looks_up : (k : ℕ) (m : List ℕ)
      → let j = searched p m in look_up p false k m ≡ looked_up_on j (passed_over p m) (LookUp.look_up (geometry p j) (image p j) m)
  pub opens : (k : ℕ) (m : List ℕ) (len : ℕ) (checking : Bool) (code : ℕ)
      → open_file p false k m len checking code ≡ open_file p true (searched p m) m len checking code
  pub creates : (k : ℕ) (m : List ℕ) (f : NewFile) (checking : Bool) → create p false k m f checking ≡ create p true (takes p m) m f checking

abbrev pub EverySearch : Type 0
EverySearch = (p : Pair) → (tested p).number ≡ 0 → Without p

-- and one image at least is as it was
abbrev pub OneStays : Type 0
OneStays =
    (p : Pair) (numbered : Bool) (k : ℕ) (m : List ℕ) (f : NewFile) (checking : Bool)
    → ((create p numbered k m f checking).1 ≡ p.image0) ⊎ ((create p numbered k m f checking).2 ≡ p.image1)

-- 4. The numbers ------------------------------------------------------------------------------------------------------------------------

-- 16 before all others, whatever both images hold: no drive is told, and the count is 0
pub record NoDrive (p : Pair) (n : ℕ) : Type 0 where
  pub looks_up : (m : List ℕ) → look_up p true n m ≡ not_looked_up no_such_drive
  pub opens : (m : List ℕ) (len : ℕ) (checking : Bool) (code : ℕ) → open_file p true n m len checking code ≡ not_opened no_such_drive
  pub creates : (m : List ℕ) (f : NewFile) (checking : Bool) → create p true n m f checking ≡ (not_created no_such_drive, p.image0, p.image1)
  pub reads : (h : Handle) (b : List ℕ) → read_record p (handle_on n h) b ≡ (unheld (handle_on n h), b)
  pub reads_sector : (h : Handle) (k : ℕ) → read_sector p (handle_on n h) k ≡ no_part no_such_drive
  pub writes : (m : Mode) (h : Handle) (b : List ℕ) → write_record p m (handle_on n h) b ≡ (unheld (handle_on n h), p.image0, p.image1)
  pub allots : (h : Handle) (k : ℕ) → allot p (handle_on n h) k ≡ (unheld (handle_on n h), p.image0, p.image1)
  pub trims : (h : Handle) → trim p (handle_on n h) ≡ (unheld (handle_on n h), p.image0, p.image1)
  pub kills : (h : Handle) → kill p (handle_on n h) ≡ (unheld (handle_on n h), p.image0, p.image1)

abbrev pub Sixteen : Type 0
Sixteen = (p : Pair) (n : ℕ) → n ≢ 0 → n ≢ 1 → NoDrive p n

-- without a number: drive 0's 1 and 21 to 30, then drive 1's, each naming its drive, and nothing else is told
pub record BothTested (p : Pair) : Type 0 where
  pub zeroth : (check p.geometry0 p.image0).number ≢ 0 → tested p ≡ naming' 0 (check p.geometry0 p.image0)
  pub first : (check p.geometry0 p.image0).number ≡ 0 → (check p.geometry1 p.image1).number ≢ 0
      → tested p ≡ naming' 1 (check p.geometry1 p.image1)
  pub neither : (check p.geometry0 p.image0).number ≡ 0 → (check p.geometry1 p.image1).number ≡ 0 → (tested p).number ≡ 0
  pub looks_up : (tested p).number ≢ 0 → (k : ℕ) (m : List ℕ) → look_up p false k m ≡ not_looked_up (tested p)
  pub opens : (tested p).number ≢ 0 → (k : ℕ) (m : List ℕ) (len : ℕ) (checking : Bool) (code : ℕ)
      → open_file p false k m len checking code ≡ not_opened (tested p)
  pub creates : (tested p).number ≢ 0 → (k : ℕ) (m : List ℕ) (f : NewFile) (checking : Bool)
      → create p false k m f checking ≡ (not_created (tested p), p.image0, p.image1)

abbrev pub EveryTest : Type 0
EveryTest = (p : Pair) → BothTested p

-- a call's number is that of the call on one image; it names the drive under 1 and 21 to 30, and none under any other
pub record Names (n : ℕ) (c : Refusal) : Type 0 where
  pub number : (naming' n c).number ≡ c.number
  pub at : (naming' n c).at ≡ c.at
  pub disk : of_disk c.number ≡ true → fault_drive (naming' n c) ≡ n
  pub other : of_disk c.number ≡ false → c.image ≡ 0 → fault_drive (naming' n c) ≡ no_drive

abbrev pub EveryName : Type 0
EveryName = (n : ℕ) → IsDrive n → (c : Refusal) → Names n c
